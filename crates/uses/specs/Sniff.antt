-- Which format the first bytes of a stream tell.
use Rattle.std.specs.Prelude.{ℕ, Bool, ◌==◌, List, [], ◌∷◌, if◌then◌else◌}
use Rattle.std.specs.List.{starts_with}
use Rattle.uses.specs.declared.sniff.Format.{Format}
use Rattle.uses.specs.declared.sniff.Format.TheVariants.{Png, Gzip, Zip, Other}

abbrev pub starts_as : List ℕ → List ℕ → Bool
starts_as xs magic = starts_with (λ a b. a == b) xs magic

-- by the first bytes that are shown, sixteen at the most
abbrev pub format_of : List ℕ → Format
format_of head =
    if starts_as head (137 ∷ 80 ∷ 78 ∷ 71 ∷ 13 ∷ 10 ∷ 26 ∷ 10 ∷ []) then Png
    else if starts_as head (31 ∷ 139 ∷ []) then Gzip
    else if starts_as head (80 ∷ 75 ∷ 3 ∷ 4 ∷ []) then Zip
    else Other
