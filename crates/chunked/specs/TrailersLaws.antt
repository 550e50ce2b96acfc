-- A law of lines that trailers may have.
use Rattle.std.specs.Prelude.{ℕ, List, [], ◌∷◌}
use Rattle.chunked.specs.Names.{AllByRecursion, IsField, IsTrailer}

-- they are fields
pub trailers_are_fields : (fields : List (List ℕ)) → AllByRecursion IsTrailer fields → AllByRecursion IsField fields
trailers_are_fields [] all = tt
trailers_are_fields (f ∷ fields) all = (all.0.0, trailers_are_fields fields all.1)
