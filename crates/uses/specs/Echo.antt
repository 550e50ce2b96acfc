-- What a server that echoes answers.
use Rattle.std.specs.Prelude.{◌≡◌, ℕ, List, [], ◌∷◌, ◌++◌, length, Bool, true, false, MatchBool, ◌==◌}
use Rattle.decoders.specs.Varints.{varint_bytes}
use Rattle.uses.specs.declared.echo.Echo.{Echo}

-- a packet as it came; and for one of kind 0 an empty one, behind which no further is taken
abbrev pub echoes : Echo → ℕ → List ℕ → List ℕ → Bool → Echo → Type 0
echoes a kind payload answer more b = MatchBool (kind == 0) ((answer ≡ 0 ∷ 0 ∷ []) × (more ≡ false))
    ((answer ≡ (kind ∷ varint_bytes (length payload)) ++ payload) × (more ≡ true))

-- what echoes has no state
abbrev pub echo : Echo
echo = record {}
