-- Laws of bytes of lines, and of lines of the trailers.
use Rattle.std.specs.Prelude.{◌≢◌, ℕ, ◌<◌, ◌≤◌, List, [], ◌∷◌, length}
use Rattle.std.proofs.Common.{arith}
use Rattle.httparse.specs.Grammar.{is_token_byte}
use Rattle.chunked.specs.Names.{BehindFirst, digit_value, IsTextByte, IsTokenByte, IsValueByte, nat_tests}

-- a byte of a token is a visible one, and none of the signs of which lines are made
pub token_plain : (b : ℕ) → IsTokenByte b
    → (33 ≤ b) × (b ≢ 58) × (b ≢ 59) × (b ≢ 61) × (b ≢ 34) × (b ≢ 92)
unfolding is_token_byte
token_plain b h = grind (arith, nat_tests)

pub token_is_text : (b : ℕ) → IsTokenByte b → IsTextByte b
token_is_text b h = grind (arith, token_plain)

pub value_is_text : (b : ℕ) → IsValueByte b → IsTextByte b
value_is_text b h = grind (arith, nat_tests)

pub digit_is_text : (b : ℕ) → digit_value b < 16 → IsTextByte b
digit_is_text b small = grind (arith, nat_tests)

pub BehindFirst-some : (text : List ℕ) → BehindFirst text → 0 < length text
BehindFirst-some [] odd = absurd odd
BehindFirst-some (b ∷ text) h = omega arith
