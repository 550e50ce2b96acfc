-- What lines are made of: tokens, and what stands in values (RFC 9110, sections 5.5 and 5.6).
use Rattle.std.specs.Prelude.{◌≡◌, ℕ, ◌⊎◌, IsTrue}
use Rattle.httparse.specs.Grammar.{is_token_byte, is_value_byte}

-- a space or a tab
abbrev pub IsBlank : ℕ → Type 0
IsBlank b = (b ≡ 32) ⊎ (b ≡ 9)

-- a byte of a token, which has at least one: a letter, a digit, or one of some signs
abbrev pub IsTokenByte : ℕ → Type 0
IsTokenByte b = IsTrue (is_token_byte b)

-- a byte of a value: a blank, a visible one, or one that isn't ASCII
abbrev pub IsValueByte : ℕ → Type 0
IsValueByte b = IsTrue (is_value_byte b)
