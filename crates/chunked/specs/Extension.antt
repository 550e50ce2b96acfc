-- Extensions in the line of a size (RFC 9112, section 7.1.1). Each word says what a text is made of, and what stands behind that.
use Rattle.std.specs.Prelude.{◌≡◌, ◌≢◌, ℕ, zero, suc, ◌⊎◌, List, [], ◌∷◌}
use Rattle.chunked.specs.Token.{IsBlank, IsTokenByte, IsValueByte}

-- one such byte, and then this
abbrev pub One : (ℕ → Type 0) → (List ℕ → Type 0) → List ℕ → Type 0
One Is Then [] = ⊥
One Is Then (b ∷ text) = Is b × Then text

-- any number of such bytes, and then this
abbrev pub Many : (ℕ → Type 0) → (List ℕ → Type 0) → List ℕ → Type 0
Many Is Then [] = Then []
Many Is Then (b ∷ text) = Then (b ∷ text) ⊎ (Is b × Many Is Then text)

-- bytes of values, of which a quote and a backslash have a backslash in front, and others may, up to the quote that ends them
abbrev pub InQuotes : (List ℕ → Type 0) → List ℕ → Type 0
InQuotes Then [] = ⊥
InQuotes Then (b ∷ []) = (b ≡ 34) × Then []
InQuotes Then (b ∷ (c ∷ text)) =
    ((b ≡ 34) × Then (c ∷ text))
    ⊎ (((IsValueByte b × (b ≢ 34) × (b ≢ 92)) × InQuotes Then (c ∷ text)) ⊎ ((b ≡ 92) × IsValueByte c × InQuotes Then text))

-- a value: a token, which has some byte, or a string in quotes
abbrev pub Value : (List ℕ → Type 0) → List ℕ → Type 0
Value Then text = One IsTokenByte (Many IsTokenByte Then) text ⊎ One (λ b. b ≡ 34) (InQuotes Then) text

-- what may stand behind a name: `=` and a value
abbrev pub Assigned : (List ℕ → Type 0) → List ℕ → Type 0
Assigned Then text = Many IsBlank (One (λ b. b ≡ 61) (Many IsBlank (Value Then))) text

abbrev pub Name : (List ℕ → Type 0) → List ℕ → Type 0
Name Then text = One IsTokenByte (Many IsTokenByte (λ rest. Then rest ⊎ Assigned Then rest)) text

-- a parameter: `;` and a name, and perhaps a value
abbrev pub Parameter : (List ℕ → Type 0) → List ℕ → Type 0
Parameter Then text = Many IsBlank (One (λ b. b ≡ 59) (Many IsBlank (Name Then))) text

-- this many parameters, and nothing else
abbrev pub Parameters : ℕ → List ℕ → Type 0
Parameters zero text = text ≡ []
Parameters (suc count) text = Parameter (Parameters count) text

-- an extension is any number of them
abbrev pub IsExtension : List ℕ → Type 0
IsExtension text = (count : ℕ) × Parameters count text
