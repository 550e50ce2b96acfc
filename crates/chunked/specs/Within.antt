-- Places within an extension: what is left of it there.
use Rattle.std.specs.Prelude.{◌≡◌, ◌≢◌, ℕ, ◌<◌, ◌⊎◌, List, [], ◌∷◌, length}
use Rattle.chunked.specs.Token.{IsBlank, IsTokenByte, IsValueByte}
use Rattle.chunked.specs.Extension.{Assigned, InQuotes, Many, Name, One, Parameter, Parameters, Value}
use Rattle.chunked.specs.declared.extension.Within.{Within}
use Rattle.chunked.specs.declared.extension.Within.TheVariants.{Blank, BeforeName, InName, BehindName, BeforeValue, InValue, Quoted, Escaped, Behind}

-- a text that completes an extension from there, with so many parameters behind the one that has begun
abbrev pub CompletesExtension : Within → List ℕ → Type 0
CompletesExtension Behind text = (count : ℕ) × Parameters count text
CompletesExtension Blank text = (count : ℕ) × Parameter (Parameters count) text
CompletesExtension BeforeName text = (count : ℕ) × Many IsBlank (Name (Parameters count)) text
CompletesExtension InName text =
    (count : ℕ) × Many IsTokenByte (λ rest. Parameters count rest ⊎ Assigned (Parameters count) rest) text
CompletesExtension BehindName text = (count : ℕ) × (Parameter (Parameters count) text ⊎ Assigned (Parameters count) text)
CompletesExtension BeforeValue text = (count : ℕ) × Many IsBlank (Value (Parameters count)) text
CompletesExtension InValue text = (count : ℕ) × Many IsTokenByte (Parameters count) text
CompletesExtension Quoted text = (count : ℕ) × InQuotes (Parameters count) text
CompletesExtension Escaped text = (count : ℕ) × One IsValueByte (InQuotes (Parameters count)) text

-- the fewest bytes that complete an extension from there
abbrev pub least_left : Within → ℕ
least_left Behind = 0
least_left InName = 0
least_left InValue = 0
least_left BeforeName = 1
least_left BeforeValue = 1
least_left Quoted = 1
least_left w = 2

-- where each byte leads
abbrev pub LeadsWithin : Within → ℕ → Within → Type 0
LeadsWithin Behind b v = (IsBlank b × (v ≡ Blank)) ⊎ ((b ≡ 59) × (v ≡ BeforeName))
LeadsWithin Blank b v = (IsBlank b × (v ≡ Blank)) ⊎ ((b ≡ 59) × (v ≡ BeforeName))
LeadsWithin BeforeName b v = (IsBlank b × (v ≡ BeforeName)) ⊎ (IsTokenByte b × (v ≡ InName))
LeadsWithin InName b v =
    (IsBlank b × (v ≡ BehindName)) ⊎ ((IsTokenByte b × (v ≡ InName))
    ⊎ (((b ≡ 61) × (v ≡ BeforeValue)) ⊎ ((b ≡ 59) × (v ≡ BeforeName))))
LeadsWithin BehindName b v =
    (IsBlank b × (v ≡ BehindName)) ⊎ (((b ≡ 61) × (v ≡ BeforeValue)) ⊎ ((b ≡ 59) × (v ≡ BeforeName)))
LeadsWithin BeforeValue b v = (IsBlank b × (v ≡ BeforeValue)) ⊎ ((IsTokenByte b × (v ≡ InValue)) ⊎ ((b ≡ 34) × (v ≡ Quoted)))
LeadsWithin InValue b v = (IsBlank b × (v ≡ Blank)) ⊎ ((IsTokenByte b × (v ≡ InValue)) ⊎ ((b ≡ 59) × (v ≡ BeforeName)))
LeadsWithin Quoted b v =
    ((IsValueByte b × (b ≢ 34) × (b ≢ 92)) × (v ≡ Quoted)) ⊎ (((b ≡ 92) × (v ≡ Escaped)) ⊎ ((b ≡ 34) × (v ≡ Behind)))
LeadsWithin Escaped b v = IsValueByte b × (v ≡ Quoted)

-- one can go on with this byte, but isn't completed in so many then
pub record RunsOver (within : Within) (room b : ℕ) : Type 0 where
  pub text : List ℕ
  pub extends : CompletesExtension within (b ∷ text)
  pub over : (other : List ℕ) → CompletesExtension within (b ∷ other) → room < length (b ∷ other)

-- none can go on with this byte, nor end at it
pub record EndsNoExtension (within : Within) (b : ℕ) : Type 0 where
  pub none : (text : List ℕ) → ¬ CompletesExtension within (b ∷ text)
  pub no_return : b ≡ 13 → ¬ CompletesExtension within []
  pub no_feed : b ≢ 10
