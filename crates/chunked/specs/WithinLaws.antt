-- Laws of places within an extension: where each byte leads, and what stands first in what is left.
use Rattle.std.proofs.Common.{◌≡◌, ℕ, zero, suc, ◌+◌, ◌<◌, ◌≤◌, ◌⊎◌, ◌↔◌, List, [], ◌∷◌, length, inl, inr, refl, arith}
use Rattle.httparse.specs.Grammar.{is_token_byte}
use Rattle.chunked.specs.Names.{AllByRecursion, Assigned, BeforeName, BeforeValue, Behind, BehindName, Blank, CompletesExtension, digit_value, Escaped, InName, InValue, IsBlank, IsExtension, IsTextByte, LeadsWithin, least_left, nat_tests, Parameter, Parameters, Quoted, Within}
use Rattle.chunked.specs.FieldLaws.{token_plain, value_is_text}

pub one_way : (w : Within) (b : ℕ) (v v' : Within) → LeadsWithin w b v → LeadsWithin w b v' → v ≡ v'
one_way Escaped b v v' s t = cc
one_way w b v v' s t = grind (arith, token_plain)

pub steps_text : (w : Within) (b : ℕ) (v : Within) → LeadsWithin w b v → IsTextByte b
steps_text w b v s = grind (arith, token_plain, value_is_text)

nearer : (w : Within) (b : ℕ) (v : Within) → LeadsWithin w b v → least_left w ≤ least_left v + 1
nearer w b v s = grind arith

-- with it in front, what is left there is left here
on : (w : Within) (b : ℕ) (v : Within) (text : List ℕ) → LeadsWithin w b v → CompletesExtension v text
    → CompletesExtension w (b ∷ text)
on Behind b v text (inl (blank, is)) e = let k = rw is at e in (suc k.0, inr (blank, k.1))
on Behind b v text (inr (sign, is)) e = let k = rw is at e in (suc k.0, inl (sign, k.1))
on Blank b v text (inl (blank, is)) e = let k = rw is at e in (k.0, inr (blank, k.1))
on Blank b v text (inr (sign, is)) e = let k = rw is at e in (k.0, inl (sign, k.1))
on BeforeName b v text (inl (blank, is)) e = let k = rw is at e in (k.0, inr (blank, k.1))
on BeforeName b v text (inr (token, is)) e = let k = rw is at e in (k.0, inl (token, k.1))
on InName b v text (inl (blank, is)) e = let k = rw is at e in elim k.1 [
  | inl left ↦ (suc k.0, inl (inl (inr (blank, left))))
  | inr left ↦ (k.0, inl (inr (inr (blank, left))))
]
on InName b v text (inr (inl (token, is))) e = let k = rw is at e in (k.0, inr (token, k.1))
on InName b v text (inr (inr (inl (sign, is)))) e = let k = rw is at e in (k.0, inl (inr (inl (sign, k.1))))
on InName b v text (inr (inr (inr (sign, is)))) e = let k = rw is at e in (suc k.0, inl (inl (inl (sign, k.1))))
on BehindName b v text (inl (blank, is)) e = let k = rw is at e in elim k.1 [
  | inl left ↦ (k.0, inl (inr (blank, left)))
  | inr left ↦ (k.0, inr (inr (blank, left)))
]
on BehindName b v text (inr (inl (sign, is))) e = let k = rw is at e in (k.0, inr (inl (sign, k.1)))
on BehindName b v text (inr (inr (sign, is))) e = let k = rw is at e in (k.0, inl (inl (sign, k.1)))
on BeforeValue b v text (inl (blank, is)) e = let k = rw is at e in (k.0, inr (blank, k.1))
on BeforeValue b v text (inr (inl (token, is))) e = let k = rw is at e in (k.0, inl (inl (token, k.1)))
on BeforeValue b v text (inr (inr (sign, is))) e = let k = rw is at e in (k.0, inl (inr (sign, k.1)))
on InValue b v text (inl (blank, is)) e = let k = rw is at e in (suc k.0, inl (inr (blank, k.1)))
on InValue b v text (inr (inl (token, is))) e = let k = rw is at e in (k.0, inr (token, k.1))
on InValue b v text (inr (inr (sign, is))) e = let k = rw is at e in (suc k.0, inl (inl (sign, k.1)))
on Quoted b v [] (inl (quoted, is)) e = absurd (rw is at e).1
on Quoted b v (c ∷ text) (inl (quoted, is)) e = let k = rw is at e in (k.0, inr (inl (quoted, k.1)))
on Quoted b v [] (inr (inl (sign, is))) e = absurd (rw is at e).1
on Quoted b v (c ∷ text) (inr (inl (sign, is))) e = let k = rw is at e in (k.0, inr (inr (sign, k.1.0, k.1.1)))
on Quoted b v [] (inr (inr (sign, is))) e = let k = rw is at e in (k.0, (sign, k.1))
on Quoted b v (c ∷ text) (inr (inr (sign, is))) e = let k = rw is at e in (k.0, inl (sign, k.1))
on Escaped b v text (byte, is) e = let k = rw is at e in (k.0, (byte, k.1))

-- a byte leads to a place, from where the text completes an extension
pub record StepsOn (w : Within) (b : ℕ) (text : List ℕ) : Type 0 where
  pub next : Within
  pub steps : LeadsWithin w b next
  pub left : CompletesExtension next text

goes : {w : Within} {b : ℕ} {text : List ℕ} (next : Within) → LeadsWithin w b next → CompletesExtension next text
    → StepsOn w b text
goes next steps left = record { next = next; steps = steps; left = left }

-- what a parameter begins with
abbrev BeginsParameter : ℕ → List ℕ → Type 0
BeginsParameter b text = (IsBlank b × CompletesExtension Blank text) ⊎ ((b ≡ 59) × CompletesExtension BeforeName text)

parameter_first : (b count : ℕ) (text : List ℕ) → Parameter (Parameters count) (b ∷ text) → BeginsParameter b text
parameter_first b count text (inl (sign, left)) = inr (sign, (count, left))
parameter_first b count text (inr (blank, left)) = inl (blank, (count, left))

pub parameters_first : (b count : ℕ) (text : List ℕ) → Parameters count (b ∷ text) → BeginsParameter b text
parameters_first b zero text odd = cc
parameters_first b (suc count) text left = parameter_first b count text left

-- where this leads where a value may have ended
step_on : (w : Within) (b : ℕ) (text : List ℕ) → (IsBlank b → LeadsWithin w b Blank) → ((b ≡ 59) → LeadsWithin w b BeforeName)
    → BeginsParameter b text → StepsOn w b text
step_on w b text blanks signs begins = grind arith

-- where a byte leads behind a name
name_on : (w : Within) (b : ℕ) (text : List ℕ) → (IsBlank b → LeadsWithin w b BehindName)
    → ((b ≡ 59) → LeadsWithin w b BeforeName)
    → BeginsParameter b text → StepsOn w b text
name_on w b text blanks signs begins = grind arith

assigned_on : (w : Within) (b count : ℕ) (text : List ℕ) → (IsBlank b → LeadsWithin w b BehindName)
    → ((b ≡ 61) → LeadsWithin w b BeforeValue) → Assigned (Parameters count) (b ∷ text) → StepsOn w b text
assigned_on w b count text blanks signs (inl (sign, left)) = goes BeforeValue (signs sign) (count, left)
assigned_on w b count text blanks signs (inr (blank, left)) = goes BehindName (blanks blank) (count, inr left)

pub first : (w : Within) (b : ℕ) (text : List ℕ) → CompletesExtension w (b ∷ text) → StepsOn w b text
first Behind b text (count, left) =
    step_on Behind b text (λ is. inl (is, refl)) (λ is. inr (is, refl)) (parameters_first b count text left)
first Blank b text (count, left) =
    step_on Blank b text (λ is. inl (is, refl)) (λ is. inr (is, refl)) (parameter_first b count text left)
first BeforeName b text (count, (inl (token, left))) = goes InName (inr (token, refl)) (count, left)
first BeforeName b text (count, (inr (blank, left))) = goes BeforeName (inl (blank, refl)) (count, left)
first InName b text (count, (inl (inl left))) =
    name_on InName b text (λ is. inl (is, refl)) (λ is. inr (inr (inr (is, refl)))) (parameters_first b count text left)
first InName b text (count, (inl (inr left))) =
    assigned_on InName b count text (λ is. inl (is, refl)) (λ is. inr (inr (inl (is, refl)))) left
first InName b text (count, (inr (token, left))) = goes InName (inr (inl (token, refl))) (count, left)
first BehindName b text (count, (inl left)) =
    name_on BehindName b text (λ is. inl (is, refl)) (λ is. inr (inr (is, refl))) (parameter_first b count text left)
first BehindName b text (count, (inr left)) =
    assigned_on BehindName b count text (λ is. inl (is, refl)) (λ is. inr (inl (is, refl))) left
first BeforeValue b text (count, (inl (inl (token, left)))) = goes InValue (inr (inl (token, refl))) (count, left)
first BeforeValue b text (count, (inl (inr (sign, left)))) = goes Quoted (inr (inr (sign, refl))) (count, left)
first BeforeValue b text (count, (inr (blank, left))) = goes BeforeValue (inl (blank, refl)) (count, left)
first InValue b text (count, (inl left)) =
    step_on InValue b text (λ is. inl (is, refl)) (λ is. inr (inr (is, refl))) (parameters_first b count text left)
first InValue b text (count, (inr (token, left))) = goes InValue (inr (inl (token, refl))) (count, left)
first Quoted b [] (count, (sign, left)) = goes Behind (inr (inr (sign, refl))) (count, left)
first Quoted b (c ∷ text) (count, (inl (sign, left))) = goes Behind (inr (inr (sign, refl))) (count, left)
first Quoted b (c ∷ text) (count, (inr (inl (quoted, left)))) = goes Quoted (inl (quoted, refl)) (count, left)
first Quoted b (c ∷ text) (count, (inr (inr (sign, byte, left)))) = goes Escaped (inr (inl (sign, refl))) (count, (byte, left))
first Escaped b text (count, (byte, left)) = goes Quoted (byte, refl) (count, left)

-- all of an extension is text
pub CompletesExtension-text : (w : Within) (text : List ℕ) → CompletesExtension w text → AllByRecursion IsTextByte text
CompletesExtension-text w [] e = tt
CompletesExtension-text w (b ∷ text) e =
    let f = first w b text e in (steps_text w b f.next f.steps, CompletesExtension-text f.next text f.left)

-- one begins with a blank or a `;`
IsExtension-first : (b : ℕ) (text : List ℕ) → IsExtension (b ∷ text) → IsBlank b ⊎ (b ≡ 59)
IsExtension-first b text e = grind (arith, parameters_first)

-- so none begins with a digit
pub extension_no_digit : (b : ℕ) (text : List ℕ) → IsExtension (b ∷ text) → digit_value b < 16 → ⊥
extension_no_digit b text h small = let begins = IsExtension-first b text h in grind (arith, nat_tests, begins)

-- a byte leads on as the steps say, or nowhere
pub leads : (w : Within) (b : ℕ) (v : Within) → LeadsWithin w b v
    → (text : List ℕ) → CompletesExtension w (b ∷ text) ↔ CompletesExtension v text
leads w b v s = grind (arith, first, one_way, on)

pub none : (w : Within) (b : ℕ) → ((v : Within) → LeadsWithin w b v → ⊥) → (text : List ℕ) → ¬ CompletesExtension w (b ∷ text)
none w b never = grind (arith, first)

-- so many bytes complete one, and no fewer
pub least_some : (w : Within) → (text : List ℕ) × CompletesExtension w text × (length text ≡ least_left w)
unfolding is_token_byte
least_some Behind = ([], (0, refl), refl)
least_some Blank = (59 ∷ (97 ∷ []), (0, inl (refl, inl (refl, inl refl))), refl)
least_some BeforeName = (97 ∷ [], (0, inl (refl, inl refl)), refl)
least_some InName = ([], (0, inl refl), refl)
least_some BehindName = (59 ∷ (97 ∷ []), (0, inl (inl (refl, inl (refl, inl refl)))), refl)
least_some BeforeValue = (97 ∷ [], (0, inl (inl (refl, refl))), refl)
least_some InValue = ([], (0, refl), refl)
least_some Quoted = (34 ∷ [], (0, (refl, refl)), refl)
least_some Escaped = (34 ∷ (34 ∷ []), (0, (refl, (refl, refl))), refl)

pub least_all : (w : Within) (text : List ℕ) → CompletesExtension w text → least_left w ≤ length text
least_all w (b ∷ text) e =
    let f = first w b text e in
    omega (arith, nearer w b f.next f.steps, least_all f.next text f.left)
least_all Behind [] e = omega arith
least_all InName [] e = omega arith
least_all InValue [] e = omega arith
least_all BehindName [] e = elim e.1 [ inl odd ↦ absurd odd | inr odd ↦ absurd odd ]
least_all BeforeValue [] e = elim e.1 [ inl odd ↦ absurd odd | inr odd ↦ absurd odd ]
least_all w [] e = absurd e.1
