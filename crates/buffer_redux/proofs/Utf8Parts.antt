-- Parts of characters, which can still become one.
use Rattle.std.proofs.Common.{◌≡◌, ℕ, ◌+◌, ◌-◌, ◌*◌, ◌<◌, ◌≤◌, Bool, true, false, List, [], ◌∷◌, ◌++◌, length, take, None, subst, arith, inl, inr}
use Rattle.std.specs.Prelude.{IsUtf8, nat_lt}
use Rattle.std.specs.Char.{IsScalar, encode_utf8}
use Rattle.std.specs.Int.{is_in_range}
use Rattle.std.specs.Str.Lossy.{utf8_error_len, second_byte_min, second_byte_max}
use Rattle.std.proofs.lemmas.Str.{IsUtf8-encode}
use Rattle.std.proofs.lemmas.Bool.Decides.{nat_tests, leb_tells}

pub ltb_false : (a b : ℕ) → b ≤ a → nat_lt a b ≡ false
ltb_false a b h = grind (arith, nat_tests)

pub ltb_true : (a b : ℕ) → a < b → nat_lt a b ≡ true
ltb_true a b h = grind (arith, nat_tests)

abbrev follows : ℕ → ℕ → Bool
follows a b = is_in_range (second_byte_min a) (second_byte_max a) b

abbrev CanFinish : List ℕ → Type 0
CanFinish bytes = (more : List ℕ) × IsUtf8 (bytes ++ more)

two_bytes : (a b : ℕ) → 0xC2 ≤ a → a < 0xE0 → 0x80 ≤ b → b < 0xC0 → IsUtf8 (a ∷ b ∷ [])
unfolding encode_utf8
two_bytes a b h1 h2 h3 h4 =
    let c = (a - 192) * 64 + (b - 128) in
    let is : encode_utf8 c ≡ a ∷ b ∷ [] =
    rw (ltb_false c 128 (omega arith), ltb_true c 2048 (omega arith)) (grind arith) in
    subst IsUtf8 is (IsUtf8-encode c (grind (arith, nat_tests)))

three_bytes : (a b x : ℕ) → 0xE0 ≤ a → a < 0xF0 → follows a b ≡ true → 0x80 ≤ x → x < 0xC0 → IsUtf8 (a ∷ b ∷ x ∷ [])
unfolding encode_utf8
three_bytes a b x h1 h2 fits h3 h4 =
    let c = (a - 224) * 4096 + (b - 128) * 64 + (x - 128) in
    let range : (128 ≤ b) × (b < 192) × (2048 ≤ c) × IsScalar c = grind (arith, nat_tests) in
    let is : encode_utf8 c ≡ a ∷ b ∷ x ∷ [] =
    rw (ltb_false c 128 (omega arith), ltb_false c 2048 range.2, ltb_true c 65536 (omega arith)) (grind arith) in
    subst IsUtf8 is (IsUtf8-encode c range.3)

four_bytes : (a b x y : ℕ) → 0xF0 ≤ a → a ≤ 0xF4 → follows a b ≡ true → 0x80 ≤ x → x < 0xC0 → 0x80 ≤ y → y < 0xC0
    → IsUtf8 (a ∷ b ∷ x ∷ y ∷ [])
unfolding encode_utf8
four_bytes a b x y h1 h2 fits h3 h4 h5 h6 =
    let c = (a - 240) * 262144 + (b - 128) * 4096 + (x - 128) * 64 + (y - 128) in
    let range : (128 ≤ b) × (b < 192) × (65536 ≤ c) × IsScalar c = grind (arith, nat_tests) in
    let is : encode_utf8 c ≡ a ∷ b ∷ x ∷ y ∷ [] =
    rw (ltb_false c 128 (omega arith), ltb_false c 2048 (omega arith), ltb_false c 65536 range.2) (grind arith) in
    subst IsUtf8 is (IsUtf8-encode c range.3)

finish_two : (a b : ℕ) → 0xE0 ≤ a → a ≤ 0xF4 → follows a b ≡ true → CanFinish (a ∷ b ∷ [])
finish_two a b low high fits =
    elim (leb_tells 0xF0 a) [
      | inl p ↦ (128 ∷ 128 ∷ [], four_bytes a b 128 128 p.1 high fits (omega arith) (omega arith) (omega arith) (omega arith))
      | inr p ↦ (128 ∷ [], three_bytes a b 128 low p.1 fits (omega arith) (omega arith))
    ]

least_follows : (a : ℕ) → 0xE0 ≤ a → a ≤ 0xF4 → follows a (second_byte_min a) ≡ true
least_follows a low high = grind (arith, nat_tests)

finish_one : (a : ℕ) → 0xC2 ≤ a → a ≤ 0xF4 → CanFinish (a ∷ [])
finish_one a low high =
    elim (leb_tells 0xE0 a) [
      | inl p ↦
          let two = finish_two a (second_byte_min a) p.1 high (least_follows a p.1 high) in
          (second_byte_min a ∷ two.0, two.1)
      | inr p ↦ (128 ∷ [], two_bytes a 128 low p.1 (omega arith) (omega arith))
    ]

first_one : (a : ℕ) → utf8_error_len (a ∷ []) ≡ None → (0xC2 ≤ a) × (a ≤ 0xF4)
unfolding utf8_error_len
first_one a none = grind (arith, nat_tests)

first_two : (a b : ℕ) → utf8_error_len (a ∷ b ∷ []) ≡ None → (0xC2 ≤ a) × (a ≤ 0xF4) × (follows a b ≡ true)
unfolding utf8_error_len
first_two a b none = grind (arith, nat_tests)

first_three : (a b x : ℕ) → utf8_error_len (a ∷ b ∷ x ∷ []) ≡ None
    → (0xC2 ≤ a) × (a ≤ 0xF4) × (follows a b ≡ true) × (0x80 ≤ x) × (x < 0xC0)
unfolding utf8_error_len
first_three a b x none = grind (arith, nat_tests)

low_second : (a b : ℕ) → a < 0xE0 → follows a b ≡ true → (0x80 ≤ b) × (b < 0xC0)
low_second a b low fits = grind (arith, nat_tests)

-- a part that no character begins, and where std finds no fault
pub can_finish : (bytes : List ℕ) → 0 < length bytes → length bytes < 4 → utf8_error_len bytes ≡ None
    → ((n : ℕ) → 0 < n → n ≤ length bytes → ¬ (IsUtf8 (take n bytes))) → CanFinish bytes
can_finish [] some few none bad = absurd (omega (arith, some))
can_finish (a ∷ []) some few none bad = let f = first_one a none in finish_one a f.0 f.1
can_finish (a ∷ b ∷ []) some few none bad =
    let f = first_two a b none in
    elim (leb_tells 0xE0 a) [
      | inl p ↦ finish_two a b p.1 f.1 f.2
      | inr p ↦ let s = low_second a b p.1 f.2 in absurd (bad 2 (omega arith) (omega arith) (two_bytes a b f.0 p.1 s.0 s.1))
    ]
can_finish (a ∷ b ∷ x ∷ []) some few none bad =
    let f = first_three a b x none in
    elim (leb_tells 0xF0 a) [
      | inl p ↦ (128 ∷ [], four_bytes a b x 128 p.1 f.1 f.2 f.3 f.4 (omega arith) (omega arith))
      | inr p ↦ elim (leb_tells 0xE0 a) [
        | inl q ↦ absurd (bad 3 (omega arith) (omega arith) (three_bytes a b x q.1 p.1 f.2 f.3 f.4))
        | inr q ↦ let s = low_second a b q.1 f.2 in absurd (bad 2 (omega arith) (omega arith) (two_bytes a b f.0 q.1 s.0 s.1))
      ]
    ]
can_finish (a ∷ b ∷ x ∷ y ∷ rest) some few none bad = absurd (omega (arith, few))
