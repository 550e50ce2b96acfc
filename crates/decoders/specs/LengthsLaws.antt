-- A length stays so, whatever comes behind.
use Rattle.std.specs.Prelude.{◌≡◌, ℕ, ◌^◌, ◌<◌, ◌≤◌, List, [], ◌++◌, length, take, Bool, true, false, nat_lt, if◌then◌else◌}
use Rattle.std.proofs.Common.{sym, ap, subst, ◌∙◌, arith, refl, length-append, length-take-le}
use Rattle.std.proofs.lemmas.Bool.{ltb-true, ltb-false, lt-ltb, le-ltb}
use Rattle.std.proofs.lemmas.List.{take-append-le, take_all}
use Rattle.codec.specs.HeaderFormat.{IsHeaderFormat}
use Rattle.codec.specs.declared.Header.{Header}
use Rattle.codec.specs.declared.Header.TheVariants.{Short, Sized, Bad}
use Rattle.decoders.specs.Lengths.{lengths, number_in_bytes, size_of}
use Rattle.decoders.specs.declared.lengths.Order.{Order}
use Rattle.decoders.specs.declared.lengths.Width.{Width}
use Rattle.decoders.specs.declared.lengths.Width.TheVariants.{One, Two, Four, Eight}

-- what bytes say of which the first `size` are a number
module _ (size : ℕ) (number : List ℕ → ℕ) where
  abbrev read_header : List ℕ → Header
  read_header bytes = if nat_lt (length bytes) size then Short else Sized (number (take size bytes)) size

  few : (bytes : List ℕ) → length bytes < size → read_header bytes ≡ Short
  few bytes less = ap (λ b. if b then Short else Sized (number (take size bytes)) size)
      (lt-ltb (length bytes) size less)

  pub enough : (bytes : List ℕ) → size ≤ length bytes → read_header bytes ≡ Sized (number (take size bytes)) size
  enough bytes many = ap (λ b. if b then Short else Sized (number (take size bytes)) size)
      (le-ltb (length bytes) size many)

  said : (bytes : List ℕ) (len used : ℕ) → read_header bytes ≡ Sized len used
      → (size ≤ length bytes) × (len ≡ number (take size bytes)) × (used ≡ size)
  said bytes len used is = go (nat_lt (length bytes) size) refl is
    where
      go : (b : Bool) → nat_lt (length bytes) size ≡ b
          → (if b then Short else Sized (number (take size bytes)) size) ≡ Sized len used
          → (size ≤ length bytes) × (len ≡ number (take size bytes)) × (used ≡ size)
      go true less is' = (let odd : ◌≡◌ {A = Header} Short (Sized len used) = is' in cc)
      go false many is' =
          let same : ◌≡◌ {A = Header} (Sized (number (take size bytes)) size) (Sized len used) = is' in (
            ltb-false (length bytes) size many,
            (let e : len ≡ number (take size bytes) = cc in e),
            (let e : used ≡ size = cc in e),
          )

  not_bad : (bytes : List ℕ) → ¬ (read_header bytes ≡ Bad)
  not_bad bytes is = go (nat_lt (length bytes) size) is
    where
      go : (b : Bool) → ¬ ((if b then Short else Sized (number (take size bytes)) size) ≡ Bad)
      go true is' = (let odd : Short ≡ Bad = is' in cc)
      go false is' = (let odd : Sized (number (take size bytes)) size ≡ Bad = is' in cc)

  short : (bytes : List ℕ) → read_header bytes ≡ Short → length bytes < size
  short bytes is = go (nat_lt (length bytes) size) refl is
    where
      go : (b : Bool) → nat_lt (length bytes) size ≡ b
          → (if b then Short else Sized (number (take size bytes)) size) ≡ Short → length bytes < size
      go true less is' = ltb-true (length bytes) size less
      go false many is' = (let odd : ◌≡◌ {A = Header} (Sized (number (take size bytes)) size) Short = is' in cc)

  sized : (bytes more : List ℕ) (len used : ℕ) → read_header bytes ≡ Sized len used → read_header (bytes ++ more) ≡ Sized len used
  sized bytes more len used is =
      let s = said bytes len used is in
      enough (bytes ++ more) (omega (arith, s.0, length-append bytes more))
      ∙ ap (λ l. Sized (number l) size) (take-append-le size bytes more s.0)
      ∙ ap (λ n. Sized n size) (sym s.1) ∙ ap (λ n. Sized len n) (sym s.2)

  front : (bytes : List ℕ) (len used : ℕ) → read_header bytes ≡ Sized len used → read_header (take used bytes) ≡ Sized len used
  front bytes len used is =
      let s = said bytes len used is in
      let long : length (take size bytes) ≡ size = length-take-le size bytes s.0 in
      subst (λ n. read_header (take n bytes) ≡ Sized len n) (sym s.2)
      (enough (take size bytes) (omega (arith, long))
      ∙ ap (λ l. Sized (number l) size) (take_all size (take size bytes) (omega (arith, long)))
      ∙ ap (λ n. Sized n size) (sym s.1))

has_some : (width : Width) → (0 < size_of width) × (size_of width ≤ 8)
has_some One = (omega arith, omega arith)
has_some Two = (omega arith, omega arith)
has_some Four = (omega arith, omega arith)
has_some Eight = (omega arith, omega arith)

pub lengths_headers : (width : Width) (order : Order) (max : ℕ) → max < 2 ^ 62 → IsHeaderFormat (lengths width order max)
lengths_headers width order max fits =
    let size = size_of width in
    let number = number_in_bytes width order in
    let some = has_some width in
    record {
      sized = sized size number;
      front = front size number;
      bad = λ bytes more is. absurd (not_bad size number bytes is);
      some = λ bytes len used is.
          let s = said size number bytes len used is in
          (omega (arith, s.2, some.0), omega (arith, s.2, s.0), omega (arith, s.2));
      short = short size number;
      nothing = few size number [] (omega (arith, some.0));
      small = omega (arith, some.1, fits);
    }
