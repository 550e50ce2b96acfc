-- Laws of pieces that have a header.
use Rattle.std.specs.Prelude.{◌≡◌, ℕ, ◌+◌, ◌-◌, ◌<◌, ◌≤◌, List, [], ◌++◌, length, max, min, replicate, take, drop}
use Rattle.std.proofs.Common.{sym, ap, subst, ◌∙◌, arith, inl, inr, refl, append_assoc, length-append, length-drop, length-take-le}
use Rattle.std.proofs.Math.Seq.{take-add, take-append_seam}
use Rattle.std.proofs.lemmas.Bool.{cases_lt}
use Rattle.std.proofs.lemmas.List.{append-nil, drop-append-le, drop-drop, drop_at, length-replicate, nil_from_length, take_all}
use Rattle.piece_reader.specs.declared.header.Header.{Header}
use Rattle.piece_reader.specs.declared.header.Header.TheVariants.{Short, Sized, Bad}
use Rattle.piece_reader.specs.declared.header_error.HeaderError.{HeaderError}
use Rattle.piece_reader.specs.declared.header_error.HeaderError.TheVariants.{NoHeader, NoTail, TooLong, Truncated}
use Rattle.piece_reader.specs.Decoding.{IsPiece, OnMore}
use Rattle.piece_reader.specs.Grammar.{IsLawful, IsOpenBelow}
use Rattle.piece_reader.specs.HeaderFormat.{AsksPayload, BeginsNone, HeaderFormat, IsHeaderFormat, NeverFollows, OffersPayload, length_prefixed}
use Rattle.piece_reader.specs.LookingLaws.{WasAskedFor}

sized_same : (n u n' u' : ℕ) (x : Header) → x ≡ Sized n u → x ≡ Sized n' u' → (n ≡ n') × (u ≡ u')
sized_same n u n' u' x is is' =
    let same : ◌≡◌ {A = Header} (Sized n u) (Sized n' u') = sym is ∙ is' in
    ((let e : n ≡ n' = cc in e), (let e : u ≡ u' = cc in e))

drop_seam : (xs ys : List ℕ) → drop (length xs) (xs ++ ys) ≡ ys
drop_seam xs ys = drop_at xs ys (length xs) refl

-- where no byte stands behind a place, anything may
pub may_follow_early : (tail : List ℕ) (at : ℕ) (bytes : List ℕ) → length bytes ≤ at → ¬ (NeverFollows tail at bytes)
may_follow_early tail at bytes early never =
    let fill : List ℕ = replicate (at - length bytes) 0 in
    let filled = length-replicate {A = ℕ} (at - length bytes) 0 in
    let long : length (bytes ++ fill) ≡ at = omega (arith, length-append bytes fill, filled) in
    never (fill ++ tail) (
    ap (λ l. take (length tail) (drop at l)) (sym (append_assoc bytes fill tail))
    ∙ ap (take (length tail)) (drop_at (bytes ++ fill) tail at long)
    ∙ take_all (length tail) tail (omega arith)
    )

module _ (h : HeaderFormat) (law : IsHeaderFormat h) where
  -- how many bytes a piece has
  size : (p a : List ℕ) (is : (length_prefixed h).piece p a) → length p ≡ is.0 + length a + length h.tail
  size p a is =
      let s = law.some p (length a) is.0 is.1 in
      omega (arith, s.1, length-drop is.0 p, ap length is.3, length-append a h.tail)

  -- what its header says
  said : (p a more : List ℕ) (is : (length_prefixed h).piece p a) → h.header (p ++ more) ≡ Sized (length a) is.0
  said p a more is = law.sized p more (length a) is.0 is.1

  -- where its tail is
  tail_there : (p a more : List ℕ) (is : (length_prefixed h).piece p a)
      → take (length h.tail) (drop (is.0 + length a) (p ++ more)) ≡ h.tail
  tail_there p a more is =
      let s = law.some p (length a) is.0 is.1 in
      let front : drop is.0 (p ++ more) ≡ a ++ (h.tail ++ more) =
      drop-append-le is.0 p more s.1 ∙ ap (λ l. l ++ more) is.3 ∙ append_assoc a h.tail more in
      ap (take (length h.tail)) (sym (drop-drop (length a) is.0 (p ++ more)) ∙ ap (drop (length a)) front
      ∙ drop_seam a (h.tail ++ more))
      ∙ take-append_seam h.tail more

  one : (p q xs ys a b : List ℕ) → (length_prefixed h).piece p a → (length_prefixed h).piece q b → p ++ xs ≡ q ++ ys
      → (p ≡ q) × (a ≡ b)
  one p q xs ys a b is is' same =
      let parts = sized_same (length a) is.0 (length b) is'.0 (h.header (p ++ xs)) (said p a xs is)
      (ap h.header same ∙ said q b ys is') in
      let long : length p ≡ length q = omega (arith, size p a is, size q b is', parts.0, parts.1) in
      let piece : p ≡ q =
      sym (take-append_seam p xs) ∙ ap (take (length p)) same ∙ ap (λ n. take n (q ++ ys)) long
      ∙ take-append_seam q ys in
      let behind : a ++ h.tail ≡ b ++ h.tail =
      sym is.3 ∙ ap (drop is.0) piece ∙ ap (λ n. drop n q) parts.1 ∙ is'.3 in (
        piece,
        sym (take-append_seam a h.tail) ∙ ap (take (length a)) behind ∙ ap (λ n. take n (b ++ h.tail)) parts.0
            ∙ take-append_seam b h.tail,
      )

  apart : (p a more : List ℕ) (e : HeaderError) → (length_prefixed h).piece p a → ¬ (BeginsNone h (p ++ more) e)
  apart p a more NoHeader is bad = (let odd : Sized (length a) is.0 ≡ Bad = sym (said p a more is) ∙ bad in cc)
  apart p a more (TooLong len) is much =
      let parts = sized_same (length a) is.0 len much.0 (h.header (p ++ more)) (said p a more is) much.1 in
      omega (arith, is.2, much.2, parts.0)
  apart p a more NoTail is lacks =
      let parts = sized_same (length a) is.0 lacks.0 lacks.1 (h.header (p ++ more)) (said p a more is) lacks.2 in
      let there : is.0 + length a ≡ lacks.1 + lacks.0 = omega (arith, parts.0, parts.1) in
      lacks.4 [] (subst (λ l. take (length h.tail) (drop (lacks.1 + lacks.0) l) ≡ h.tail) (sym (append_assoc p more []))
      (subst (λ n. take (length h.tail) (drop n (p ++ (more ++ []))) ≡ h.tail) there (tail_there p a (more ++ []) is)))
  apart p a more (Truncated have) is none = none

  reason : (bytes : List ℕ) (e e' : HeaderError) → BeginsNone h bytes e → BeginsNone h bytes e' → e ≡ e'
  reason bytes NoHeader NoHeader bad bad' = refl
  reason bytes NoHeader (TooLong len) bad much = (let odd : Bad ≡ Sized len much.0 = sym bad ∙ much.1 in cc)
  reason bytes NoHeader NoTail bad lacks = (let odd : Bad ≡ Sized lacks.0 lacks.1 = sym bad ∙ lacks.2 in cc)
  reason bytes (TooLong len) NoHeader much bad = (let odd : Bad ≡ Sized len much.0 = sym bad ∙ much.1 in cc)
  reason bytes NoTail NoHeader lacks bad = (let odd : Bad ≡ Sized lacks.0 lacks.1 = sym bad ∙ lacks.2 in cc)
  reason bytes (TooLong len) (TooLong len') m m' =
      ap (λ n. TooLong n) (sized_same len m.0 len' m'.0 (h.header bytes) m.1 m'.1).0
  reason bytes (TooLong len) NoTail m l =
      absurd (omega (arith, m.2, l.3, (sized_same len m.0 l.0 l.1 (h.header bytes) m.1 l.2).0))
  reason bytes NoTail (TooLong len) l m =
      absurd (omega (arith, m.2, l.3, (sized_same len m.0 l.0 l.1 (h.header bytes) m.1 l.2).0))
  reason bytes NoTail NoTail l l' = refl
  reason bytes (Truncated have) e none wrong = absurd none
  reason bytes e (Truncated have) wrong none = absurd none

  stays : (bytes more : List ℕ) (e : HeaderError) → BeginsNone h bytes e → BeginsNone h (bytes ++ more) e
  stays bytes more NoHeader bad = law.bad bytes more bad
  stays bytes more (TooLong len) m = (m.0, law.sized bytes more len m.0 m.1, m.2)
  stays bytes more NoTail l = (
    l.0,
    l.1,
    law.sized bytes more l.0 l.1 l.2,
    l.3,
    λ later is. l.4 (more ++ later)
        (subst (λ l'. take (length h.tail) (drop (l.1 + l.0) l') ≡ h.tail) (append_assoc bytes more later) is),
  )
  stays bytes more (Truncated have) none = none

  nothing : (e : HeaderError) → ¬ (BeginsNone h [] e)
  nothing NoHeader bad = (let odd : Short ≡ Bad = sym law.nothing ∙ bad in cc)
  nothing (TooLong len) m = (let odd : ◌≡◌ {A = Header} Short (Sized len m.0) = sym law.nothing ∙ m.1 in cc)
  nothing NoTail l = (let odd : ◌≡◌ {A = Header} Short (Sized l.0 l.1) = sym law.nothing ∙ l.2 in cc)
  nothing (Truncated have) none = none

  pub length_prefixed_lawful : IsLawful (length_prefixed h)
  length_prefixed_lawful = record {
    one = one;
    some = λ p a is. omega (arith, size p a is, (law.some p (length a) is.0 is.1).0);
    room = omega (arith, law.short [] law.nothing);
    apart = apart;
    reason = reason;
    stays = stays;
    nothing = nothing;
    one_last = λ bytes a b is is'. absurd is;
    end_apart = λ bytes a e is cut. is;
  }

  -- where the header is there, and the tail isn't, but may come
  pub length_prefixed_open : (bytes : List ℕ) (len used : ℕ) → h.header bytes ≡ Sized len used → len ≤ h.max
      → length bytes < used + len + length h.tail → ¬ (NeverFollows h.tail (used + len) bytes)
      → IsOpenBelow (length_prefixed h) (max (1 + length bytes) (used + len + min (length h.tail) 1)) bytes
  length_prefixed_open bytes len used is fits short may more few = record {
    no_piece = λ b.
        let parts = sized_same len used (length b.payload) b.is.0 (h.header (bytes ++ more)) (law.sized bytes more len used is)
        (ap h.header b.equal ∙ said b.piece b.payload b.more b.is) in
        omega (arith, size b.piece b.payload b.is, parts.0, parts.1, ap length b.equal, length-append b.piece b.more, few, short);
    not_wrong = λ e. elim e as (λ e. ¬ (BeginsNone h (bytes ++ more) e)) [
      | NoHeader ↦ λ bad. (let odd : Sized len used ≡ Bad = sym (law.sized bytes more len used is) ∙ bad in cc)
      | TooLong much ↦ λ m.
          let parts = sized_same len used much m.0 (h.header (bytes ++ more)) (law.sized bytes more len used is) m.1 in
          omega (arith, fits, m.2, parts.0)
      | NoTail ↦ λ l.
          let parts = sized_same len used l.0 l.1 (h.header (bytes ++ more)) (law.sized bytes more len used is) l.2 in
          let there : l.1 + l.0 ≡ used + len = omega (arith, parts.0, parts.1) in
          let never : NeverFollows h.tail (used + len) (bytes ++ more) =
          subst (λ n. NeverFollows h.tail n (bytes ++ more)) there l.4 in
          elim (cases_lt (used + len) (length (bytes ++ more))) [
            | inl late ↦
                let none : more ≡ [] = nil_from_length more (omega (arith, few, late, length-append bytes more)) in
                may (subst (λ l'. NeverFollows h.tail (used + len) l') (ap (λ m. bytes ++ m) none ∙ append-nil bytes) never)
            | inr early ↦ may_follow_early h.tail (used + len) (bytes ++ more) early never
          ]
      | Truncated have ↦ λ none. none
    ];
  }

  -- where all is there
  pub length_prefixed_piece : (bytes : List ℕ) (len used : ℕ) → h.header bytes ≡ Sized len used → len ≤ h.max
      → used + len + length h.tail ≤ length bytes → take (length h.tail) (drop (used + len) bytes) ≡ h.tail
      → IsPiece (length_prefixed h) bytes (record { from = used; len = len }) (used + len + length h.tail)
  length_prefixed_piece bytes len used is fits inside tail =
      let k = len + length h.tail in
      let header = take used bytes in
      let payload = take len (drop used bytes) in
      let short : length header ≡ used = length-take-le used bytes (omega (arith, inside)) in
      let long : length payload ≡ len = length-take-le len (drop used bytes) (omega (arith, inside, length-drop used bytes)) in
      let count : used + len + length h.tail ≡ used + k = omega arith in
      let cut : take (used + len + length h.tail) bytes ≡ header ++ take k (drop used bytes) =
      ap (λ n. take n bytes) count ∙ take-add used k bytes in
      let behind : take k (drop used bytes) ≡ payload ++ h.tail =
      take-add len (length h.tail) (drop used bytes)
      ∙ ap (λ l. payload ++ take (length h.tail) l) (drop-drop len used bytes) ∙ ap (λ l. payload ++ l) tail in
      let whole : take (used + len + length h.tail) bytes ≡ header ++ (payload ++ h.tail) =
      cut ∙ ap (λ l. header ++ l) behind in
      record {
        inside = inside;
        within = omega arith;
        is = (
          used,
          ap h.header whole ∙ law.sized header (payload ++ h.tail) len used (law.front bytes len used is)
              ∙ ap (λ n. Sized n used) (sym long),
          omega (arith, long, fits),
          ap (drop used) whole ∙ ap (λ n. drop n (header ++ (payload ++ h.tail))) (sym short)
              ∙ drop_seam header (payload ++ h.tail),
        );
      }

-- where as many bytes were asked for as a look wants, an offer has room for the payload
pub AsksPayload-offers : (h : HeaderFormat) → IsHeaderFormat h → (offer : ℕ) (bytes : List ℕ)
    → WasAskedFor (λ looked seen found. OnMore {W = HeaderError} found (AsksPayload h looked)) offer bytes
    → OffersPayload h offer bytes
AsksPayload-offers h law offer bytes (looked, seen, asked, asks, (few, room, more, is)) len used says =
    elim (h.header looked) as (λ x. x ≡ h.header looked → used + len + min (length h.tail) 1 ≤ offer) [
      | Short ↦ λ short.
          let none : more ≡ [] =
          nil_from_length more (omega (arith, few, asks.0 (sym short), ap length is, length-append looked more)) in
          let same : bytes ≡ looked = is ∙ ap (λ l. looked ++ l) none ∙ append-nil looked in
          (let odd : ◌≡◌ {A = Header} Short (Sized len used) = short ∙ ap h.header (sym same) ∙ says in cc)
      | Sized n u ↦ λ sized.
          let same = sized_same n u len used (h.header bytes) (ap h.header is ∙ law.sized looked more n u (sym sized)) says in
          omega (arith, room, asks.1 n u (sym sized), same.0, same.1)
      | Bad ↦ λ bad.
          (let odd : ◌≡◌ {A = Header} Bad (Sized len used) =
          sym (law.bad looked more (sym bad)) ∙ ap h.header (sym is) ∙ says in cc)
    ] refl
