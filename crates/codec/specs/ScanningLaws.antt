-- What is said byte by byte stays said.
use Rattle.std.specs.Prelude.{◌≡◌, ℕ, zero, suc, ◌+◌, ◌<◌, ◌≤◌, List, [], ◌∷◌, ◌++◌, length, take}
use Rattle.std.proofs.Common.{sym, ap, subst, ◌∙◌, arith, refl}
use Rattle.piece_reader.specs.HeaderFormat.{IsHeaderFormat}
use Rattle.codec.specs.Scanning.{LeadsTo, Scanning, IsSmall, says, scan_on, scanned}
use Rattle.piece_reader.specs.declared.header.Header.{Header}
use Rattle.piece_reader.specs.declared.header.Header.TheVariants.{Short, Sized, Bad}
use Rattle.codec.specs.declared.scan.ScanStep.{ScanStep}
use Rattle.codec.specs.declared.scan.ScanStep.TheVariants as turn

module _ {S : Type 0} (go : S → ℕ → ScanStep S) where
  -- bytes that lead to a place are read first
  pub leads_on : (left : ℕ) (s : S) (used : ℕ) (bytes more : List ℕ) (place : S) → LeadsTo go s bytes place
      → (fewer at : ℕ) → left ≡ length bytes + fewer → at ≡ used + length bytes
      → scan_on go left s used (bytes ++ more) ≡ scan_on go fewer place at more
  leads_on left s used [] more place is fewer at all there =
      let same : left ≡ fewer = omega (arith, all) in
      let here : used ≡ at = omega (arith, there) in
      ap (λ n. scan_on go n s used more) same ∙ ap (λ x. scan_on go fewer x used more) is
      ∙ ap (λ n. scan_on go fewer place n more) here
  leads_on zero s used (b ∷ bs) more place leads fewer at all there = absurd (omega (arith, all))
  leads_on (suc left) s used (b ∷ bs) more place (next, turns, later) fewer at all there =
      ap (λ t. says t (used + 1) (λ n. scan_on go left n (used + 1) (bs ++ more))) turns
      ∙ leads_on left next (used + 1) bs more place later fewer at (omega (arith, all)) (omega (arith, there))

  -- bytes that lead to a place, and then those that lead on from there
  pub leads_then : (s : S) (bytes : List ℕ) (m : S) (more : List ℕ) (t : S) → LeadsTo go s bytes m → LeadsTo go m more t
      → LeadsTo go s (bytes ++ more) t
  leads_then s [] m more t is on = subst (λ x. LeadsTo go x more t) (sym is) on
  leads_then s (b ∷ bytes) m more t (next, turns, later) on = (next, turns, leads_then next bytes m more t later on)

  says_too : (t : ScanStep S) (used : ℕ) (on on' : S → Header) (x : Header) → ((s : S) → on s ≡ x → on' s ≡ x)
      → says t used on ≡ x → says t used on' ≡ x
  says_too (turn.More s) used on on' x goes is = goes s is
  says_too (turn.Sized len) used on on' x goes is = is
  says_too turn.Bad used on on' x goes is = is

  -- what isn't short stays so
  stays : (left : ℕ) (s : S) (used : ℕ) (bytes more : List ℕ) (x : Header) → ¬ (x ≡ Short)
      → scan_on go left s used bytes ≡ x → scan_on go left s used (bytes ++ more) ≡ x
  stays zero s used bytes more x isnt is = is
  stays (suc left) s used [] more x isnt is = absurd (isnt (sym is))
  stays (suc left) s used (b ∷ bs) more x isnt is =
      says_too (go s b) (used + 1) (λ next. scan_on go left next (used + 1) bs)
      (λ next. scan_on go left next (used + 1) (bs ++ more)) x
      (λ next is'. stays left next (used + 1) bs more x isnt is') is

  -- where a header ends
  record EndsHeader (left : ℕ) (s : S) (before : ℕ) (bytes : List ℕ) (len used : ℕ) : Type 0 where
    pub count : ℕ
    pub all : used ≡ before + suc count
    pub inside : suc count ≤ length bytes
    pub few : suc count ≤ left
    pub again : scan_on go left s before (take (suc count) bytes) ≡ Sized len used

  ends_more : (t : ScanStep S) (left : ℕ) (s : S) (before : ℕ) (b : ℕ) (bs : List ℕ) (len used : ℕ) → go s b ≡ t
      → ((next : S) → scan_on go left next (before + 1) bs ≡ Sized len used → EndsHeader left next (before + 1) bs len used)
      → says t (before + 1) (λ next. scan_on go left next (before + 1) bs) ≡ Sized len used
      → EndsHeader (suc left) s before (b ∷ bs) len used
  ends_more (turn.More next) left s before b bs len used turns later is =
      let e = later next is in record {
        count = suc e.count;
        all = omega (arith, e.all);
        inside = omega (arith, e.inside);
        few = omega (arith, e.few);
        again = ap (λ t. says t (before + 1) (λ next'. scan_on go left next' (before + 1) (take (suc e.count) bs))) turns
            ∙ e.again;
      }
  ends_more (turn.Sized n) left s before b bs len used turns later is = record {
    count = 0;
    all = (let same : ◌≡◌ {A = Header} (Sized n (before + 1)) (Sized len used) = is in
        let size : before + 1 ≡ used = cc in omega (arith, size));
    inside = omega arith;
    few = omega arith;
    again = ap (λ t. says t (before + 1) (λ next'. scan_on go left next' (before + 1) [])) turns ∙ is;
  }
  ends_more turn.Bad left s before b bs len used turns later is =
      (let odd : ◌≡◌ {A = Header} Bad (Sized len used) = is in cc)

  ends : (left : ℕ) (s : S) (before : ℕ) (bytes : List ℕ) (len used : ℕ) → scan_on go left s before bytes ≡ Sized len used
      → EndsHeader left s before bytes len used
  ends zero s before bytes len used is = (let odd : ◌≡◌ {A = Header} Bad (Sized len used) = is in cc)
  ends (suc left) s before [] len used is = (let odd : ◌≡◌ {A = Header} Short (Sized len used) = is in cc)
  ends (suc left) s before (b ∷ bs) len used is =
      ends_more (go s b) left s before b bs len used refl
      (λ next is'. ends left next (before + 1) bs len used is') is

  -- how many bytes may be short
  short_more : (t : ScanStep S) (left : ℕ) (before : ℕ) (bs : List ℕ)
      → ((next : S) → scan_on go left next (before + 1) bs ≡ Short → length bs < left)
      → says t (before + 1) (λ next. scan_on go left next (before + 1) bs) ≡ Short → length bs < left
  short_more (turn.More next) left before bs later is = later next is
  short_more (turn.Sized n) left before bs later is =
      (let odd : ◌≡◌ {A = Header} (Sized n (before + 1)) Short = is in cc)
  short_more turn.Bad left before bs later is = (let odd : ◌≡◌ {A = Header} Bad Short = is in cc)

  short : (left : ℕ) (s : S) (before : ℕ) (bytes : List ℕ) → scan_on go left s before bytes ≡ Short → length bytes < left
  short zero s before bytes is = (let odd : ◌≡◌ {A = Header} Bad Short = is in cc)
  short (suc left) s before [] is = omega arith
  short (suc left) s before (b ∷ bs) is =
      omega (arith, short_more (go s b) left before bs (λ next is'. short left next (before + 1) bs is') is)

  nothing : (left : ℕ) (s : S) → 0 < left → scan_on go left s 0 [] ≡ Short
  nothing zero s some = absurd (omega (arith, some))
  nothing (suc left) s some = refl

pub scanned_headers : {S : Type 0} (s : Scanning S) → IsSmall s → IsHeaderFormat (scanned s)
scanned_headers s is = record {
  sized = λ bytes more len used said. stays s.turn s.most_header s.start 0 bytes more (Sized len used) (λ odd. cc) said;
  front = λ bytes len used said.
      let e = ends s.turn s.most_header s.start 0 bytes len used said in
      let all : used ≡ suc e.count = omega (arith, e.all) in
      ap (λ n. scan_on s.turn s.most_header s.start 0 (take n bytes)) all ∙ e.again;
  bad = λ bytes more said. stays s.turn s.most_header s.start 0 bytes more Bad (λ odd. cc) said;
  some = λ bytes len used said.
      let e = ends s.turn s.most_header s.start 0 bytes len used said in
      (omega (arith, e.all), omega (arith, e.all, e.inside), omega (arith, e.all, e.few));
  short = λ bytes said. short s.turn s.most_header s.start 0 bytes said;
  nothing = nothing s.turn s.most_header s.start is.some;
  small = is.small;
}
