-- Where fields stand.
use Rattle.std.proofs.Common.{◌≡◌, ◌<◌, ◌≤◌, ℕ, List, [], ◌∷◌, length, get_or, map, take, take_all, drop, All, Bool, IsTrue, MatchBool, true, false, ◌↔◌, ◌+◌, ◌&&◌, refl, subst, arith}
use Rattle.messages.specs.Names.{All-cons, All-get_or, All-head, All-map, All-more, All-nil, All-tail, false≢true, header_bytes, IsRequestAt, length-drop, length-map, length-take-le, nil_from_length, ReadsRequest, RequestHead}
use Rattle.httparse.specs.declared.spans.HeaderSpan.{HeaderSpan}
use Rattle.httparse.specs.declared.spans.RequestSpans.{RequestSpans}

all_of_map : {X Y : Type 0} (P : Y → Type 0) (f : X → Y) (xs : List X) → All P (map f xs) → All (λ x. P (f x)) xs
all_of_map P f [] h = All-nil (λ x. P (f x))
all_of_map P f (x ∷ xs) h =
    All-cons (λ x. P (f x)) x xs (All-head P (f x) (map f xs) h) (all_of_map P f xs (All-tail P (f x) (map f xs) h))

abbrev pub no_span : HeaderSpan
no_span = record { name = record { start = 0; end = 0 }; value = record { start = 0; end = 0 } }

-- whether something is so of each field, or not of one that was met
module _ (P : List ℕ × List ℕ → Type 0) (head : List ℕ) (spans : List HeaderSpan) (i : ℕ) where
  abbrev pub SoFar : Bool → Type 0
  SoFar so = MatchBool so (All (λ s. P (header_bytes head s)) (take i spans)) (¬ (All P (map (header_bytes head) spans)))

  pub all_fields : length spans ≤ i → (so : Bool) → SoFar so → IsTrue so ↔ All P (map (header_bytes head) spans)
  all_fields past true all = (λ _. All-map P (header_bytes head) spans (rw (take_all i spans past) at all), λ _. refl)
  all_fields past false odd = (λ wrong. absurd (false≢true wrong), λ all. absurd (odd all))

pub one_more : (P : List ℕ × List ℕ → Type 0) (head : List ℕ) (spans : List HeaderSpan) (i : ℕ) → i < length spans
    → (so one : Bool) → SoFar P head spans i so → (IsTrue one ↔ P (header_bytes head (get_or spans i no_span)))
    → SoFar P head spans (i + 1) (so && one)
one_more P head spans i within true true all is =
    All-more (λ s. P (header_bytes head s)) spans i no_span within all (is.0 refl)
one_more P head spans i within true false all is = λ every. absurd (false≢true (is.1
    (All-get_or (λ s. P (header_bytes head s)) spans i no_span within (all_of_map P (header_bytes head) spans every))))
one_more P head spans i within false one odd is = odd

-- a text has as many fields as were found, and is just the head where that is as long
module _ {bytes : List ℕ} {headers : List HeaderSpan} {r : RequestSpans} {h : RequestHead}
    (at : IsRequestAt bytes headers r h) where
  pub fields_counted : r.headers ≤ length headers → length h.fields ≡ r.headers
  fields_counted fits = grind (arith, at.fields, length-map, length-take-le r.headers headers fits)

  pub reads_whole : length bytes ≤ r.len → ReadsRequest bytes h []
  reads_whole all = subst (ReadsRequest bytes h)
      (nil_from_length (drop r.len bytes) (omega (arith, all, length-drop r.len bytes))) at.reads
