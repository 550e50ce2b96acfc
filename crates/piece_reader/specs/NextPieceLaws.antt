-- Laws of one call of `next`, for the proofs of those who call it.
use Rattle.std.specs.Prelude.{◌≡◌, ℕ, ◌+◌, ◌<◌, ◌≤◌, List, [], ◌++◌, length, take, Bool, true, false, MatchBool, Option, None, Some, Result, Ok, Err, OnErr}
use Rattle.std.proofs.Common.{sym, ap, subst, ◌∙◌, refl, arith, le_refl, inl, inr, length-append, length-drop, append_assoc, append-nil}
use Rattle.std.proofs.Math.Seq.{take-append_seam}
use Rattle.std.proofs.lemmas.Bool.{cases_lt}
use Rattle.std.proofs.lemmas.List.{append_cancel_left, take_all, take-append-le}
use Rattle.piece_reader.specs.declared.decoder.Span.{Span}
use Rattle.piece_reader.specs.declared.error.NextError.{NextError}
use Rattle.piece_reader.specs.declared.error.NextError.TheVariants.{Wrong, Io}
use Rattle.piece_reader.specs.Decoding.{bytes_at}
use Rattle.piece_reader.specs.Grammar.{Begins, Grammar, IsLawful, IsOpen}
use Rattle.piece_reader.specs.GrammarLaws.{open_not}
use Rattle.buffer_redux.specs.Asking.{AskedWhere}
use Rattle.buffer_redux.specs.AskingLaws.{AskedOver-same, AskedWhere-same}
use Rattle.buffer_redux.specs.Unbuffer.{HandsOutInOrder}
use Rattle.piece_reader.specs.NextPiece.{AskedUnlessEnded, AsksNone, MetEnd, NextAnswer, NextAnswers, NextPiece, NoEnd, OffersMore, OffersOver, empty_reads, load_answer}
use Rattle.piece_reader.specs.PiecesWentLaws.{PiecesWent-none, PiecesWent-unasked}
use Rattle.piece_reader.specs.PieceReader.{ReaderState, IsPieceReader, IsSettled, left_of, rest}

-- the answer, by what was left, where the stream wasn't asked
module _ {S D W : Type 0} (g : Grammar W) (law : IsLawful g) (s t : ReaderState S D) (bytes : List ℕ)
    (same : bytes ++ rest t ≡ rest s) where
  none_of : bytes ≡ [] → rest t ≡ rest s
  none_of is = ap (λ l. l ++ rest t) (sym is) ∙ same

  all_of : rest t ≡ [] → bytes ≡ rest s
  all_of none = sym (append-nil bytes) ∙ ap (λ l. bytes ++ l) (sym none) ∙ same

  ready : (piece payload more : List ℕ) → g.piece piece payload → rest s ≡ piece ++ more
      → (answer : NextAnswer W) → NextAnswers g s answer bytes t → (answer ≡ Ok (Some payload)) × (rest t ≡ more)
  ready piece payload more is front (Ok (Some found)) (fault, inl (other, open', none)) =
      let parts = law.one bytes piece (rest t) more found payload other is (same ∙ front) in
      (ap (λ l. Ok (Some l)) parts.1, append_cancel_left bytes (rest t) more (same ∙ front ∙ ap (λ l. l ++ more) (sym parts.0)))
  ready piece payload more is front (Ok (Some found)) (fault, inr (last, open', some, none, ended, met)) =
      absurd (open_not g piece payload more is (subst (IsOpen g) (all_of none ∙ front) open'))
  ready piece payload more is front (Ok None) (nothing, none, fault, ended, met) =
      absurd (omega (
        arith,
        ap length (sym (none_of nothing) ∙ none),
        ap length front,
        length-append piece more,
        law.some piece payload is,
      ))
  ready piece payload more is front (Err (Wrong e)) (nothing, fault, ended, inl (wrong, none)) =
      absurd (law.apart piece payload more e is (subst (λ l. g.wrong l e) (none_of nothing ∙ front) wrong))
  ready piece payload more is front (Err (Wrong e)) (nothing, fault, ended, inr (cut, open', some, met)) =
      absurd (open_not g piece payload more is (subst (IsOpen g) (none_of nothing ∙ front) open'))
  ready piece payload more is front (Err (Io e)) (nothing, open', fault, ended, met) =
      absurd (open_not g piece payload more is (subst (IsOpen g) (none_of nothing ∙ front) open'))

  refused : (e : W) → g.wrong (rest s) e → (answer : NextAnswer W) → NextAnswers g s answer bytes t
      → (answer ≡ Err (Wrong e)) × (rest t ≡ rest s)
  refused e wrong (Ok (Some found)) (fault, inl (other, open', none)) =
      absurd (law.apart bytes found (rest t) e other (subst (λ l. g.wrong l e) (sym same) wrong))
  refused e wrong (Ok (Some found)) (fault, inr (last, open', some, none, ended, met)) =
      absurd (open'.not_wrong e (subst (λ l. g.wrong l e) (sym (all_of none)) wrong))
  refused e wrong (Ok None) (nothing, none, fault, ended, met) =
      absurd (law.nothing e (subst (λ l. g.wrong l e) (sym (none_of nothing) ∙ none) wrong))
  refused e wrong (Err (Wrong e')) (nothing, fault, ended, inl (other, none)) = (
    ap (λ x. Err (Wrong x)) (law.reason (rest s) e' e (subst (λ l. g.wrong l e') (none_of nothing) other) wrong),
    none_of nothing,
  )
  refused e wrong (Err (Wrong e')) (nothing, fault, ended, inr (cut, open', some, met)) =
      absurd (open'.not_wrong e (subst (λ l. g.wrong l e) (sym (none_of nothing)) wrong))
  refused e wrong (Err (Io e')) (nothing, open', fault, ended, met) =
      absurd (open'.not_wrong e (subst (λ l. g.wrong l e) (sym (none_of nothing)) wrong))

module _ {S D W : Type 0} (remaining : S → Option (List ℕ)) (g : Grammar W) (law : IsLawful g) (s : ReaderState S D)
    (answer : NextAnswer W) (t : ReaderState S D) (next : NextPiece remaining g s answer t) where
  -- a whole piece that is left is handed out, and the stream isn't asked
  pub NextPiece-ready : (piece payload more : List ℕ) → g.piece piece payload → rest s ≡ piece ++ more
      → (answer ≡ Ok (Some payload)) × (rest t ≡ more) × (t.reader.log ≡ s.reader.log)
  NextPiece-ready piece payload more is front =
      let told : t.reader.log ≡ s.reader.log = elim next.asked [
        | inl same ↦ same
        | inr over ↦ absurd (open_not g piece payload (more ++ over.1.came) is
            (subst (IsOpen g) (ap (λ l. l ++ over.1.came) front ∙ append_assoc piece more over.1.came) over.1.such))
      ] in
      let same = PiecesWent-unasked remaining g.most s t next.bytes next.went told in
      let is' = ready g law s t next.bytes same piece payload more is front answer next.answers in
      (is'.0, is'.1, told)

  -- the beginning of no piece is refused each time, and the stream isn't asked
  pub NextPiece-wrong : (e : W) → g.wrong (rest s) e
      → (answer ≡ Err (Wrong e)) × (rest t ≡ rest s) × (t.reader.log ≡ s.reader.log)
  NextPiece-wrong e wrong =
      let told : t.reader.log ≡ s.reader.log = elim next.asked [
        | inl same ↦ same
        | inr over ↦ absurd (over.1.such.not_wrong e (law.stays (rest s) over.1.came e wrong))
      ] in
      let same = PiecesWent-unasked remaining g.most s t next.bytes next.went told in
      let is = refused g law s t next.bytes same e wrong answer next.answers in
      (is.0, is.1, told)

-- where a whole piece is left, the next call doesn't ask the stream
pub AsksNone-begins : {S D W : Type 0} (remaining : S → Option (List ℕ)) (g : Grammar W) → IsLawful g → (s : ReaderState S D)
    → Begins g (rest s) → AsksNone remaining g s
AsksNone-begins remaining g law s b answer t next =
    (NextPiece-ready remaining g law s answer t next b.piece b.payload b.more b.is b.equal).2

-- where it is settled what the next call answers, that call doesn't ask the stream
pub AsksNone-settled : {S D W : Type 0} (remaining : S → Option (List ℕ)) (g : Grammar W) → IsLawful g → (s : ReaderState S D)
    → IsSettled g s → AsksNone remaining g s
AsksNone-settled remaining g law s (inl ended) answer t next = elim next.asked [
  | inl same ↦ same
  | inr over ↦ (let odd : true ≡ false = sym ended ∙ over.0 in cc)
]
AsksNone-settled remaining g law s (inr (inl begins)) answer t next =
    AsksNone-begins remaining g law s begins answer t next
AsksNone-settled remaining g law s (inr (inr (e, wrong))) answer t next =
    (NextPiece-wrong remaining g law s answer t next e wrong).2

-- where the log stays as it is, so does what it was asked over
pub AskedUnlessEnded-told : {S D : Type 0} (Such : List ℕ → Type 0) (s m t : ReaderState S D) → t.reader.log ≡ m.reader.log
    → AskedUnlessEnded Such s m → AskedUnlessEnded Such s t
AskedUnlessEnded-told Such s m t told (inl same) = inl (told ∙ same)
AskedUnlessEnded-told Such s m t told (inr over) =
    inr (over.0, AskedOver-same Such (left_of s) (left_of m) (left_of t) told over.1)

pub OffersMore-told : {S D : Type 0} (s m t : ReaderState S D) → t.reader.log ≡ m.reader.log → OffersMore s m → OffersMore s t
OffersMore-told s m t told offered =
    AskedWhere-same (OffersOver s.reader.block.capacity t.reader.log.reads.offer) (left_of s) (left_of m) (left_of t) told
    (subst (λ l. AskedWhere (OffersOver s.reader.block.capacity l.reads.offer) (left_of s) (left_of m)) (sym told) offered)

-- an end of the stream that was met: before, which no call had told yet, or now
module _ {S D : Type 0} (s t : ReaderState S D) where
  abbrev End : Bool → Type 0
  End before = MatchBool before (NoEnd s t) (empty_reads t.reader ≡ empty_reads s.reader + 1)

  pub MetEnd-before : s.ended ≡ true → NoEnd s t → MetEnd s t
  MetEnd-before is = subst End (sym is)

  pub MetEnd-now : s.ended ≡ false → empty_reads t.reader ≡ empty_reads s.reader + 1 → MetEnd s t
  MetEnd-now is = subst End (sym is)

  pub MetEnd-told : s.ended ≡ true → MetEnd s t → NoEnd s t
  MetEnd-told is = subst End is

  pub MetEnd-once : s.ended ≡ false → MetEnd s t → empty_reads t.reader ≡ empty_reads s.reader + 1
  MetEnd-once is = subst End is

-- one that was met by the last of some calls, where the others met none, was met by them all
pub MetEnd-joins : {S D : Type 0} (s m t : ReaderState S D) → m.ended ≡ s.ended → NoEnd s m → MetEnd m t → MetEnd s t
MetEnd-joins s m t same none met = elim m.ended as (λ b. b ≡ m.ended → MetEnd s t) [
  | true ↦ λ is. MetEnd-before s t (sym same ∙ sym is) (MetEnd-told m t (sym is) met ∙ none)
  | false ↦ λ is. MetEnd-now s t (sym same ∙ sym is) (MetEnd-once m t (sym is) met ∙ ap (λ n. n + 1) none)
] refl

-- no more was looked at than is left
pub seen_inside : {S D W : Type 0} (g : Grammar W) (s : ReaderState S D) → IsPieceReader g s → s.seen ≤ length (rest s)
seen_inside g s whole = omega (arith, whole.handed, length-drop s.handed s.reader.block.bytes)

-- where something is left the stream hasn't ended
pub still_going : (ended : Bool) (left : List ℕ) → (ended ≡ true → left ≡ []) → 0 < length left → ended ≡ false
still_going true left none some = absurd (omega (arith, some, ap length (none refl)))
still_going false left none some = refl

-- the beginning of no piece is refused as it stands
pub NextPiece-refused : {S D W : Type 0} (remaining : S → Option (List ℕ)) (g : Grammar W) (s : ReaderState S D)
    → IsPieceReader g s → 0 < length (rest s) → (e : W) → g.wrong (rest s) e → NextPiece remaining g s (Err (Wrong e)) s
NextPiece-refused remaining g s whole some e wrong =
    let going : s.ended ≡ false = still_going s.ended (rest s) whole.ended some in record {
      bytes = [];
      went = PiecesWent-none remaining g.most s;
      answers = (refl, refl, going, inl (wrong, refl));
      asked = inl refl;
      offered = inl refl;
      gave = λ _ _. omega arith;
      told = λ ended. (let odd : true ≡ false = sym ended ∙ going in cc);
      looked = record {
        stays = le_refl s.seen;
        all = λ open'. absurd (open'.not_wrong e wrong);
        shows = λ open'. absurd (open'.not_wrong e wrong);
      };
      whole = whole;
    }

-- an `Err` hands nothing out
pub NextPiece-kept : {S D W : Type 0} (remaining : S → Option (List ℕ)) (g : Grammar W) (s t : ReaderState S D)
    (answer : Result (Option Span) (NextError W)) → NextPiece remaining g s (load_answer answer t) t
    → OnErr answer (HandsOutInOrder (left_of s) [] (left_of t))
NextPiece-kept remaining g s t (Ok found) next = tt
NextPiece-kept remaining g s t (Err (Wrong e)) next =
    subst (λ l. HandsOutInOrder (left_of s) l (left_of t)) next.answers.0 next.went.hands
NextPiece-kept remaining g s t (Err (Io e)) next =
    subst (λ l. HandsOutInOrder (left_of s) l (left_of t)) next.answers.0 next.went.hands

-- two beginnings of the same bytes agree as far as both go
pub fronts_agree : (front more left got : List ℕ) → front ++ more ≡ left ++ got
    → take (length front) left ≡ take (length left) front
fronts_agree front more left got same =
    let n = length front in
    let m = length left in
    elim (cases_lt m n) [
      | inl few ↦
          take_all n left (omega (arith, few)) ∙ sym (take-append_seam left got) ∙ ap (take m) (sym same)
          ∙ take-append-le m front more (omega (arith, few))
      | inr many ↦
          sym (take-append-le n left got many) ∙ ap (take n) (sym same) ∙ take-append_seam front more
          ∙ sym (take_all m front many)
    ]

-- what is handed out stands in front in what was left, then what was given, where a payload stands in front in its piece
pub NextPiece-front : {S D W : Type 0} (remaining : S → Option (List ℕ)) (g : Grammar W)
    → ((bytes payload : List ℕ) → g.piece bytes payload → (more : List ℕ) × (bytes ≡ payload ++ more))
    → ((bytes payload : List ℕ) → g.last bytes payload → payload ≡ bytes)
    → (s t : ReaderState S D) (payload : List ℕ) → NextPiece remaining g s (Ok (Some payload)) t
    → (more got : List ℕ) × (payload ++ more ≡ rest s ++ got)
NextPiece-front remaining g piece last s t payload next =
    let front : (more : List ℕ) × (next.bytes ≡ payload ++ more) = elim next.answers.1 [
      | inl (is, going, none) ↦ piece next.bytes payload is
      | inr (is, part, some, none, ended, met) ↦ ([], sym (last next.bytes payload is) ∙ sym (append-nil payload))
    ] in (
      front.0 ++ rest t,
      next.went.hands.got,
      sym (append_assoc payload front.0 (rest t)) ∙ ap (λ l. l ++ rest t) (sym front.1) ∙ next.went.hands.equal,
    )

-- so it begins as what was left does
pub NextPiece-begins : {S D W : Type 0} (remaining : S → Option (List ℕ)) (g : Grammar W)
    → ((bytes payload : List ℕ) → g.piece bytes payload → (more : List ℕ) × (bytes ≡ payload ++ more))
    → ((bytes payload : List ℕ) → g.last bytes payload → payload ≡ bytes)
    → (s t : ReaderState S D) (payload : List ℕ) → NextPiece remaining g s (Ok (Some payload)) t
    → take (length payload) (rest s) ≡ take (length (rest s)) payload
NextPiece-begins remaining g piece last s t payload next =
    let front = NextPiece-front remaining g piece last s t payload next in
    fronts_agree payload front.0 (rest s) front.1 front.2

-- and it has at most so many bytes, where no payload of a piece has more, nor a last one of what settles nothing
pub NextPiece-fits : {S D W : Type 0} (remaining : S → Option (List ℕ)) (g : Grammar W) (max : ℕ)
    → ((bytes payload : List ℕ) → g.piece bytes payload → length payload ≤ max)
    → ((bytes payload : List ℕ) → g.last bytes payload → IsOpen g bytes → length payload ≤ max)
    → (s t : ReaderState S D) (payload : List ℕ) → NextPiece remaining g s (Ok (Some payload)) t → length payload ≤ max
NextPiece-fits remaining g max piece last s t payload next = elim next.answers.1 [
  | inl (is, going, none) ↦ piece next.bytes payload is
  | inr (is, open', some, none, ended, met) ↦ last next.bytes payload is open'
]

-- a relation of what a call answers, once what that lends is shown
pub shows_lent : {S D E : Type 0} (Such : Result (Option (List ℕ)) E → Type 0) (t : ReaderState S D) (found : Option Span)
    (span : Span) (shown : List ℕ) → found ≡ Some span → shown ≡ bytes_at span t.reader.block.bytes
    → Such (load_answer (Ok found) t) → Such (Ok (Some shown))
shows_lent Such t found span shown is same said = subst (λ l. Such (Ok (Some l))) (sym same)
    (subst (λ o. Such (load_answer (Ok o) t)) is said)
