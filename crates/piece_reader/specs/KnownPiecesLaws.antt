-- Laws of a reader of pieces over a stream that is known.
use Rattle.std.specs.Prelude.{◌≡◌, ℕ, ◌<◌, List, [], ◌∷◌, ◌++◌, length, true, false, Option, None, Some, IfSome, Ok, Err}
use Rattle.std.proofs.Common.{sym, ap, subst, ◌∙◌, arith, inl, inr, refl, append-nil}
use Rattle.std.specs.Io.KnownBytes.{IsAtEnd, prepend_known}
use Rattle.buffer_redux.specs.GivesRemaining.{GivesRemaining-ahead}
use Rattle.buffer_redux.specs.StreamLog.{StreamLog}
use Rattle.buffer_redux.specs.UnbufferLaws.{left_then}
use Rattle.piece_reader.specs.declared.error.NextError.TheVariants.{Wrong, Io}
use Rattle.piece_reader.specs.Grammar.{Grammar, IsLawful, IsOpen}
use Rattle.piece_reader.specs.KnownPayloads.{AnswersKnown}
use Rattle.piece_reader.specs.KnownPieces.{HasLeft, ahead_of}
use Rattle.piece_reader.specs.NextPiece.{Faulted, MetEnd, NextAnswer, NextPiece, PiecesWent}
use Rattle.piece_reader.specs.NextPieceLaws.{MetEnd-once}
use Rattle.piece_reader.specs.PiecesWentLaws.{drop_none}
use Rattle.piece_reader.specs.PieceReader.{ReaderState, IsFresh, rest}
use Rattle.piece_reader.specs.TextLaws.{Pieces-first, Pieces-last, Pieces-none, Pieces-right, Pieces-whole}
use Rattle.piece_reader.specs.Texts.{HasPieces, IsLast}

-- known bytes are those that are buffered, and then the others
pub front_of : (buffered : List ℕ) (left : Option (List ℕ)) (bytes : List ℕ) → prepend_known buffered left ≡ Some bytes
    → (more : List ℕ) × (left ≡ Some more) × (bytes ≡ buffered ++ more)
front_of buffered None bytes is = cc
front_of buffered (Some y) bytes is = (y, refl, cc)

-- the inner reader ran dry, so what was left is what is buffered
pub dry_front : (left left' : Option (List ℕ)) (more : List ℕ) → IfSome left (λ _. IsAtEnd left') → left' ≡ Some more
    → (known : List ℕ) → left ≡ Some known → more ≡ []
dry_front None left' more ended is known was = cc
dry_front (Some x) None more ended is known was = cc
dry_front (Some x) (Some y) more ended is known was = (let same : y ≡ more = cc in sym same ∙ ended)

-- where the bytes that weren't handed out are known, what went is a front of them, and the others are left
module _ {S D : Type 0} (remaining : S → Option (List ℕ)) (most : ℕ) (s t : ReaderState S D) (text bytes : List ℕ)
    (known : ahead_of remaining s ≡ Some text) (went : PiecesWent remaining most s bytes t) where
  pub PiecesWent-front : (more : List ℕ) × (ahead_of remaining t ≡ Some more) × (text ≡ bytes ++ more)
  PiecesWent-front =
      left_then (ahead_of remaining s) (ahead_of remaining t) text bytes known
      (GivesRemaining-ahead (remaining s.reader.inner) (remaining t.reader.inner) s.reader.log.reads t.reader.log.reads
      (rest s) (rest t) bytes went.hands.got went.known went.hands.given went.hands.equal)

  -- those are just what is buffered, where the stream ended
  pub PiecesWent-dry : s.ended ≡ false → MetEnd s t → PiecesWent-front.0 ≡ rest t
  PiecesWent-dry not_ended met =
      let left = PiecesWent-front in
      let before = front_of (rest s) (remaining s.reader.inner) text known in
      let after = front_of (rest t) (remaining t.reader.inner) left.0 left.1 in
      after.2 ∙ ap (λ l. rest t ++ l) (dry_front (remaining s.reader.inner) (remaining t.reader.inner) after.0
      (went.known.dry (omega (arith, MetEnd-once s t not_ended met))) after.1 before.0 before.1) ∙ append-nil (rest t)

  -- where nothing was handed out they are what was left
  pub PiecesWent-stays : bytes ≡ [] → ahead_of remaining t ≡ Some text
  PiecesWent-stays none =
      PiecesWent-front.1 ∙ ap (λ l. Some l) (sym (PiecesWent-front.2 ∙ ap (λ l. l ++ PiecesWent-front.0) none))

module _ {S D W : Type 0} (remaining : S → Option (List ℕ)) (grammar : D → Grammar W)
    (lawful : (d : D) → IsLawful (grammar d)) (s t : ReaderState S D) where
  abbrev g : Grammar W
  g = grammar s.decoder

  abbrev law : IsLawful g
  law = lawful s.decoder

  -- just these payloads are left of a reader
  abbrev Left : ReaderState S D → List (List ℕ) → Type 0
  Left f = HasLeft remaining (grammar f.decoder) f

  module _ (answer : NextAnswer W) (next : NextPiece remaining g s answer t) (payloads : List (List ℕ))
      (has : Left s payloads) where
    -- what is left now
    abbrev left : (more : List ℕ) × (ahead_of remaining t ≡ Some more) × (has.text ≡ next.bytes ++ more)
    left = PiecesWent-front remaining g.most s t has.text next.bytes has.known next.went

    all_buffered : s.ended ≡ false → MetEnd s t → left.0 ≡ rest t
    all_buffered = PiecesWent-dry remaining g.most s t has.text next.bytes has.known next.went

    -- a text of these is left, under the decoder that is still the same
    leaves : (text : List ℕ) (later : List (List ℕ)) → ahead_of remaining t ≡ Some text → HasPieces g text later
        → (t.ended ≡ true → later ≡ []) → Left t later
    leaves text later known pieces none = subst (λ d. HasLeft remaining (grammar d) t later) (sym next.went.decoder)
        (record { text = text; known = known; has = pieces; none = none })

    still_open : {later : List (List ℕ)} → t.ended ≡ false → t.ended ≡ true → later ≡ []
    still_open open' ended = (let odd : true ≡ false = sym ended ∙ open' in cc)

    -- nothing was handed out
    same_left : next.bytes ≡ [] → t.ended ≡ false → Left t payloads
    same_left none open' = leaves has.text payloads
        (PiecesWent-stays remaining g.most s t has.text next.bytes has.known next.went none) has.has (still_open open')

    -- a piece was
    first_of : (found : List ℕ) → g.piece next.bytes found → t.ended ≡ false
        → (later : List (List ℕ)) × (payloads ≡ found ∷ later) × Left t later
    first_of found is open' =
        let first = Pieces-first g law has.text found left.0 payloads
        (record { piece = next.bytes; is = is; equal = left.2 }) has.has in
        (first.0, first.1, leaves left.0 first.0 left.1 first.2 (still_open open'))

    -- a last one was
    last_of : (found : List ℕ) → IsLast g next.bytes found → rest t ≡ [] → s.ended ≡ false → MetEnd s t
        → (later : List (List ℕ)) × (payloads ≡ found ∷ later) × Left t later
    last_of found last none not_ended met =
        let nothing : left.0 ≡ [] = all_buffered not_ended met ∙ none in
        let all : has.text ≡ next.bytes = left.2 ∙ ap (λ l. next.bytes ++ l) nothing ∙ append-nil next.bytes in (
          [],
          Pieces-last g law has.text found payloads (subst (λ l. IsLast g l found) (sym all) last) has.has,
          leaves [] [] (left.1 ∙ ap (λ l. Some l) nothing) refl (λ _. refl),
        )

    -- none was, at the end
    none_of : next.bytes ≡ [] → rest t ≡ [] → MetEnd s t → payloads ≡ []
    none_of is none met = elim s.ended as (λ b. b ≡ s.ended → payloads ≡ []) [
      | true ↦ λ ended. has.none (sym ended)
      | false ↦ λ not_ended. Pieces-none g law has.text payloads
          (left.2 ∙ ap (λ l. l ++ left.0) is ∙ all_buffered (sym not_ended) met ∙ none) has.has
    ] refl

    -- nothing wrong was met
    front : next.bytes ≡ [] → has.text ≡ left.0
    front none = left.2 ∙ ap (λ l. l ++ left.0) none

    never_wrong : (e : W) → next.bytes ≡ [] → ¬ (g.wrong (rest t) e)
    never_wrong e none =
        let after = front_of (rest t) (remaining t.reader.inner) left.0 left.1 in
        Pieces-right g law has.text (rest t) after.0 payloads e (front none ∙ after.2) has.has

    -- nothing that is left is cut short
    never_cut : (e : W) → next.bytes ≡ [] → IsOpen g (rest t) → 0 < length (rest t) → s.ended ≡ false → MetEnd s t
        → ¬ (g.cut (rest t) e)
    never_cut e none is some not_ended met =
        Pieces-whole g law (rest t) payloads e some is
        (subst (λ l. HasPieces g l payloads) (front none ∙ all_buffered not_ended met) has.has)

  open_before : (answer : NextAnswer W) → NextPiece remaining g s answer t → ¬ (answer ≡ Ok None) → s.ended ≡ false
  open_before answer next isnt = elim s.ended as (λ b. b ≡ s.ended → b ≡ false) [
    | true ↦ λ ended. absurd (isnt (next.told (sym ended)))
    | false ↦ λ not_ended. refl
  ] refl

  abbrev Known : NextAnswer W → List (List ℕ) → Type 0
  Known answer payloads = AnswersKnown Left (λ f. f.reader.log.reads.faults) Io s answer payloads t

  some_known : (found : List ℕ) (payloads later : List (List ℕ)) → NextPiece remaining g s (Ok (Some found)) t
      → payloads ≡ found ∷ later → Left t later → Known (Ok (Some found)) payloads
  some_known found payloads later next is left =
      subst (Known (Ok (Some found))) (sym is) (refl, left, next.answers.0)

  -- what a call answers where it is known what is left
  pub NextPiece-answers : (answer : NextAnswer W) (payloads : List (List ℕ)) → Left s payloads
      → NextPiece remaining g s answer t → Known answer payloads
  NextPiece-answers (Ok (Some found)) payloads has next =
      let later : (later : List (List ℕ)) × (payloads ≡ found ∷ later) × Left t later = elim next.answers.1 [
        | inl (is, open', none) ↦ first_of (Ok (Some found)) next payloads has found is open'
        | inr (is, open', some, none, ended, met) ↦
            last_of (Ok (Some found)) next payloads has found (record { is = is; open' = open'; some = some }) none
            (open_before (Ok (Some found)) next (λ odd. cc)) met
      ] in
      some_known found payloads later.0 next later.1 later.2
  NextPiece-answers (Ok None) payloads has next =
      let a = next.answers in
      let none = none_of (Ok None) next payloads has a.0 a.1 a.4 in
      subst (Known (Ok None)) (sym none) (subst (Left t) none (same_left (Ok None) next payloads has a.0 a.3))
  NextPiece-answers (Err (Wrong e)) payloads has next = absurd (elim next.answers.3 [
    | inl wrong ↦ never_wrong (Err (Wrong e)) next payloads has e next.answers.0 wrong.0
    | inr (cut, open', some, met) ↦ never_cut (Err (Wrong e)) next payloads has e next.answers.0 open' some
        (open_before (Err (Wrong e)) next (λ odd. cc)) met cut
  ])
  NextPiece-answers (Err (Io e)) payloads has next = (
    (e, refl),
    same_left (Err (Io e)) next payloads has next.answers.0 next.answers.3,
    λ why is. (let same : e ≡ why = cc in subst (λ x. Faulted s x t) same next.answers.2),
  )

-- what a fresh reader has left is what its stream has
pub IsFresh-left : {S D W : Type 0} (remaining : S → Option (List ℕ)) (g : Grammar W) (tells : S → StreamLog)
    (least most : ℕ) (stream : S) (finder : D) (f : ReaderState S D) (text : List ℕ) (payloads : List (List ℕ))
    → IsFresh tells least most stream finder f → remaining stream ≡ Some text → HasPieces g text payloads
    → HasLeft remaining g f payloads
IsFresh-left remaining g tells least most stream finder f text payloads fresh known has =
    let none : rest f ≡ [] = drop_none f.handed f.reader.block.bytes fresh.empty in
    record {
      text = text;
      known = ap (λ l. prepend_known l (remaining f.reader.inner)) none
          ∙ ap (λ s. prepend_known [] (remaining s)) fresh.inner ∙ ap (prepend_known []) known;
      has = has;
      none = λ ended. (let odd : true ≡ false = sym ended ∙ fresh.ended in cc);
    }
