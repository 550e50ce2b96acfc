-- What steps come to that were made again where their read was interrupted.
use Rattle.std.specs.Prelude.{◌≡◌, ℕ, zero, suc, ◌+◌, ◌*◌, ◌≤◌, List, [], ◌∷◌, ◌++◌, length, true, false, Option, None, Some, Ok, Err}
use Rattle.std.proofs.Common.{ap, append-nil, arith, inl, inr, refl, subst, sym, ◌∙◌, length-append}
use Rattle.std.specs.declared.io.Error.{Error}
use Rattle.buffer_redux.specs.Faults.{IsInterrupt, failure_count, interrupt_limit}
use Rattle.codec.specs.AskedAgain.{AskedAgain, StepRetried, ReadsFailFew}
use Rattle.codec.specs.Fetching.{MustAsk}
use Rattle.piece_reader.specs.declared.error.NextError.TheVariants.{Io, Wrong}
use Rattle.piece_reader.specs.Grammar.{Grammar}
use Rattle.piece_reader.specs.NextPiece.{MetEnd, NextAnswer, NextPiece, NoEnd, PiecesWent}
use Rattle.piece_reader.specs.NextPieceLaws.{MetEnd-joins, MetEnd-once}
use Rattle.piece_reader.specs.PiecesWentLaws.{PiecesWent-joins, PiecesWent-none}
use Rattle.piece_reader.specs.PieceReader.{ReaderState, rest}

module _ {S D W : Type 0} (remaining : S → Option (List ℕ)) (g : Grammar W) where
  -- who is told no end had met none that was untold
  still_open : (s : ReaderState S D) (answer : NextAnswer W) (t : ReaderState S D) → NextPiece remaining g s answer t
      → ¬ (answer ≡ Ok None) → s.ended ≡ false
  still_open s answer t next isnt = elim s.ended as (λ b. b ≡ s.ended → b ≡ false) [
    | true ↦ λ ended. absurd (isnt (next.told (sym ended)))
    | false ↦ λ not_ended. refl
  ] refl

  -- what was handed out, then what is left, is as much as was left, then given
  counted : (s : ReaderState S D) (bytes : List ℕ) (t : ReaderState S D) → PiecesWent remaining g.most s bytes t
      → length bytes + length (rest t) + length s.reader.log.reads.given
      ≡ length (rest s) + length t.reader.log.reads.given
  counted s bytes t went = omega (
    arith,
    ap length went.hands.equal,
    ap length went.hands.given,
    length-append bytes (rest t),
    length-append (rest s) went.hands.got,
    length-append s.reader.log.reads.given went.hands.got,
  )

  given_grows : (s : ReaderState S D) (bytes : List ℕ) (t : ReaderState S D) → PiecesWent remaining g.most s bytes t
      → length s.reader.log.reads.given ≤ length t.reader.log.reads.given
  given_grows s bytes t went =
      omega (arith, ap length went.hands.given, length-append s.reader.log.reads.given went.hands.got)

  module _ (limit : ℕ) where
    pub AskedAgain-went : (count : ℕ) (s : ReaderState S D) (row : ℕ) (t : ReaderState S D)
        → AskedAgain limit remaining g count s row t → PiecesWent remaining g.most s [] t
    AskedAgain-went zero s row t (same, none) = subst (PiecesWent remaining g.most s []) same (PiecesWent-none remaining g.most s)
    AskedAgain-went (suc count) s row t (m, before, again, e, is, next, in_a_row, few) =
        PiecesWent-joins remaining g.most s m t [] [] (AskedAgain-went count s before m again)
        (subst (λ l. PiecesWent remaining g.most m l t) next.answers.0 next.went)

    -- no end was met, and one fault by each
    pub AskedAgain-quiet : (count : ℕ) (s : ReaderState S D) (row : ℕ) (t : ReaderState S D)
        → AskedAgain limit remaining g count s row t
        → (t.ended ≡ s.ended) × NoEnd s t
        × (length t.reader.log.reads.faults ≡ length s.reader.log.reads.faults + count) × (row ≤ count)
    AskedAgain-quiet zero s row t (same, none) = (
      ap (λ x. x.ended) (sym same),
      ap (λ x. x.reader.log.reads.zero_reads) (sym same),
      omega (arith, ap (λ x. length x.reader.log.reads.faults) same),
      omega (arith, none),
    )
    AskedAgain-quiet (suc count) s row t (m, before, again, e, is, next, in_a_row, few) =
        let first = AskedAgain-quiet count s before m again in
        let a = next.answers in (
          a.3 ∙ sym (still_open m (Err (Io e)) t next (λ odd. cc)) ∙ first.0,
          a.4 ∙ first.1,
          omega (arith, first.2, ap length a.2, length-append m.reader.log.reads.faults (e ∷ [])),
          elim in_a_row [ inl more ↦ omega (arith, first.3, more.1) | inr anew ↦ omega (arith, anew.1) ],
        )

    -- behind one the next has to ask
    pub AskedAgain-must : (count : ℕ) (s : ReaderState S D) (row : ℕ) (t : ReaderState S D)
        → AskedAgain limit remaining g (suc count) s row t → MustAsk g t
    AskedAgain-must count s row t (m, before, again, e, is, next, in_a_row, few) = (next.answers.3, next.answers.1)

  -- bytes that came pay for a row
  rows_paid : (count : ℕ) (s : ReaderState S D) (row : ℕ) (t : ReaderState S D)
      → AskedAgain interrupt_limit remaining g count s row t
      → (length t.reader.log.reads.faults + interrupt_limit * length s.reader.log.reads.given
      ≤ length s.reader.log.reads.faults + interrupt_limit * length t.reader.log.reads.given + row) × (row ≤ interrupt_limit)
  rows_paid zero s row t (same, none) = (
    omega (
      arith,
      ap (λ x. length x.reader.log.reads.faults) same,
      ap (λ x. length x.reader.log.reads.given) same,
    ),
    omega (arith, none),
  )
  rows_paid (suc count) s row t (m, before, again, e, is, next, in_a_row, few) =
      let first = rows_paid count s before m again in
      let fault = ap length next.answers.2 in
      let one = length-append m.reader.log.reads.faults (e ∷ []) in
      let came = counted m next.bytes t next.went in
      let none = ap length next.answers.0 in (
        elim in_a_row [
          | inl more ↦ omega (arith, first.0, fault, one, given_grows m next.bytes t next.went, more.1)
          | inr anew ↦ omega (arith, first.0, first.1, fault, one, came, none, anew.0, anew.1)
        ],
        few,
      )

  -- where the stream has to be asked, a step that no fault ends is given a byte, or nothing
  module _ (m t : ReaderState S D) (must : MustAsk g m) where
    abbrev Paid : Type 0
    Paid = length m.reader.log.reads.given + m.reader.log.reads.zero_reads + 1
        ≤ length t.reader.log.reads.given + t.reader.log.reads.zero_reads

    by_bytes : (bytes : List ℕ) (went : PiecesWent remaining g.most m bytes t) → ¬ (bytes ++ rest t ≡ rest m) → Paid
    by_bytes bytes went isnt = elim went.hands.got as (λ l. l ≡ went.hands.got → Paid) [
      | [] ↦ λ none. absurd (isnt (went.hands.equal ∙ ap (λ l. rest m ++ l) (sym none) ∙ append-nil (rest m)))
      | b ∷ more ↦ λ some. omega (
        arith,
        ap length went.hands.given,
        ap length some,
        length-append m.reader.log.reads.given went.hands.got,
        went.grows.zero_reads,
      )
    ] refl

    by_end : (bytes : List ℕ) → PiecesWent remaining g.most m bytes t → MetEnd m t → Paid
    by_end bytes went met = omega (arith, MetEnd-once m t must.0 met, given_grows m bytes t went)

    paid : (answer : NextAnswer W) → NextPiece remaining g m answer t → ((e : Error) → ¬ (answer ≡ Err (Io e))) → Paid
    paid (Ok (Some payload)) next isnt = elim next.answers.1 [
      | inl (is, going, none) ↦ by_bytes next.bytes next.went (λ same. must.1.no_piece
          (record { piece = next.bytes; payload = payload; more = rest t; is = is; equal = sym same }))
      | inr (is, open', some, none, ended, met) ↦ by_end next.bytes next.went met
    ]
    paid (Ok None) next isnt = by_end next.bytes next.went next.answers.4
    paid (Err (Wrong e)) next isnt = elim next.answers.3 [
      | inl (wrong, none) ↦ by_bytes next.bytes next.went (λ same. must.1.not_wrong e
          (subst (λ l. g.wrong l e) (ap (λ l. l ++ rest t) (sym next.answers.0) ∙ same) wrong))
      | inr (cut, open', some, met) ↦ by_end next.bytes next.went met
    ]
    paid (Err (Io e)) next isnt = absurd (isnt e refl)

  module _ (s t : ReaderState S D) where
    few_calm : (answer : NextAnswer W) (count row : ℕ) (m : ReaderState S D)
        → AskedAgain interrupt_limit remaining g count s row m → NextPiece remaining g m answer t
        → ((e : Error) → ¬ (answer ≡ Err (Io e))) → t.reader.log.reads.faults ≡ m.reader.log.reads.faults
        → ReadsFailFew 0 s.reader.log.reads t.reader.log.reads
    few_calm answer zero row m again next isnt same = omega (
      arith,
      (rows_paid zero s row m again).0,
      again.1,
      ap length same,
      given_grows m next.bytes t next.went,
      (AskedAgain-quiet interrupt_limit zero s row m again).1,
      next.went.grows.zero_reads,
    )
    few_calm answer (suc count) row m again next isnt same =
        let rows = rows_paid (suc count) s row m again in
        omega (
          arith,
          rows.0,
          rows.1,
          ap length same,
          paid m t (AskedAgain-must interrupt_limit count s row m again) answer next isnt,
          (AskedAgain-quiet interrupt_limit (suc count) s row m again).1,
        )

    pub StepRetried-few : (answer : NextAnswer W) → StepRetried interrupt_limit remaining g s answer t
        → ReadsFailFew (failure_count answer) s.reader.log.reads t.reader.log.reads
    StepRetried-few (Ok (Some payload)) r =
        few_calm (Ok (Some payload)) r.count r.row r.last r.again r.next (λ e odd. cc) r.next.answers.0
    StepRetried-few (Ok None) r = few_calm (Ok None) r.count r.row r.last r.again r.next (λ e odd. cc) r.next.answers.2
    StepRetried-few (Err (Wrong e)) r =
        let calm = few_calm (Err (Wrong e)) r.count r.row r.last r.again r.next (λ e odd. cc) r.next.answers.1 in
        omega (arith, calm)
    StepRetried-few (Err (Io e)) r =
        let rows = rows_paid r.count s r.row r.last r.again in
        omega (
          arith,
          rows.0,
          rows.1,
          ap length r.next.answers.2,
          length-append r.last.reader.log.reads.faults (e ∷ []),
          given_grows r.last r.next.bytes t r.next.went,
          (AskedAgain-quiet interrupt_limit r.count s r.row r.last r.again).1,
          r.next.answers.4,
        )

    module _ (limit : ℕ) (answer : NextAnswer W) (r : StepRetried limit remaining g s answer t) where
      quiet : (r.last.ended ≡ s.ended) × NoEnd s r.last
          × (length r.last.reader.log.reads.faults ≡ length s.reader.log.reads.faults + r.count) × (r.row ≤ r.count)
      quiet = AskedAgain-quiet limit r.count s r.row r.last r.again

      pub StepRetried-went : PiecesWent remaining g.most s r.next.bytes t
      StepRetried-went = PiecesWent-joins remaining g.most s r.last t [] r.next.bytes
          (AskedAgain-went limit r.count s r.row r.last r.again) r.next.went

      pub StepRetried-met : MetEnd r.last t → MetEnd s t
      StepRetried-met = MetEnd-joins s r.last t quiet.0 quiet.1

      -- a fault leaves more faults than there were, and `Interrupted` comes behind as many as the limit
      pub StepRetried-fault : (e : Error) → answer ≡ Err (Io e)
          → length s.reader.log.reads.faults + 1 ≤ length t.reader.log.reads.faults
      StepRetried-fault e is =
          let next = subst (λ a. NextPiece remaining g r.last a t) is r.next in
          omega (arith, quiet.2, ap length next.answers.2, length-append r.last.reader.log.reads.faults (e ∷ []))

      pub StepRetried-often : (e : Error) → answer ≡ Err (Io e) → IsInterrupt e
          → length s.reader.log.reads.faults + limit + 1 ≤ length t.reader.log.reads.faults
      StepRetried-often e is interrupt =
          let next = subst (λ a. NextPiece remaining g r.last a t) is r.next in
          let fault = ap length next.answers.2 in
          let one = length-append r.last.reader.log.reads.faults (e ∷ []) in
          elim (r.often e is interrupt) [
            | inl more ↦ omega (arith, quiet.2, quiet.3, fault, one, more.1)
            | inr anew ↦ omega (arith, quiet.2, fault, one, anew.1)
          ]
