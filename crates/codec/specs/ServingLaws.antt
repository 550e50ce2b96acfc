-- Laws of a server's turns.
use Rattle.std.specs.Prelude.{◌≡◌, ℕ, ◌+◌, ◌≤◌, ◌⊎◌, List, [], ◌∷◌, ◌++◌, length, Bool, true, false, not, Option, None, Some, Result, Ok, Err, IfErr, IfOk}
use Rattle.std.specs.declared.io.Error.{Error}
use Rattle.std.proofs.lemmas.List.Elements.{All-cons, All-nil}
use Rattle.std.proofs.Common.{ap, append-nil, arith, inl, inr, length-append, refl, subst, sym, ◌∙◌}
use Rattle.buffer_redux.specs.Buffered.{Buffered}
use Rattle.buffer_redux.specs.BufWriter.{FlushedAlong, WasFlushed, WritesAlong}
use Rattle.buffer_redux.specs.Faults.{IsInterrupt, failure_count, interrupt_limit}
use Rattle.buffer_redux.specs.Policy.{std_write_rules}
use Rattle.buffer_redux.specs.StreamLog.{StreamLog}
use Rattle.buffer_redux.specs.WritesAlongLaws.{FlushedAlong-all, FlushedAlong-of, WasFlushed-along, WritesAlong-joins, WritesAlong-none, WritesAlong-then}
use Rattle.codec.specs.AnsweringLaws.{WritesOnce-along}
use Rattle.codec.specs.AskedAgain.{ReadsFailFew}
use Rattle.codec.specs.AskedAgainLaws.{StepRetried-fault, StepRetried-few, StepRetried-met, StepRetried-often, StepRetried-went}
use Rattle.codec.specs.ExchangedLaws.{Exchanged-joins, Exchanged-none}
use Rattle.codec.specs.Fetching.{FlushedFirst}
use Rattle.piece_reader.specs.Grammar.{Grammar}
use Rattle.piece_reader.specs.declared.error.NextError.TheVariants as next
use Rattle.piece_reader.specs.NextPiece.{NextAnswer, PiecesWent}
use Rattle.piece_reader.specs.NextPieceLaws.{MetEnd-once}
use Rattle.piece_reader.specs.PiecesWentLaws.{PiecesWent-joins, PiecesWent-none}
use Rattle.piece_reader.specs.PieceReader.{ReaderState}
use Rattle.codec.specs.Serving.{Converses, EndedBy, Exchange, Exchanged, FailedBy, Fetched, FlushesLast, IsWholeExchange, Server, Serves, ServesTurn, ServingEnds, ServingFails, Talked, is_flushed, joined_parts, server}
use Rattle.codec.specs.declared.serving.ServeError.{ServeError}
use Rattle.codec.specs.declared.serving.ServeError.TheVariants.{Failed, Flush, Read, Write, Wrong}
use Rattle.codec.specs.declared.serving.Served.{Served}
use Rattle.codec.specs.declared.serving.Served.TheVariants as served

module _ {S D W I A F T P : Type 0} (limit : ℕ) (remaining : S → Option (List ℕ)) (tells : T → StreamLog)
    (trace : T → T → Type 0) (g : Grammar W) (item_of : List ℕ → I) (Answers : A → I → List ℕ → List ℕ → Bool → A → Type 0)
    (Fails : A → I → List ℕ → F → A → Type 0) where
  -- a turn that failed is a failure behind those before
  pub turn_failed_so : (exchanges : List Exchange) (s t : Server S D A T P) (e : ServeError W F)
      → ServesTurn limit remaining tells trace g item_of Answers Fails s (Err e) t
      → FailedBy limit remaining tells trace g item_of Answers Fails e exchanges true s t
  turn_failed_so exchanges s t (Read e) turn = (refl, turn)
  turn_failed_so exchanges s t (Wrong e) turn = (refl, turn)
  turn_failed_so exchanges s t (Write e) turn = (refl, turn)
  turn_failed_so exchanges s t (Failed why) turn = (refl, turn)
  turn_failed_so exchanges s t (Flush ended e) turn = absurd turn

untold : (told : Bool) → not told ≡ true → told ≡ false
untold true is = (let odd : false ≡ true = is in cc)
untold false is = refl

module _ {S D W I A T P : Type 0} (limit : ℕ) (remaining : S → Option (List ℕ)) (tells : T → StreamLog)
    (trace : T → T → Type 0) (g : Grammar W) (item_of : List ℕ → I) (Answers : A → I → List ℕ → List ℕ → Bool → A → Type 0)
    (s : Server S D A T P) where
  module _ (none : (u : T) → trace u u) where
    -- a flush where need be accepts nothing
    pub first_along : (p : ReaderState S D) (w : Buffered T P) (t : ReaderState S D) (ready : Buffered T P)
        → FlushedFirst tells trace g p w {A = Unit {0}} (Ok tt) t ready → WritesAlong tells trace std_write_rules w [] ready
    first_along p w t ready first = elim first [
      | inl same ↦ subst (λ v. WritesAlong tells trace std_write_rules w [] v) (sym same.0)
          (WritesAlong-none tells trace std_write_rules none w)
      | inr flushed ↦ WasFlushed-along tells trace std_write_rules w (Ok tt) ready flushed.1
    ]

    module _ (joins : (u v w : T) → trace u v → trace v w → trace u w) where
      -- what was talked took whole pieces, answered each, and wrote just the answers
      pub Talked-exchanged : (exchanges : List Exchange) (more : Bool) (t : Server S D A T P)
          → Talked limit remaining tells trace g item_of Answers s exchanges more t
          → Exchanged remaining tells trace g item_of Answers s exchanges more t
      Talked-exchanged [] more t (same, is) = subst (λ t. Exchanged remaining tells trace g item_of Answers s [] more t) same
          (subst (λ b. Exchanged remaining tells trace g item_of Answers s [] b s) (sym is)
          (Exchanged-none remaining tells trace g item_of Answers none s))
      Talked-exchanged (x ∷ earlier) more t (m, talked, took) =
          Exchanged-joins remaining tells trace g item_of Answers joins s m t earlier (x ∷ []) more
          (Talked-exchanged earlier true m talked) (record {
            pieces = All-cons (IsWholeExchange g) x [] (subst (λ l. g.piece l x.payload ⊎ g.last l x.payload) took.all
                (elim took.fetched.steps.next.answers.1 [ inl is ↦ inl is.0 | inr is ↦ inr is.0 ])) (All-nil (IsWholeExchange g));
            taken = subst (λ l. PiecesWent remaining g.most m.pieces l t.pieces) took.all
                (StepRetried-went remaining g m.pieces t.pieces limit (Ok (Some x.payload)) took.fetched.steps);
            service = (m.service, (refl, refl), took.answers);
            along = WritesAlong-joins tells trace std_write_rules joins m.answers took.ready t.answers [] x.reply
                (first_along m.pieces m.answers t.pieces took.ready took.fetched.first)
                (WritesOnce-along tells trace took.ready t.answers none x.reply took.written);
          })

      still : (m t : Server S D A T P) → m ≡ t → PiecesWent remaining g.most m.pieces [] t.pieces × (t.service ≡ m.service)
          × WritesAlong tells trace std_write_rules m.answers [] t.answers
      still m t same = (
        subst (λ t. PiecesWent remaining g.most m.pieces [] t.pieces) same (PiecesWent-none remaining g.most m.pieces),
        ap (λ x. x.service) (sym same),
        subst (λ t. WritesAlong tells trace std_write_rules m.answers [] t.answers) same
            (WritesAlong-none tells trace std_write_rules none m.answers),
      )

      -- up to an end
      ends_so : (by : Served) (exchanges : List Exchange) (more : Bool) (m t : Server S D A T P)
          → EndedBy limit remaining tells trace g item_of Answers by exchanges more m t
          → PiecesWent remaining g.most m.pieces [] t.pieces × (t.service ≡ m.service)
          × WritesAlong tells trace std_write_rules m.answers [] t.answers
      ends_so served.Closed exchanges more m t (is, same) = still m t same
      ends_so served.End exchanges more m t (is, took) = (
        subst (λ l. PiecesWent remaining g.most m.pieces l t.pieces) took.fetched.steps.next.answers.0
            (StepRetried-went remaining g m.pieces t.pieces limit (Ok None) took.fetched.steps),
        took.service,
        first_along m.pieces m.answers t.pieces t.answers took.fetched.first,
      )
      ends_so served.Many exchanges more m t (is, many, same) = still m t same

      -- where the stream was asked for its end all was flushed before
      flushed_so : (by : Served) (exchanges : List Exchange) (more : Bool) (m t : Server S D A T P)
          → EndedBy limit remaining tells trace g item_of Answers by exchanges more m t
          → is_flushed by m.pieces.ended ≡ true
          → WasFlushed tells trace m.answers (Ok tt) t.answers
      flushed_so served.Closed exchanges more m t ends is = (let odd : false ≡ true = is in cc)
      flushed_so served.Many exchanges more m t ends is = (let odd : false ≡ true = is in cc)
      flushed_so served.End exchanges more m t (one, took) is = elim took.fetched.first [
        | inl same ↦ absurd (omega (
          arith,
          MetEnd-once m.pieces t.pieces (untold m.pieces.ended is) (StepRetried-met remaining g m.pieces t.pieces limit (Ok None)
              took.fetched.steps took.fetched.steps.next.answers.4),
          ap (λ l. l.reads.zero_reads) same.1,
        ))
        | inr flushed ↦ flushed.1
      ]

      -- up to an end, and then a flush, unless all was flushed
      module _ (by : Served) (t : Server S D A T P) (ends : ServingEnds limit remaining tells trace g item_of Answers s by t)
          (v : Buffered T P) where
        so : PiecesWent remaining g.most ends.last.pieces [] t.pieces × (t.service ≡ ends.last.service)
            × WritesAlong tells trace std_write_rules ends.last.answers [] t.answers
        so = ends_so by ends.exchanges ends.more ends.last t ends.ends

        talked : Exchanged remaining tells trace g item_of Answers s ends.exchanges ends.more ends.last
        talked = Talked-exchanged ends.exchanges ends.more ends.last ends.talked

        along : WritesAlong tells trace std_write_rules s.answers (joined_parts (λ x. x.reply) ends.exchanges) t.answers
        along = WritesAlong-then tells trace std_write_rules joins s.answers ends.last.answers t.answers
            (joined_parts (λ x. x.reply) ends.exchanges) talked.along so.2

        all_so : (flushed : Bool) → is_flushed by ends.last.pieces.ended ≡ flushed
            → FlushesLast tells trace flushed t.answers (Ok tt) v
            → FlushedAlong tells trace std_write_rules s.answers (joined_parts (λ x. x.reply) ends.exchanges) v
        all_so true is (ok, same) =
            let f = flushed_so by ends.exchanges ends.more ends.last t ends.ends is in
            subst (FlushedAlong tells trace std_write_rules s.answers (joined_parts (λ x. x.reply) ends.exchanges)) (sym same)
            (FlushedAlong-all tells trace std_write_rules joins s.answers t.answers (joined_parts (λ x. x.reply) ends.exchanges)
            along f.ok.empty f.ok.flushed)
        all_so false is flushed = FlushedAlong-of tells trace std_write_rules joins s.answers t.answers v
            (joined_parts (λ x. x.reply) ends.exchanges) tt along flushed

        pub ServingEnds-served : (flushed : Bool) → flushed ≡ is_flushed by ends.last.pieces.ended
            → FlushesLast tells trace flushed t.answers (Ok tt) v
            → Serves limit remaining tells trace g item_of Answers s by (server t.pieces t.service v)
        ServingEnds-served flushed is last = record {
          answers = t.answers;
          ends = ends;
          last = subst (λ b. FlushesLast tells trace b t.answers (Ok tt) v) is last;
          taken = subst (λ l. PiecesWent remaining g.most s.pieces l t.pieces) (append-nil _)
              (PiecesWent-joins remaining g.most s.pieces ends.last.pieces t.pieces
              (joined_parts (λ x. x.bytes) ends.exchanges) [] talked.taken so.0);
          service = subst (λ b. Converses item_of Answers s.service ends.exchanges ends.more b) (sym so.1) talked.service;
          all = all_so flushed (sym is) last;
        }

      module _ {F : Type 0} (Fails : A → I → List ℕ → F → A → Type 0) where
        -- a failure behind exchanges
        pub stops : (exchanges : List Exchange) (more : Bool) (m : Server S D A T P)
            → Talked limit remaining tells trace g item_of Answers s exchanges more m
            → (e : ServeError W F) (t : Server S D A T P)
            → FailedBy limit remaining tells trace g item_of Answers Fails e exchanges more m t
            → ServingFails limit remaining tells trace g item_of Answers Fails s e t
        stops exchanges more m talked e t fails = record {
          exchanges = exchanges;
          more = more;
          last = m;
          talked = talked;
          fails = fails;
          exchanged = Talked-exchanged exchanges more m talked;
        }

        -- up to an end, behind which the flush failed
        pub ServingEnds-failed : (by : Served) (t : Server S D A T P)
            (ends : ServingEnds limit remaining tells trace g item_of Answers s by t)
            (v : Buffered T P) (why : Error) → false ≡ is_flushed by ends.last.pieces.ended
            → WasFlushed tells trace t.answers (Err why) v
            → ServingFails limit remaining tells trace g item_of Answers Fails s (Flush by why) (server t.pieces t.service v)
        ServingEnds-failed by t ends v why is flushed =
            stops ends.exchanges ends.more ends.last ends.talked (Flush by why) (server t.pieces t.service v)
            (t, ends.ends, refl, refl, subst (λ b. FlushesLast tells trace b t.answers (Err why) v) is flushed)

-- where a read failed all that was taken was answered, and all answers were flushed
module _ {S D W I A F T P : Type 0} (limit : ℕ) (remaining : S → Option (List ℕ)) (tells : T → StreamLog)
    (trace : T → T → Type 0) (g : Grammar W) (item_of : List ℕ → I) (Answers : A → I → List ℕ → List ℕ → Bool → A → Type 0)
    (Fails : A → I → List ℕ → F → A → Type 0) (s : Server S D A T P) (e : Error) (t : Server S D A T P)
    (f : ServingFails limit remaining tells trace g item_of Answers Fails s (Read e) t) where
  pub ServingFails-read : ((u v w : T) → trace u v → trace v w → trace u w)
      → Exchanged remaining tells trace g item_of Answers s f.exchanges true t
      × FlushedAlong tells trace std_write_rules s.answers (joined_parts (λ x. x.reply) f.exchanges) t.answers
  ServingFails-read joins =
      let none = f.fails.1 in
      let steps = none.fetched.steps in
      let flushed : WasFlushed tells trace f.last.answers (Ok tt) t.answers = elim none.fetched.first [
        | inl same ↦ absurd (omega (
          arith,
          StepRetried-fault remaining g f.last.pieces t.pieces limit (Err (next.Io e)) steps e refl,
          ap (λ l. length l.reads.faults) same.1,
        ))
        | inr asked ↦ asked.1
      ] in
      let along : WritesAlong tells trace std_write_rules s.answers (joined_parts (λ x. x.reply) f.exchanges) t.answers =
      WritesAlong-then tells trace std_write_rules joins s.answers f.last.answers t.answers
      (joined_parts (λ x. x.reply) f.exchanges) f.exchanged.along
      (WasFlushed-along tells trace std_write_rules f.last.answers (Ok tt) t.answers flushed) in (
        record {
          pieces = f.exchanged.pieces;
          taken = subst (λ l. PiecesWent remaining g.most s.pieces l t.pieces)
              (ap (λ l. joined_parts (λ x. x.bytes) f.exchanges ++ l) steps.next.answers.0
              ∙ append-nil (joined_parts (λ x. x.bytes) f.exchanges))
              (PiecesWent-joins remaining g.most s.pieces f.last.pieces t.pieces (joined_parts (λ x. x.bytes) f.exchanges)
              steps.next.bytes f.exchanged.taken
              (StepRetried-went remaining g f.last.pieces t.pieces limit (Err (next.Io e)) steps));
          service = subst (λ b. Converses item_of Answers s.service f.exchanges b t.service) f.fails.0
              (subst (λ x. Converses item_of Answers s.service f.exchanges f.more x) (sym none.service) f.exchanged.service);
          along = along;
        },
        FlushedAlong-all tells trace std_write_rules joins s.answers t.answers (joined_parts (λ x. x.reply) f.exchanges) along
            flushed.ok.empty flushed.ok.flushed,
      )

  -- `Interrupted` comes behind as many faults as the limit
  ServingFails-often : IsInterrupt e
      → length s.pieces.reader.log.reads.faults + limit + 1 ≤ length t.pieces.reader.log.reads.faults
  ServingFails-often is = omega (
    arith,
    StepRetried-often remaining g f.last.pieces t.pieces limit (Err (next.Io e)) f.fails.1.fetched.steps e refl is,
    ap length f.exchanged.taken.grows.faults.equal,
    length-append s.pieces.reader.log.reads.faults f.exchanged.taken.grows.faults.more,
  )

-- reads fail no more often in serving than in its steps
module _ {S D W I A T P : Type 0} (remaining : S → Option (List ℕ)) (tells : T → StreamLog) (trace : T → T → Type 0)
    (g : Grammar W) (item_of : List ℕ → I) (Answers : A → I → List ℕ → List ℕ → Bool → A → Type 0) where
  abbrev FailFew : ℕ → Server S D A T P → Server S D A T P → Type 0
  FailFew failed s t = ReadsFailFew failed s.pieces.reader.log.reads t.pieces.reader.log.reads

  few_same : (s t : Server S D A T P) → t.pieces.reader.log ≡ s.pieces.reader.log → FailFew 0 s t
  few_same s t same = omega (
    arith,
    ap (λ l. length l.reads.faults) same,
    ap (λ l. length l.reads.given) same,
    ap (λ l. l.reads.zero_reads) same,
  )

  few_fetched : (s : Server S D A T P) (answer : NextAnswer W) (ready : Buffered T P) (t : Server S D A T P)
      → Fetched interrupt_limit remaining tells trace g item_of Answers s answer ready t.pieces
      → FailFew (failure_count answer) s t
  few_fetched s answer ready t fetched = StepRetried-few remaining g s.pieces t.pieces answer fetched.steps

  few_talked : (exchanges : List Exchange) (s : Server S D A T P) (more : Bool) (t : Server S D A T P)
      → Talked interrupt_limit remaining tells trace g item_of Answers s exchanges more t → FailFew 0 s t
  few_talked [] s more t (same, is) = few_same s t (ap (λ x. x.pieces.reader.log) (sym same))
  few_talked (x ∷ earlier) s more t (m, talked, took) =
      omega (arith, few_talked earlier s true m talked, few_fetched m (Ok (Some x.payload)) took.ready t took.fetched)

  few_ended : (by : Served) (exchanges : List Exchange) (more : Bool) (s t : Server S D A T P)
      → EndedBy interrupt_limit remaining tells trace g item_of Answers by exchanges more s t → FailFew 0 s t
  few_ended served.Closed exchanges more s t (is, same) = few_same s t (ap (λ x. x.pieces.reader.log) (sym same))
  few_ended served.End exchanges more s t (is, took) = few_fetched s (Ok None) t.answers t took.fetched
  few_ended served.Many exchanges more s t (is, many, same) = few_same s t (ap (λ x. x.pieces.reader.log) (sym same))

  few_served : (s : Server S D A T P) (by : Served) (t : Server S D A T P)
      → Serves interrupt_limit remaining tells trace g item_of Answers s by t → FailFew 0 s t
  few_served s by t all =
      let ends = all.ends in
      omega (
        arith,
        few_talked ends.exchanges s ends.more ends.last ends.talked,
        few_ended by ends.exchanges ends.more ends.last (server t.pieces t.service all.answers) ends.ends,
      )

  module _ {F : Type 0} (Fails : A → I → List ℕ → F → A → Type 0) where
    few_failed : (e : ServeError W F) (exchanges : List Exchange) (more : Bool) (s t : Server S D A T P)
        → FailedBy interrupt_limit remaining tells trace g item_of Answers Fails e exchanges more s t → FailFew 1 s t
    few_failed (Flush by e) exchanges more s t (m, ended, pieces, service, flushed) =
        omega (arith, few_ended by exchanges more s m ended, few_same m t (ap (λ x. x.reader.log) pieces))
    few_failed (Read e) exchanges more s t (is, none) = few_fetched s (Err (next.Io e)) t.answers t none.fetched
    few_failed (Wrong e) exchanges more s t (is, none) = few_fetched s (Err (next.Wrong e)) t.answers t none.fetched
    few_failed (Write e) exchanges more s t (is, failed) = elim failed [
      | inl flush ↦ omega (arith, few_same s t (ap (λ x. x.reader.log) flush.first.2.same))
      | inr answer ↦ omega (arith, few_fetched s (Ok (Some answer.0.payload)) answer.1.ready t answer.1.fetched)
    ]
    few_failed (Failed why) exchanges more s t (is, failed) =
        omega (arith, few_fetched s (Ok (Some failed.payload)) t.answers t failed.fetched)

    -- and `Interrupted` ends it only behind as many faults as the limit
    module _ (s t : Server S D A T P) where
      pub Serves-few : (served : Result Served (ServeError W F))
          → IfOk served (λ by. Serves interrupt_limit remaining tells trace g item_of Answers s by t)
          → IfErr served (λ e. ServingFails interrupt_limit remaining tells trace g item_of Answers Fails s e t)
          → FailFew (failure_count served) s t
      Serves-few (Ok by) serves fails = few_served s by t serves
      Serves-few (Err e) serves fails = omega (
        arith,
        few_talked fails.exchanges s fails.more fails.last fails.talked,
        few_failed e fails.exchanges fails.more fails.last t fails.fails,
      )

      pub Serves-often : (served : Result Served (ServeError W F))
          → IfErr served (λ e. ServingFails interrupt_limit remaining tells trace g item_of Answers Fails s e t)
          → (e : Error) → served ≡ Err (Read e) → IsInterrupt e
          → length s.pieces.reader.log.reads.faults + interrupt_limit + 1 ≤ length t.pieces.reader.log.reads.faults
      Serves-often served fails e is =
          let f : ServingFails interrupt_limit remaining tells trace g item_of Answers Fails s (Read e) t =
          subst (λ r. IfErr r (λ e. ServingFails interrupt_limit remaining tells trace g item_of Answers Fails s e t)) is fails in
          ServingFails-often interrupt_limit remaining tells trace g item_of Answers Fails s e t f
