-- What is done for one payload, behind those that went over before.
use Rattle.std.proofs.Common.{inl, inr, length, ◌≡◌, ◌⊎◌, ℕ, ◌+◌, ◌≤◌, [], ◌∷◌, Bool, true, false, Result, Ok, Err, refl, sym, ap, subst, ◌∙◌, arith}
use Rattle.std.proofs.lemmas.List.Elements.{All-append, All-cons, All-nil}
use Rattle.std.specs.Option.{option_map_or}
use Rattle.std.specs.Result.{result_err}
use Rattle.std.specs.declared.io.Error.{Error}
use Rattle.redux_buffer.specs.Faults.{MetInterrupts, OnlyInterrupts, OnlyInterrupts-same}
use Rattle.forward.specs.Filter.{AsksOnce, FilterRules, IsLawful, Moves, StaysOpen}
use Rattle.forward.specs.Forward.{NoneFailed, flushed_last}
use Rattle.forward.specs.Link.{Ask, EndsInterrupted, Goes, LinkFlushes, LinkPasses, Linked, NoneGaveUp, NotAsked}
use Rattle.forward.specs.Steps.{AskedFrom, CallsUpTo, ForwardsNext, GivesUp, GoesAhead, IsQuiet, OnTrue, ReadsOnlyInterrupted, StepAnswers, TakesTurn, without_payload}
use Rattle.forward.specs.Streams.{ReadGaveUp}
use Rattle.forward.specs.StreamsLaws.{FewReadFaults-none, MetNoFault-joins, ReadFailed-after, WriteGaveUp-after, WriteGaveUp-so}
use Rattle.forward.specs.Target.{FlushesOnce, failure_count}
use Rattle.forward.specs.declared.error.AskError.{AskError}
use Rattle.forward.specs.declared.error.AskError.TheVariants as asked
use Rattle.forward.specs.declared.error.Cause.{Cause}
use Rattle.forward.specs.declared.error.Cause.TheVariants.{Wrong, Read, Write, Count}
use Rattle.forward.proofs.Between.{SoFar}
use Rattle.forward.proofs.Moving.{AsksOnce-joins, AsksOnce-none, first_joins, forwarded_joins, forwarded_on, Goes-joins, Goes-turn, Goes-unasked, Goes-weaker, Moves-on, none_first, none_forwarded, StaysOpen-joins, StaysOpen-none, longer}

module _ {T W : Type 0} (rules : FilterRules T W) where
  -- the writer was flushed once at most
  once_more : (s t : T) → FlushesOnce (rules.target s) (rules.target t)
      → (rules.target t).log.writes.flushes ≤ (rules.target s).log.writes.flushes + 1
  once_more s t (inl same) = omega (arith, same)
  once_more s t (inr one) = omega (arith, one.0)

  met_writes : (s t : T) → rules.read t ≡ rules.read s
      → MetInterrupts (rules.target s).log.writes (rules.target t).log.writes → NoneFailed rules s t
  met_writes s t told met = record {
    reader = OnlyInterrupts-same (rules.read s).reads.faults (rules.read t).reads.faults (ap (λ l. l.reads.faults) told);
    writer = met;
  }

  -- where there was a payload, this follows
  true_so : {P Q : Type 0} → (P → Q) → (answer : Result Bool (Cause W)) → OnTrue rules answer P → OnTrue rules answer Q
  true_so so (Ok true) is = so is
  true_so so (Ok false) is = tt
  true_so so (Err cause) is = tt

  module _ (lawful : IsLawful rules) where
    -- behind those that went over before comes the next
    module _ (Such : Ask T → Type 0) (count : ℕ) (first s t : Linked T) (before : SoFar rules Such count first s)
        (so : (ask : Ask T) → AskedFrom rules s.filter ask → Such ask) where
      met_on : NoneFailed rules s.filter t.filter → NoneFailed rules first.filter t.filter
      met_on = MetNoFault-joins before.met

      behind : (answer : Result Bool (Cause W)) → AsksOnce rules s.filter t.filter
          → StepAnswers rules 0 s.filter answer t.filter → StepAnswers rules count first.filter answer t.filter
      behind (Ok true) once next = (
        forwarded_joins rules lawful first.filter s.filter t.filter count 1 before.forwarded next.0,
        met_on next.1,
        StaysOpen-joins rules first.filter s.filter t.filter before.still once next.2,
      )
      behind (Ok false) once next = (
        forwarded_on rules lawful first.filter s.filter t.filter count before.forwarded next.0,
        lawful.ends_after first.filter s.filter t.filter before.forwarded.payloads (Ok tt) before.forwarded.moves.hands
            before.still next.1,
        next.2,
        met_on next.3,
      )
      behind (Err (Wrong why)) once next = (
        forwarded_on rules lawful first.filter s.filter t.filter count before.forwarded next.0,
        lawful.ends_after first.filter s.filter t.filter before.forwarded.payloads (Err why) before.forwarded.moves.hands
            before.still next.1,
        next.2,
        met_on next.3,
      )
      behind (Err (Read e)) once next = (
        forwarded_on rules lawful first.filter s.filter t.filter count before.forwarded next.0,
        next.1,
        next.2,
        next.3,
        ReadFailed-after before.met next.4,
      )
      behind (Err (Write e)) once next = (
        first_joins rules lawful first.filter s.filter t.filter count before.forwarded next.0,
        elim next.1 [
          | inl failed ↦ inl (WriteGaveUp-after before.met (WriteGaveUp-so (λ none. (
            none.0,
            none.1,
            none.2,
            StaysOpen-joins rules first.filter s.filter t.filter before.still once none.3,
          )) failed))
          | inr (met, refused) ↦ inr (met_on met, refused)
        ],
      )
      behind (Err Count) once next = absurd (omega (arith, next.1))

      module _ (answer : Result Bool (Cause W)) (next : ForwardsNext rules s answer t) where
        pub calls_on : CallsUpTo rules Such first answer t
        calls_on =
            let more = option_map_or flushed_last (result_err answer) 0 in
            record {
              goes = Goes-joins rules Such more first s t before.calls.goes before.calls.not_given_up
                  (Goes-weaker rules (AskedFrom rules s.filter) Such so more s t next.calls.goes);
              not_given_up = true_so (All-append (λ turn. ¬ (EndsInterrupted rules turn)) before.calls.goes.turns.turns
                  next.calls.goes.turns.turns before.calls.not_given_up) answer next.calls.not_given_up;
              once = AsksOnce-joins rules first.filter s.filter t.filter before.calls.once before.still next.calls.once;
              reads = omega (arith, before.calls.reads, next.calls.reads);
              per_ask = omega (arith, before.calls.per_ask, next.calls.per_ask);
              ready = next.calls.ready;
            }

        pub answers_on : StepAnswers rules count first.filter answer t.filter
        answers_on = behind answer next.calls.once next.answers

    asked_after : (a b : T) → Moves rules a [] [] b → AsksOnce rules a b → StaysOpen rules a b → (ask : Ask T)
        → AskedFrom rules b ask → AskedFrom rules a ask
    asked_after a b moves once still ask asked = record {
      moves = Moves-on rules lawful a b ask.before [] [] moves asked.moves;
      once = AsksOnce-joins rules a b ask.before once still asked.once;
      still = StaysOpen-joins rules a b ask.before still asked.once asked.still;
      lacks = asked.lacks;
      sent = asked.sent;
      asks = asked.asks;
    }

    -- behind what took no payload
    module _ (s m : Linked T) (before : SoFar rules (AskedFrom rules s.filter) 0 s m)
        (moves : Moves rules s.filter [] [] m.filter)
        (received : length (rules.target s.filter).log.writes.received ≤ length (rules.target m.filter).log.writes.received)
        (t : Linked T) (answer : Result Bool (Cause W)) (next : ForwardsNext rules m answer t) where
      ahead : (rules.drops → IsQuiet rules m.filter t.filter → IsQuiet rules s.filter t.filter ⊎ rules.sent t.filter)
          → GoesAhead rules m.filter t.filter → GoesAhead rules s.filter t.filter
      ahead dropped (inl more) = inl (omega (arith, lawful.taken_on s.filter m.filter [] moves.takes, more))
      ahead dropped (inr (drops, inl quiet)) = inr (drops, dropped drops quiet)
      ahead dropped (inr (drops, inr sent)) = inr (drops, inr sent)

      goes_next : FlushesOnce (rules.target s.filter) (rules.target t.filter)
          → (rules.drops → rules.sent s.filter
          → (rules.target t.filter).log.writes.flushes ≡ (rules.target s.filter).log.writes.flushes)
          → (rules.drops → IsQuiet rules m.filter t.filter → IsQuiet rules s.filter t.filter ⊎ rules.sent t.filter)
          → ForwardsNext rules s answer t
      goes_next flushes quiet dropped =
          let Such = AskedFrom rules s.filter in
          let so = asked_after s.filter m.filter moves before.calls.once before.still in
          record {
            calls = calls_on Such 0 s m t before so answer next;
            flushes = flushes;
            quiet = quiet;
            more = true_so (ahead dropped) answer next.more;
            received = omega (arith, received, next.received);
            answers = answers_on Such 0 s m t before so answer next;
          }

    -- a payload was there; or none was, and it was asked for; or sending failed
    module _ (s m : Linked T) where
      unread : rules.read m.filter ≡ rules.read s.filter → ReadsOnlyInterrupted rules s.filter m.filter
      unread told = OnlyInterrupts-same (rules.read s.filter).reads.faults (rules.read m.filter).reads.faults
          (ap (λ l. l.reads.faults) told)

      unasked : (Such : Ask T → Type 0) (answer : Result Bool Error) (next : Result Bool (Cause W))
          → failure_count answer ≤ option_map_or flushed_last (result_err next) 0 → OnTrue rules next (NoneGaveUp rules [])
          → LinkPasses rules s answer m → CallsUpTo rules Such s next m
      unasked Such answer next failed none p = record {
        goes = Goes-unasked rules Such (option_map_or flushed_last (result_err next) 0) s m
            (record { told = p.passes.told; writes = p.passes.wrote.writes }) p.noted (omega (arith, p.passes.wrote.flushes))
            (omega (arith, p.passes.wrote.few, failed));
        not_given_up = none;
        once = AsksOnce-none rules s.filter m.filter p.passes.told p.passes.closed;
        reads = omega (arith, FewReadFaults-none (rules.read s.filter) (rules.read m.filter) p.passes.told);
        per_ask = omega (arith, p.passes.wrote.flushes, ap (λ l. l.reads.asks) p.passes.told);
        ready = p.passes.ready;
      }

      pub passed : LinkPasses rules s (Ok true) m → ForwardsNext rules s (Ok true) m
      passed p = record {
        calls = unasked (AskedFrom rules s.filter) (Ok true) (Ok true) (omega arith)
            (All-nil (λ turn. ¬ (EndsInterrupted rules turn))) p;
        flushes = inl p.passes.wrote.flushes;
        quiet = λ drops sent. p.passes.wrote.flushes;
        more = elim p.passes.answers.2 [
          | inl more ↦ inl more
          | inr (drops, still) ↦ inr (drops, inl (p.passes.wrote.flushes, still))
        ];
        received = longer p.passes.wrote.writes;
        answers = (
          record { payloads = p.passes.answers.0 ∷ []; moves = p.passes.answers.1; all = refl },
          met_writes s.filter m.filter p.passes.told p.passes.wrote.ended,
          StaysOpen-none rules s.filter m.filter p.passes.told,
        );
      }

      pub not_passed : (e : Error) → LinkPasses rules s (Err e) m → ForwardsNext rules s (Err (Write e)) m
      not_passed e p = record {
        calls = unasked (AskedFrom rules s.filter) (Err e) (Err (Write e)) (omega arith) tt p;
        flushes = inl p.passes.wrote.flushes;
        quiet = λ drops sent. p.passes.wrote.flushes;
        more = tt;
        received = longer p.passes.wrote.writes;
        answers = (
          none_first rules lawful s.filter m.filter p.passes.answers.0 p.passes.answers.1 p.passes.answers.2,
          elim p.passes.wrote.ended [
            | inl failed ↦ inl (record {
              failed = record { reader = unread p.passes.told; writer = failed.0 };
              often = λ is. inl (failed.1 is);
            })
            | inr (met, refused) ↦ inr (met_writes s.filter m.filter p.passes.told met, refused)
          ],
        );
      }

      none_passed : (Such : Ask T → Type 0) → LinkPasses rules s (Ok false) m → SoFar rules Such 0 s m
      none_passed Such p = record {
        calls = unasked Such (Ok false) (Ok true) (omega arith) (All-nil (λ turn. ¬ (EndsInterrupted rules turn))) p;
        still = StaysOpen-none rules s.filter m.filter p.passes.told;
        forwarded = none_forwarded rules lawful s.filter m.filter p.passes.answers.0;
        met = met_writes s.filter m.filter p.passes.told p.passes.wrote.ended;
      }

      pub then_asked : LinkPasses rules s (Ok false) m → (answer : Result Bool (Cause W)) (t : Linked T)
          → ForwardsNext rules m answer t → ForwardsNext rules s answer t
      then_asked p answer t next =
          let moves = p.passes.answers.0 in
          let same = p.passes.wrote.flushes in
          goes_next s m (none_passed (AskedFrom rules s.filter) p) moves (longer p.passes.wrote.writes) t answer next
          (elim next.flushes [
            | inl none ↦ inl (none ∙ same)
            | inr one ↦ inr (omega (arith, one.0, same), omega (arith, one.1, lawful.taken_on s.filter m.filter [] moves.takes))
          ])
          (λ drops sent. next.quiet drops (p.passes.answers.3 drops sent) ∙ same)
          (λ drops quiet. inl (quiet.0 ∙ same, λ sent. quiet.1 (p.passes.answers.3 drops sent)))

      flush_unasked : (answer : Result (Unit {0}) Error) → LinkFlushes rules s answer m → NotAsked rules s.filter m.filter
      flush_unasked answer p = record { told = p.flushes.told; writes = p.flushes.wrote.writes }

      flush_once : (answer : Result (Unit {0}) Error) → LinkFlushes rules s answer m → AsksOnce rules s.filter m.filter
      flush_once answer p = AsksOnce-none rules s.filter m.filter p.flushes.told p.flushes.closed

      pub not_flushed : rules.lacks s.filter → (e : Error) → LinkFlushes rules s (Err e) m
          → ForwardsNext rules s (Err (Write e)) m
      not_flushed lacks e p = record {
        calls = record {
          goes = Goes-unasked rules (AskedFrom rules s.filter) 1 s m (flush_unasked (Err e) p) p.noted
              (once_more s.filter m.filter p.flushes.wrote.flushes) p.flushes.wrote.few;
          not_given_up = tt;
          once = flush_once (Err e) p;
          reads = omega (arith, FewReadFaults-none (rules.read s.filter) (rules.read m.filter) p.flushes.told);
          per_ask = omega (
            arith,
            once_more s.filter m.filter p.flushes.wrote.flushes,
            ap (λ l. l.reads.asks) p.flushes.told,
          );
          ready = p.flushes.ready;
        };
        flushes = p.flushes.wrote.flushes;
        quiet = p.flushes.quiet;
        more = tt;
        received = longer p.flushes.wrote.writes;
        answers = (
          none_first rules lawful s.filter m.filter [] p.flushes.moves (omega arith),
          inl (record {
            failed = record { reader = unread p.flushes.told; writer = p.flushes.wrote.ended.0 };
            often = λ is. elim (p.flushes.wrote.ended.1 is) [
              | inl many ↦ inl many
              | inr none ↦ inr (refl, none, p.flushes.lacks lacks, StaysOpen-none rules s.filter m.filter p.flushes.told)
            ];
          }),
        );
      }

    -- the writer was flushed, and a payload asked for in one turn
    module _ (s m t : Linked T) (p : LinkFlushes rules s (Ok tt) m) (answer : Result Bool (AskError W))
        (turn : TakesTurn rules m answer t) where
      moves : Moves rules s.filter [] [] t.filter
      moves = Moves-on rules lawful s.filter m.filter t.filter [] [] p.flushes.moves turn.moves

      abbrev goes : (more : ℕ) → Goes rules (AskedFrom rules s.filter) more s t
      goes more = Goes-weaker rules (AskedFrom rules m.filter) (AskedFrom rules s.filter)
          (asked_after s.filter m.filter p.flushes.moves (flush_once s m (Ok tt) p)
          (StaysOpen-none rules s.filter m.filter p.flushes.told)) more s t
          (Goes-turn rules (AskedFrom rules m.filter) more s m t (flush_unasked s m (Ok tt) p) p.noted
          (once_more s.filter m.filter p.flushes.wrote.flushes) p.flushes.wrote.few turn.told turn.asks turn.noted turn.along
          turn.turn turn.each)

      calls : (next : Result Bool (Cause W)) → without_payload rules next ≡ without_payload rules answer
          → OnTrue rules next (NoneGaveUp rules (turn.asks ∷ [])) → CallsUpTo rules (AskedFrom rules s.filter) s next t
      calls next same not_given_up = record {
        goes = goes (option_map_or flushed_last (result_err next) 0);
        not_given_up = not_given_up;
        once = AsksOnce-joins rules s.filter m.filter t.filter (flush_once s m (Ok tt) p)
            (StaysOpen-none rules s.filter m.filter p.flushes.told) turn.once;
        reads = omega (arith, FewReadFaults-none (rules.read s.filter) (rules.read m.filter) p.flushes.told, turn.reads, same);
        per_ask = omega (
          arith,
          once_more s.filter m.filter p.flushes.wrote.flushes,
          ap (λ w. w.log.writes.flushes) turn.told,
          ap (λ l. l.reads.asks) p.flushes.told,
          turn.asked,
          same,
        );
        ready = turn.ready;
      }

      wrote : MetInterrupts (rules.target s.filter).log.writes (rules.target t.filter).log.writes
      wrote = subst (λ w. MetInterrupts (rules.target s.filter).log.writes w.log.writes) (sym turn.told) p.flushes.wrote.ended

      met : ReadsOnlyInterrupted rules m.filter t.filter → NoneFailed rules s.filter t.filter
      met only = record {
        reader = subst (λ l. OnlyInterrupts l.reads.faults (rules.read t.filter).reads.faults) p.flushes.told only;
        writer = wrote;
      }

      flushes : FlushesOnce (rules.target s.filter) (rules.target t.filter)
      flushes = subst (FlushesOnce (rules.target s.filter)) (sym turn.told) p.flushes.wrote.flushes

      received : length (rules.target s.filter).log.writes.received ≤ length (rules.target t.filter).log.writes.received
      received = omega (arith, longer p.flushes.wrote.writes, ap (λ w. length w.log.writes.received) turn.told)

      quiet : rules.drops → rules.sent s.filter
          → (rules.target t.filter).log.writes.flushes ≡ (rules.target s.filter).log.writes.flushes
      quiet drops sent = ap (λ w. w.log.writes.flushes) turn.told ∙ p.flushes.quiet drops sent

      ended : (next : Result Bool (Cause W)) → without_payload rules next ≡ without_payload rules answer
          → OnTrue rules next (NoneGaveUp rules (turn.asks ∷ [])) → OnTrue rules next (GoesAhead rules s.filter t.filter)
          → StepAnswers rules 0 s.filter next t.filter → ForwardsNext rules s next t
      ended next same not_given_up more answers = record {
        calls = calls next same not_given_up;
        flushes = flushes;
        quiet = quiet;
        more = more;
        received = received;
        answers = answers;
      }

    module _ (s m t : Linked T) (p : LinkFlushes rules s (Ok tt) m) where
      pub no_more : TakesTurn rules m (Ok false) t → ForwardsNext rules s (Ok false) t
      no_more turn = ended s m t p (Ok false) turn (Ok false) refl tt tt (
        none_forwarded rules lawful s.filter t.filter (moves s m t p (Ok false) turn),
        lawful.ends_after s.filter m.filter t.filter [] (Ok tt) p.flushes.moves.hands
            (StaysOpen-none rules s.filter m.filter p.flushes.told) turn.answers.0,
        turn.sent,
        met s m t p (Ok false) turn turn.answers.1,
      )

      pub wrong_next : (why : W) → TakesTurn rules m (Err (asked.Wrong why)) t → ForwardsNext rules s (Err (Wrong why)) t
      wrong_next why turn = ended s m t p (Err (asked.Wrong why)) turn (Err (Wrong why)) refl tt tt (
        none_forwarded rules lawful s.filter t.filter (moves s m t p (Err (asked.Wrong why)) turn),
        lawful.ends_after s.filter m.filter t.filter [] (Err why) p.flushes.moves.hands
            (StaysOpen-none rules s.filter m.filter p.flushes.told) turn.answers.0,
        turn.sent,
        met s m t p (Err (asked.Wrong why)) turn turn.answers.1,
      )

      not_read : (why : AskError W) (e : Error) → TakesTurn rules m (Err why) t → GivesUp rules m.filter e t.filter
          → ForwardsNext rules s (Err (Read e)) t
      not_read why e turn up = ended s m t p (Err why) turn (Err (Read e)) refl tt tt (
        none_forwarded rules lawful s.filter t.filter (moves s m t p (Err why) turn),
        up.0,
        turn.sent,
        lawful.waits_fresh t.filter up.0 turn.sent,
        record {
          reader = subst (λ l. ReadGaveUp e l.reads.faults (rules.read t.filter).reads.faults) p.flushes.told up.1;
          writer = wrote s m t p (Err why) turn;
        },
      )

      pub none_read : (e : Error) → TakesTurn rules m (Err (asked.Io e)) t → ForwardsNext rules s (Err (Read e)) t
      none_read e turn = not_read (asked.Io e) e turn turn.answers

      pub some_read : (e : Error) → TakesTurn rules m (Err (asked.IoBehind e)) t → ForwardsNext rules s (Err (Read e)) t
      some_read e turn = not_read (asked.IoBehind e) e turn turn.answers

      -- a payload came, and is moved
      module _ (turn : TakesTurn rules m (Ok true) t) where
        came : SoFar rules (AskedFrom rules s.filter) 0 s t
        came = record {
          calls = calls s m t p (Ok true) turn (Ok true) refl
              (All-cons (λ turn. ¬ (EndsInterrupted rules turn)) turn.asks [] turn.not_given_up
              (All-nil (λ turn. ¬ (EndsInterrupted rules turn))));
          still = StaysOpen-joins rules s.filter m.filter t.filter (StaysOpen-none rules s.filter m.filter p.flushes.told)
              turn.once turn.answers.2;
          forwarded = none_forwarded rules lawful s.filter t.filter (moves s m t p (Ok true) turn);
          met = met s m t p (Ok true) turn turn.answers.1;
        }

        then_moved : (u : Linked T) (answer : Result Bool (Cause W)) → ForwardsNext rules t answer u
            → (rules.target u.filter).log.writes.flushes ≡ (rules.target t.filter).log.writes.flushes
            → ForwardsNext rules s answer u
        then_moved u answer next unflushed =
            goes_next s t came (moves s m t p (Ok true) turn) (received s m t p (Ok true) turn) u answer next
            (elim (flushes s m t p (Ok true) turn) [
              | inl same ↦ inl (unflushed ∙ same)
              | inr one ↦ inr (unflushed ∙ one.0, omega (arith, one.1, next.received))
            ])
            (λ drops sent. unflushed ∙ quiet s m t p (Ok true) turn drops sent) (λ drops still. inr (still.1 turn.sent))

        pub came_passed : (u : Linked T) (moved : Bool) → LinkPasses rules t (Ok moved) u → ForwardsNext rules s (Ok moved) u
        came_passed u true q = then_moved u (Ok true) (passed t u q) q.passes.wrote.flushes
        came_passed u false q = absurd (q.passes.answers.2 turn.answers.0)

        pub came_not_passed : (u : Linked T) (e : Error) → LinkPasses rules t (Err e) u
            → ForwardsNext rules s (Err (Write e)) u
        came_not_passed u e q = then_moved u (Err (Write e)) (not_passed t u e q) q.passes.wrote.flushes
