-- What `forward` does for all payloads.
use Rattle.std.proofs.Common.{inl, inr, ◌≡◌, ℕ, ◌+◌, ◌^◌, ◌≤◌, Bool, true, false, Result, Ok, Err, refl, ◌∙◌, arith}
use Rattle.std.proofs.lemmas.List.Elements.{All-nil}
use Rattle.forward.specs.Filter.{FilterRules, IsLawful}
use Rattle.forward.specs.Flushes.{FlushesSend}
use Rattle.forward.specs.Forward.{Forwards}
use Rattle.forward.specs.Link.{Ask, EndsInterrupted, IsPrompt, Linked}
use Rattle.forward.specs.Steps.{AskedFrom, CallsUpTo, ForwardsNext, StepAnswers}
use Rattle.forward.specs.Target.{bytes_taken}
use Rattle.forward.specs.StreamsLaws.{MetNoFault-none}
use Rattle.forward.specs.declared.error.Cause.{Cause}
use Rattle.forward.specs.declared.error.Cause.TheVariants.{Count}
use Rattle.forward.proofs.Between.{Going, Paced}
use Rattle.forward.proofs.Forwarding.{answers_on, calls_on}
use Rattle.forward.proofs.Moving.{AsksOnce-none, Goes-none, Moves-none, Moves-on, none_forwarded, StaysOpen-joins, StaysOpen-none}

module _ {T W : Type 0} (rules : FilterRules T W) (lawful : IsLawful rules) where
  module _ (first : Linked T) (fresh : rules.fresh first.filter) where
    abbrev Prompt : Ask T → Type 0
    Prompt = IsPrompt rules first.filter

    pub going_none : rules.ready first.filter → Going rules 0 first first
    going_none ready = record {
      so_far = record {
        calls = record {
          goes = Goes-none rules Prompt first;
          not_given_up = All-nil (λ turn. ¬ (EndsInterrupted rules turn));
          once = AsksOnce-none rules first.filter first.filter refl (λ closed. closed);
          reads = omega arith;
          per_ask = omega arith;
          ready = ready;
        };
        still = StaysOpen-none rules first.filter first.filter refl;
        forwarded = none_forwarded rules lawful first.filter first.filter (Moves-none rules lawful first.filter);
        met = MetNoFault-none (rules.read first.filter) (rules.target first.filter).log;
      };
      paced = inl (omega arith);
      send = omega arith;
    }

    module _ (count : ℕ) (s t : Linked T) (before : Going rules count first s) where
      flushes_on : (answer : Result Bool (Cause W)) → ForwardsNext rules s answer t
          → FlushesSend 1 (rules.target first.filter).log.writes (rules.target t.filter).log.writes
      flushes_on answer next = elim before.paced [
        | inl take ↦ elim next.flushes [
          | inl same ↦ omega (arith, before.send, same, next.received)
          | inr one ↦ omega (arith, take, one.0, one.1)
        ]
        | inr sent ↦ omega (arith, before.send, next.quiet sent.0 sent.1, next.received)
      ]

      -- no less was taken in
      taken_on : ForwardsNext rules s (Ok true) t → bytes_taken (rules.target s.filter) ≤ bytes_taken (rules.target t.filter)
      taken_on next = lawful.taken_on s.filter t.filter next.answers.0.payloads next.answers.0.moves.takes

      paced_on : ForwardsNext rules s (Ok true) t → Paced rules first.filter t.filter
      paced_on next = elim next.more [
        | inl more ↦ elim before.paced [
          | inl take ↦ elim next.flushes [
            | inl same ↦ inl (omega (arith, take, same, more))
            | inr one ↦ inl (omega (arith, take, one.0, more))
          ]
          | inr sent ↦ inl (omega (arith, before.send, next.quiet sent.0 sent.1, more))
        ]
        | inr (drops, inl (same, still)) ↦ elim before.paced [
          | inl take ↦ inl (omega (arith, take, same, taken_on next))
          | inr sent ↦ inr (drops, still sent.1)
        ]
        | inr (drops, inr sent) ↦ inr (drops, sent)
      ]

      prompt_of : (ask : Ask T) → AskedFrom rules s.filter ask → Prompt ask
      prompt_of ask asked =
          let went = before.so_far.forwarded in
          lawful.asks_sent first.filter ask.before ask.after went.payloads fresh
          (Moves-on rules lawful first.filter s.filter ask.before went.payloads went.payloads went.moves asked.moves)
          (StaysOpen-joins rules first.filter s.filter ask.before before.so_far.still asked.once asked.still) asked.lacks
          asked.sent asked.asks

      module _ (answer : Result Bool (Cause W)) (next : ForwardsNext rules s answer t) where
        all_calls : CallsUpTo rules Prompt first answer t
        all_calls = calls_on rules lawful Prompt count first s t before.so_far prompt_of answer next

        all_answers : StepAnswers rules count first.filter answer t.filter
        all_answers = answers_on rules lawful Prompt count first s t before.so_far prompt_of answer next

      pub going_more : ForwardsNext rules s (Ok true) t → Going rules (count + 1) first t
      going_more next =
          let answers = all_answers (Ok true) next in
          record {
            so_far = record {
              calls = all_calls (Ok true) next;
              still = answers.2;
              forwarded = answers.0;
              met = answers.1;
            };
            paced = paced_on next;
            send = flushes_on (Ok true) next;
          }

      pub all_forwarded : ForwardsNext rules s (Ok false) t → Forwards rules first (Ok count) t
      all_forwarded next =
          let calls = all_calls (Ok false) next in
          record {
            goes = calls.goes;
            once = calls.once.once;
            reads = calls.reads;
            per_ask = calls.per_ask;
            flushes = flushes_on (Ok false) next;
            ready = calls.ready;
            answers = all_answers (Ok false) next;
          }

      pub stopped_by : (cause : Cause W) → ForwardsNext rules s (Err cause) t
          → Forwards rules first (Err (record { count = count; cause = cause })) t
      stopped_by cause next =
          let calls = all_calls (Err cause) next in
          record {
            goes = calls.goes;
            once = calls.once.once;
            reads = calls.reads;
            per_ask = calls.per_ask;
            flushes = flushes_on (Err cause) next;
            ready = calls.ready;
            answers = all_answers (Err cause) next;
          }

    pub counted_all : (count : ℕ) (s : Linked T) → Going rules count first s → (most : ℕ) → count ≡ most → 2 ^ 64 ≤ most + 1
        → Forwards rules first (Err (record { count = most; cause = Count })) s
    counted_all count s before most is large =
        let calls = before.so_far.calls in
        let forwarded = before.so_far.forwarded in
        record {
          goes = calls.goes;
          once = calls.once.once;
          reads = omega (arith, calls.reads);
          per_ask = omega (arith, calls.per_ask);
          flushes = before.send;
          ready = calls.ready;
          answers = (
            record { payloads = forwarded.payloads; moves = forwarded.moves; all = forwarded.all ∙ is },
            large,
            before.so_far.met,
          );
        }
