-- What asks come to in front of each of which all that was due was sent, and what their turns.
use Rattle.std.proofs.Common.{inl, inr, ◌≡◌, ◌⊎◌, ℕ, ◌+◌, ◌<◌, ◌≤◌, List, [], ◌∷◌, ◌++◌, length, refl, sym, ap, subst, ◌∙◌, arith, append-nil, length-append, All, flat_map, Result, Ok, Err}
use Rattle.std.proofs.lemmas.List.{nil_from_length}
use Rattle.std.proofs.lemmas.List.Elements.{All-head, All-tail}
use Rattle.redux_buffer.specs.StreamLog.{StreamLog}
use Rattle.forward.specs.Filter.{FilterRules, Moves}
use Rattle.forward.specs.Forward.{Forwarded, ForwardedFirst, Forwards, StopsBy, flushed_last}
use Rattle.forward.specs.Link.{Ask, AsksAlong, Goes, IsPrompt, IsTurn, Linked}
use Rattle.forward.specs.Prompt.{HoldsNothingBack, RunsPromptly}
use Rattle.forward.specs.PromptLaws.{HoldsNothingBack-on, WritesOn-none}
use Rattle.forward.specs.Streams.{FewFaults}
use Rattle.forward.specs.Target.{failure_count}
use Rattle.forward.specs.declared.error.Cause.{Cause}
use Rattle.forward.specs.declared.error.Cause.TheVariants.{Wrong, Read, Write, Count}
use Rattle.forward.specs.declared.error.Stopped.{Stopped}

module _ {T W : Type 0} (rules : FilterRules T W) (first : T) where
  -- of the logs of both streams alone, at that state
  abbrev Holds : T → Type 0
  Holds s = HoldsNothingBack (rules.due first) (rules.read first) (rules.read s) (rules.target first).log (rules.target s).log

  holds_along : (s t : T) (asks : List (Ask T)) → Holds s → AsksAlong rules s asks t → All (IsPrompt rules first) asks → Holds t
  holds_along s t [] held along each =
      HoldsNothingBack-on (rules.due first) (rules.read first) (rules.read s) (rules.read t) (rules.target first).log
      (rules.target s).log (rules.target t).log held along.told along.writes
  holds_along s t (ask ∷ asks) held along each =
      let before = HoldsNothingBack-on (rules.due first) (rules.read first) (rules.read s) (rules.read ask.before)
      (rules.target first).log (rules.target s).log (rules.target ask.before).log held along.0.told along.0.writes in
      let after : Holds ask.after = subst (λ w. HoldsNothingBack (rules.due first) (rules.read first) (rules.read ask.after)
      (rules.target first).log w.log) (sym along.1.told) (elim (All-head (IsPrompt rules first) ask asks each) [
        | inl same ↦ HoldsNothingBack-on (rules.due first) (rules.read first) (rules.read ask.before) (rules.read ask.after)
            (rules.target first).log (rules.target ask.before).log (rules.target ask.before).log before same
            (WritesOn-none (rules.target ask.before).log.writes)
        | inr sent ↦ inr sent
      ]) in
      holds_along ask.after t asks after along.2 (All-tail (IsPrompt rules first) ask asks each)

-- nothing was held back, as the logs of the two streams have it
pub Goes-holds : {T W : Type 0} (rules : FilterRules T W) {more : ℕ} (s t : Linked T)
    → Goes rules (IsPrompt rules s.filter) more s t
    → HoldsNothingBack (rules.due s.filter) (rules.read s.filter) (rules.read t.filter) (rules.target s.filter).log
    (rules.target t.filter).log
Goes-holds rules s t goes = holds_along rules s.filter s.filter t.filter goes.asks (inl refl) goes.along goes.each

module _ {T W : Type 0} (rules : FilterRules T W) where
  -- the stream is asked in each ask of the filter's
  abbrev pub AlwaysAsks : Type 0
  AlwaysAsks = (s t : T) → rules.asks s t → (rules.read s).reads.asks < (rules.read t).reads.asks

  asks_counted : AlwaysAsks → (s t : T) (asks : List (Ask T)) → AsksAlong rules s asks t
      → (rules.read s).reads.asks + length asks ≤ (rules.read t).reads.asks
  asks_counted always s t [] along = omega (arith, ap (λ l. l.reads.asks) along.told)
  asks_counted always s t (ask ∷ asks) along = omega (
    arith,
    ap (λ l. l.reads.asks) along.0.told,
    always ask.before ask.after along.1.asks,
    asks_counted always ask.after t asks along.2,
  )

  -- a turn has an ask at least
  some_asks : (turn : List (Ask T)) → IsTurn rules turn → 0 < length turn
  some_asks [] is = absurd is
  some_asks (ask ∷ more) is = omega arith

  turns_counted : (turns : List (List (Ask T))) → All (IsTurn rules) turns → length turns ≤ length (flat_map (λ turn. turn) turns)
  turns_counted [] each = omega arith
  turns_counted (turn ∷ turns) each = omega (
    arith,
    some_asks turn (All-head (IsTurn rules) turn turns each),
    turns_counted turns (All-tail (IsTurn rules) turn turns each),
    length-append turn (flat_map (λ turn. turn) turns),
  )

  -- a flush for each turn is one for each ask of the stream, where that is asked in each
  pub Goes-per_ask : {Such : Ask T → Type 0} {more : ℕ} (s t : Linked T) → Goes rules Such more s t → AlwaysAsks
      → (rules.target t.filter).log.writes.flushes + (rules.read s.filter).reads.asks
      ≤ (rules.target s.filter).log.writes.flushes + (rules.read t.filter).reads.asks + more
  Goes-per_ask s t goes always = omega (
    arith,
    goes.flushes,
    asks_counted always s.filter t.filter goes.asks goes.along,
    turns_counted goes.turns.turns goes.turns.each,
    ap length goes.turns.equal,
  )

  -- what each ask leaves of the stream's log, where it asks, is so in the end, where it was asked
  module _ (Leaves : StreamLog → Type 0)
      (each : (s t : T) → rules.asks s t → (rules.read t ≡ rules.read s) ⊎ Leaves (rules.read t)) where
    leaves_along : (s t : T) (asks : List (Ask T)) → AsksAlong rules s asks t
        → (rules.read t ≡ rules.read s) ⊎ Leaves (rules.read t)
    leaves_along s t [] along = inl along.told
    leaves_along s t (ask ∷ asks) along = elim (leaves_along ask.after t asks along.2) [
      | inl same ↦ elim (each ask.before ask.after along.1.asks) [
        | inl still ↦ inl (same ∙ still ∙ along.0.told)
        | inr such ↦ inr (subst Leaves (sym same) such)
      ]
      | inr such ↦ inr such
    ]

    pub Goes-leaves : {Such : Ask T → Type 0} {more : ℕ} (s t : Linked T) → Goes rules Such more s t
        → (rules.read t.filter ≡ rules.read s.filter) ⊎ Leaves (rules.read t.filter)
    Goes-leaves s t goes = leaves_along s.filter t.filter goes.asks goes.along

-- behind the last ask there is one flush at most
pub one_flush : {W : Type 0} (cause : Cause W) → flushed_last cause ≤ 1
one_flush (Wrong why) = omega arith
one_flush (Read e) = omega arith
one_flush (Write e) = omega arith
one_flush Count = omega arith

-- sending failed only where that stopped it
pub Forwards-few : {T W : Type 0} (rules : FilterRules T W) (s t : Linked T) (answer : Result ℕ (Stopped W))
    → Forwards rules s answer t
    → FewFaults (failure_count answer) (rules.target s.filter).log.writes (rules.target t.filter).log.writes
Forwards-few rules s t (Ok count) over = over.goes.few
Forwards-few rules s t (Err stopped) over = omega (arith, over.goes.few, one_flush stopped.cause)

-- what a run does
pub Forwards-runs : {T W : Type 0} (rules : FilterRules T W) (s t : Linked T) (answer : Result ℕ (Stopped W))
    → Forwards rules s answer t
    → RunsPromptly (rules.due s.filter) (failure_count answer) (rules.read s.filter) (rules.read t.filter)
    (rules.target s.filter).log (rules.target t.filter).log
Forwards-runs rules s t answer over = record {
  prompt = Goes-holds rules s t over.goes;
  once = over.once;
  reads = over.reads;
  few = Forwards-few rules s t answer over;
  flushes = over.flushes;
  per_ask = over.per_ask;
}

-- whatever came of it, payloads were moved
module _ {T W : Type 0} (rules : FilterRules T W) where
  pub stop_moves : (count : ℕ) (s t : T) (cause : Cause W) → StopsBy rules count s cause t
      → (handed : List (List ℕ)) × (taken : List (List ℕ)) × Moves rules s handed taken t × (length taken ≡ count)
  stop_moves count s t (Wrong why) stop = (stop.0.payloads, stop.0.payloads, stop.0.moves, stop.0.all)
  stop_moves count s t (Read e) stop = (stop.0.payloads, stop.0.payloads, stop.0.moves, stop.0.all)
  stop_moves count s t (Write e) stop = (stop.0.payloads ++ stop.0.lost, stop.0.payloads, stop.0.moves, stop.0.all)
  stop_moves count s t Count stop = (stop.0.payloads, stop.0.payloads, stop.0.moves, stop.0.all)

  pub Forwards-moves : (s t : Linked T) (answer : Result ℕ (Stopped W)) → Forwards rules s answer t
      → (handed : List (List ℕ)) × (taken : List (List ℕ)) × Moves rules s.filter handed taken t.filter
  Forwards-moves s t (Ok count) over = (over.answers.0.payloads, over.answers.0.payloads, over.answers.0.moves)
  Forwards-moves s t (Err stopped) over =
      let (handed, taken, moves, all) = stop_moves stopped.count s.filter t.filter stopped.cause over.answers in
      (handed, taken, moves)

  -- where none may be lost, all that were handed out went over
  pub ForwardedFirst-all : {count : ℕ} {s t : T} → rules.loses ≡ 0 → ForwardedFirst rules count s t → Forwarded rules count s t
  ForwardedFirst-all {s = s} {t} none first = record {
    payloads = first.payloads;
    moves = subst (λ l. Moves rules s l first.payloads t)
        (ap (λ l. first.payloads ++ l) (nil_from_length first.lost (omega (arith, first.few, none)))
        ∙ append-nil first.payloads) first.moves;
    all = first.all;
  }
