-- A turn of asks.
use Rattle.std.proofs.Common.{◌≡◌, ℕ, ◌+◌, ◌<◌, ◌≤◌, ◌⊎◌, inl, inr, List, [], ◌∷◌, ◌++◌, length, Bool, true, false, None, Some, Result, Ok, Err, refl, sym, ap, subst, ◌∙◌, arith, append-nil, append_assoc, length-append, All}
use Rattle.std.proofs.lemmas.List.{append_cancel_left}
use Rattle.std.proofs.lemmas.List.Elements.{All-nil, All-push}
use Rattle.std.specs.declared.io.Error.{Error}
use Rattle.redux_buffer.specs.Faults.{IsInterrupt, interrupt_limit, OnlyInterrupts, OnlyInterrupts-none}
use Rattle.forward.specs.Filter.{AsksOnce, FailedToRead, FilterRules, IsLawful, Moves, StaysOpen}
use Rattle.forward.specs.Link.{Ask, AsksAlong, EndsInterrupted, Gave, IsIdle, IsInterrupted, IsTurn, IsTurnBehind, LinkAsks, Linked, states_of}
use Rattle.forward.specs.Steps.{AskTurnAnswers, AskedFrom, OnTrue, ReadsFew, ReadsOnlyInterrupted, RowGoes, TakesTurn, without_payload}
use Rattle.forward.specs.Streams.{FewReadFaults}
use Rattle.forward.specs.StreamsLaws.{came_more, gave_up, one_more, only_more}
use Rattle.forward.specs.declared.error.AskError.{AskError}
use Rattle.forward.specs.declared.error.AskError.TheVariants.{Wrong, Io, IoBehind}
use Rattle.forward.proofs.Moving.{AsksAlong-joins, AsksOnce-joins, AsksOnce-none, Moves-none, Moves-on, NotAsked-none, StaysOpen-joins, StaysOpen-none, along_one, noted_on}

module _ {T W : Type 0} (rules : FilterRules T W) where
  -- as many asks as this count were interrupted
  pub record Retrying (count : ℕ) (s t : Linked T) : Type 0 where
    pub asks : List (Ask T)
    pub noted : t.states ≡ s.states ++ states_of asks
    pub along : AsksAlong rules s.filter asks t.filter
    pub turn : (more : List (Ask T)) → IsTurnBehind rules count more → IsTurn rules (asks ++ more)
    pub each : All (AskedFrom rules s.filter) asks
    pub asked : (rules.read s.filter).reads.asks ≤ (rules.read t.filter).reads.asks
    pub told : rules.target t.filter ≡ rules.target s.filter
    pub ready : rules.ready t.filter
    pub lacks : rules.lacks t.filter
    pub sent : rules.sent t.filter
    pub moves : Moves rules s.filter [] [] t.filter
    pub once : AsksOnce rules s.filter t.filter
    pub still : StaysOpen rules s.filter t.filter
    pub met : ReadsOnlyInterrupted rules s.filter t.filter
    pub often : length (rules.read s.filter).reads.faults + count ≤ length (rules.read t.filter).reads.faults
    pub few : FewReadFaults count (rules.read s.filter).reads (rules.read t.filter).reads

  module _ (lawful : IsLawful rules) (s : Linked T) where
    pub none_yet : rules.ready s.filter → rules.lacks s.filter → rules.sent s.filter → Retrying 0 s s
    none_yet ready lacks sent = record {
      asks = [];
      noted = sym (append-nil s.states);
      along = NotAsked-none rules s.filter;
      turn = λ more is. is;
      each = All-nil (AskedFrom rules s.filter);
      asked = omega arith;
      told = refl;
      ready = ready;
      lacks = lacks;
      sent = sent;
      moves = Moves-none rules lawful s.filter;
      once = AsksOnce-none rules s.filter s.filter refl (λ closed. closed);
      still = StaysOpen-none rules s.filter s.filter refl;
      met = OnlyInterrupts-none (rules.read s.filter).reads.faults;
      often = omega arith;
      few = omega arith;
    }

    module _ (count : ℕ) (t u : Linked T) (before : Retrying count s t) (answer : Result Bool (AskError W))
        (next : LinkAsks rules t answer u) where
      abbrev last : Ask T
      last = record { before = t.filter; after = u.filter }

      abbrev all : List (Ask T)
      all = before.asks ++ last ∷ []

      noted : u.states ≡ s.states ++ states_of all
      noted = noted_on rules s.states t.states u.states before.asks (last ∷ []) before.noted next.noted

      along : AsksAlong rules s.filter all u.filter
      along = AsksAlong-joins rules s.filter t.filter u.filter before.asks (last ∷ []) before.along
          (along_one rules t.filter u.filter (record { asks = next.asks.asks; told = next.asks.told }))

      from : AskedFrom rules s.filter last
      from = record {
        moves = before.moves;
        once = before.once;
        still = before.still;
        lacks = before.lacks;
        sent = before.sent;
        asks = next.asks.asks;
      }

      each : All (AskedFrom rules s.filter) all
      each = All-push (AskedFrom rules s.filter) before.asks last before.each from

      asked : (rules.read s.filter).reads.asks ≤ (rules.read u.filter).reads.asks
      asked = omega (arith, before.asked, next.asks.grows.asks)

      once : AsksOnce rules s.filter u.filter
      once = AsksOnce-joins rules s.filter t.filter u.filter before.once before.still next.asks.once

      still : StaysOpen rules t.filter u.filter → StaysOpen rules s.filter u.filter
      still open' = StaysOpen-joins rules s.filter t.filter u.filter before.still next.asks.once open'

      moves : Moves rules s.filter [] [] u.filter
      moves = Moves-on rules lawful s.filter t.filter u.filter [] [] before.moves next.asks.moves

      only : (rules.read u.filter).reads.faults ≡ (rules.read t.filter).reads.faults
          → ReadsOnlyInterrupted rules s.filter u.filter
      only same = subst (OnlyInterrupts (rules.read s.filter).reads.faults) (sym same) before.met

    -- an ask that was interrupted, in front of others
    again : (ask : Ask T) → IsInterrupted rules ask → (row : ℕ) → (more : List (Ask T))
        → (IsIdle rules ask × (row < interrupt_limit) × IsTurnBehind rules (row + 1) more)
        ⊎ (Gave rules ask × IsTurnBehind rules 1 more)
        → IsTurnBehind rules row (ask ∷ more)
    again ask is row [] (inl idle) = absurd idle.2
    again ask is row [] (inr gave) = absurd gave.1
    again ask is row (next ∷ more) goes = (is, goes)

    no_row : (row : ℕ) → Some row ≡ None → ⊥
    no_row row goes = cc

    -- one more ask was interrupted, behind a row of this count
    module _ (count : ℕ) (t u : Linked T) (before : Retrying count s t) where
      retry : (e : Error) (answer : Result Bool (AskError W)) (next : LinkAsks rules t answer u) → IsInterrupt e
          → rules.waits u.filter × FailedToRead rules e t.filter u.filter × StaysOpen rules t.filter u.filter → (with : ℕ)
          → with ≤ count + 1 → FewReadFaults with (rules.read s.filter).reads (rules.read u.filter).reads
          → ((more : List (Ask T)) → IsTurnBehind rules with more
          → IsTurnBehind rules count (record { before = t.filter; after = u.filter } ∷ more)) → Retrying with s u
      retry e answer next is failed with few reads turn =
          let old = (rules.read t.filter).reads.faults in
          let new = (rules.read u.filter).reads.faults in
          record {
            asks = all count t u before answer next;
            noted = noted count t u before answer next;
            along = along count t u before answer next;
            turn = λ more so. subst (IsTurn rules) (sym (append_assoc before.asks (last count t u before answer next ∷ []) more))
                (before.turn (last count t u before answer next ∷ more) (turn more so));
            each = each count t u before answer next;
            asked = asked count t u before answer next;
            told = next.asks.told ∙ before.told;
            ready = next.asks.ready;
            lacks = lawful.waits_lacks u.filter failed.0;
            sent = next.asks.sent before.sent;
            moves = moves count t u before answer next;
            once = once count t u before answer next;
            still = still count t u before answer next failed.2;
            met = only_more (rules.read s.filter).reads.faults old new e before.met failed.1 is;
            often = omega (arith, before.often, few, one_more old new e failed.1);
            few = reads;
          }

      pub one_retry : count ≤ interrupt_limit → (answer : Result Bool (AskError W)) → LinkAsks rules t answer u → (with : ℕ)
          → RowGoes answer count (Some with) → Retrying with s u
      one_retry few (Ok more) next with goes = absurd (no_row with goes)
      one_retry few (Err (Wrong why)) next with goes = absurd (no_row with goes)
      one_retry few (Err (Io e)) next with goes =
          let a = next.asks.answers in
          let is : IsInterrupted rules (record { before = t.filter; after = u.filter }) =
          record { error = e; interrupt = goes.0; failed = a.1 } in
          retry e (Err (Io e)) next goes.0 (a.0, a.1, a.2) with (omega (arith, goes.2))
          (omega (arith, before.few, goes.2, one_more _ _ e a.1, came_more _ _ next.asks.grows))
          (λ more so. again _ is count more (inl (a.3, goes.1, subst (λ n. IsTurnBehind rules n more) goes.2 so)))
      one_retry few (Err (IoBehind e)) next with goes =
          let a = next.asks.answers in
          let is : IsInterrupted rules (record { before = t.filter; after = u.filter }) =
          record { error = e; interrupt = goes.0; failed = a.1 } in
          retry e (Err (IoBehind e)) next goes.0 (a.0, a.1, a.2) with (omega (arith, goes.1))
          (omega (arith, before.few, few, goes.1, one_more _ _ e a.1, a.4.more))
          (λ more so. again _ is count more (inr (a.3, subst (λ n. IsTurnBehind rules n more) goes.1 so)))

      -- these are at most as many as the limit
      pub row_fits : count ≤ interrupt_limit → (answer : Result Bool (AskError W)) → (with : ℕ) → RowGoes answer count (Some with)
          → with ≤ interrupt_limit
      row_fits most (Ok more) with goes = absurd (no_row with goes)
      row_fits most (Err (Wrong why)) with goes = absurd (no_row with goes)
      row_fits most (Err (Io e)) with goes = omega (arith, goes.1, goes.2)
      row_fits most (Err (IoBehind e)) with goes = omega (arith, goes.1)

    -- asks that end by this one end interrupted where it is
    ends_last : (asks : List (Ask T)) (ask : Ask T) → EndsInterrupted rules (asks ++ ask ∷ []) → IsInterrupted rules ask
    ends_last [] ask is = is
    ends_last (one ∷ []) ask is = is
    ends_last (one ∷ next ∷ asks) ask is = ends_last (next ∷ asks) ask is

    -- a call that met no fault wasn't interrupted, and one that did met just that
    not_interrupted : (xs : List Error) (e : Error) → xs ≡ xs ++ e ∷ [] → ⊥
    not_interrupted xs e same = omega (arith, ap length same, length-append xs (e ∷ []))

    same_fault : (xs ys : List Error) (e d : Error) → ys ≡ xs ++ e ∷ [] → ys ≡ xs ++ d ∷ [] → e ≡ d
    same_fault xs ys e d one other =
        let same : e ∷ [] ≡ d ∷ [] = append_cancel_left xs (e ∷ []) (d ∷ []) (sym one ∙ other) in cc

    module _ (count : ℕ) (t u : Linked T) (before : Retrying count s t) (most : count ≤ interrupt_limit) where
      often : (answer : Result Bool (AskError W)) → LinkAsks rules t answer u → RowGoes answer count None
          → IsTurnBehind rules count (record { before = t.filter; after = u.filter } ∷ [])
      often (Ok true) next ends is = absurd (not_interrupted _ is.error (sym next.asks.answers.1 ∙ is.failed))
      often (Ok false) next ends is = absurd (not_interrupted _ is.error (sym next.asks.answers.1 ∙ is.failed))
      often (Err (Wrong why)) next ends is = absurd (not_interrupted _ is.error (sym next.asks.answers.1 ∙ is.failed))
      often (Err (Io e)) next ends is =
          let a = next.asks.answers in
          let large = ends (subst IsInterrupt (sym (same_fault _ _ e is.error a.1 is.failed)) is.interrupt) in
          (a.3, omega (arith, large, most))
      often (Err (IoBehind e)) next ends is =
          absurd (ends (subst IsInterrupt (sym (same_fault _ _ e is.error next.asks.answers.1 is.failed)) is.interrupt))

      failed : (e : Error) (answer : Result Bool (AskError W)) (next : LinkAsks rules t answer u)
          → (IsInterrupt e → count ≡ interrupt_limit)
          → rules.waits u.filter × FailedToRead rules e t.filter u.filter → AskTurnAnswers rules s.filter (Err (Io e)) u.filter
      failed e answer next few a =
          let first = (rules.read s.filter).reads.faults in
          let old = (rules.read t.filter).reads.faults in
          let new = (rules.read u.filter).reads.faults in (
            a.0,
            gave_up first old new e before.met a.1
                (λ is. omega (arith, few is, before.often, one_more old new e a.1)),
          )

      answers : (answer : Result Bool (AskError W)) → LinkAsks rules t answer u → RowGoes answer count None
          → AskTurnAnswers rules s.filter answer u.filter
      answers (Ok true) next ends =
          let a = next.asks.answers in
          (a.0, only count t u before (Ok true) next a.1, still count t u before (Ok true) next a.2)
      answers (Ok false) next ends =
          let a = next.asks.answers in (
            lawful.ends_after s.filter t.filter u.filter [] (Ok tt) before.moves.hands before.still a.0,
            only count t u before (Ok false) next a.1,
          )
      answers (Err (Wrong why)) next ends =
          let a = next.asks.answers in (
            lawful.ends_after s.filter t.filter u.filter [] (Err why) before.moves.hands before.still a.0,
            only count t u before (Err (Wrong why)) next a.1,
          )
      answers (Err (Io e)) next ends =
          let a = next.asks.answers in
          failed e (Err (Io e)) next (λ is. omega (arith, ends is, most)) (a.0, a.1)
      answers (Err (IoBehind e)) next ends =
          let a = next.asks.answers in
          failed e (Err (IoBehind e)) next (λ is. absurd (ends is)) (a.0, a.1)

      turn_asks : (answer : Result Bool (AskError W)) → LinkAsks rules t answer u
          → (rules.read s.filter).reads.asks + 1 ≤ (rules.read u.filter).reads.asks + without_payload rules answer
      turn_asks (Ok true) next = omega (arith, before.asked, next.asks.answers.3.asks)
      turn_asks (Ok false) next = omega (arith, before.asked, next.asks.grows.asks)
      turn_asks (Err e) next = omega (arith, before.asked, next.asks.grows.asks)

      not_given_up : (answer : Result Bool (AskError W)) (next : LinkAsks rules t answer u)
          → OnTrue rules answer (¬ (EndsInterrupted rules (all count t u before answer next)))
      not_given_up (Ok true) next = λ ends.
          let is = ends_last before.asks (last count t u before (Ok true) next) ends in
          not_interrupted _ is.error (sym next.asks.answers.1 ∙ is.failed)
      not_given_up (Ok false) next = tt
      not_given_up (Err e) next = tt

      reads : (answer : Result Bool (AskError W)) → LinkAsks rules t answer u → ReadsFew rules answer s.filter u.filter
      reads (Ok true) next =
          let a = next.asks.answers in
          omega (arith, before.few, most, ap length a.1, a.3.more)
      reads (Ok false) next =
          omega (arith, before.few, most, ap length next.asks.answers.1, came_more _ _ next.asks.grows)
      reads (Err (Wrong why)) next =
          omega (arith, before.few, most, ap length next.asks.answers.1, came_more _ _ next.asks.grows)
      reads (Err (Io e)) next =
          omega (arith, before.few, most, one_more _ _ e next.asks.answers.1, came_more _ _ next.asks.grows)
      reads (Err (IoBehind e)) next =
          omega (arith, before.few, most, one_more _ _ e next.asks.answers.1, came_more _ _ next.asks.grows)

      -- the last ask of a turn
      pub turn_ends : (answer : Result Bool (AskError W)) → LinkAsks rules t answer u → RowGoes answer count None
          → TakesTurn rules s answer u
      turn_ends answer next ends = record {
        asks = all count t u before answer next;
        noted = noted count t u before answer next;
        along = along count t u before answer next;
        turn = before.turn (last count t u before answer next ∷ []) (often answer next ends);
        not_given_up = not_given_up answer next;
        each = each count t u before answer next;
        asked = turn_asks answer next;
        told = next.asks.told ∙ before.told;
        ready = next.asks.ready;
        moves = moves count t u before answer next;
        sent = next.asks.sent before.sent;
        once = once count t u before answer next;
        reads = reads answer next;
        answers = answers answer next ends;
      }
