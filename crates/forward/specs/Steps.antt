-- The steps of `forward`: one turn of asks, and one payload.
use Rattle.std.specs.Prelude.{◌≡◌, ℕ, ◌+◌, ◌*◌, ◌<◌, ◌≤◌, ◌⊎◌, List, [], ◌++◌, length, Bool, true, false, Option, None, Some, Result, Ok, Err}
use Rattle.std.specs.Option.{option_map_or}
use Rattle.std.specs.Result.{result_err}
use Rattle.std.specs.List.{All}
use Rattle.std.specs.declared.io.Error.{Error}
use Rattle.redux_buffer.specs.Faults.{IsInterrupt, interrupt_limit, OnlyInterrupts}
use Rattle.forward.specs.Filter.{AsksOnce, FilterRules, Moves, StaysOpen, StaysSent}
use Rattle.forward.specs.Flushes.{FlushesAsk}
use Rattle.forward.specs.Forward.{Forwarded, NoneFailed, StopsBy, flushed_last}
use Rattle.forward.specs.Link.{Ask, AsksAlong, EndsInterrupted, Goes, IsTurn, Linked, NoneGaveUp, states_of}
use Rattle.forward.specs.Streams.{FewReadFaults, ReadGaveUp}
use Rattle.forward.specs.Target.{FlushesOnce, bytes_taken}
use Rattle.forward.specs.declared.error.AskError.{AskError}
use Rattle.forward.specs.declared.error.AskError.TheVariants.{Wrong, Io, IoBehind}
use Rattle.forward.specs.declared.error.Cause.{Cause}

-- an ask with this answer is made again, behind so many in a row that were interrupted, and so many are with it; or it isn't
abbrev pub RowGoes : {W : Type 0} → Result Bool (AskError W) → ℕ → Option ℕ → Type 0
RowGoes (Ok more) row next = next ≡ None
RowGoes (Err (Wrong why)) row next = next ≡ None
RowGoes (Err (Io e)) row None = IsInterrupt e → interrupt_limit ≤ row
RowGoes (Err (Io e)) row (Some next) = IsInterrupt e × (row < interrupt_limit) × (next ≡ row + 1)
RowGoes (Err (IoBehind e)) row None = ¬ IsInterrupt e
RowGoes (Err (IoBehind e)) row (Some next) = IsInterrupt e × (next ≡ 1)

module _ {T W : Type 0} (rules : FilterRules T W) where
  -- since this state nothing more went over before the ask, nothing was there to hand out, and all was sent
  pub record AskedFrom (s : T) (ask : Ask T) : Type 0 where
    pub moves : Moves rules s [] [] ask.before
    pub once : AsksOnce rules s ask.before
    pub still : StaysOpen rules s ask.before
    pub lacks : rules.lacks ask.before
    pub sent : rules.sent ask.before
    pub asks : rules.asks ask.before ask.after

  -- reads were at most interrupted
  abbrev pub ReadsOnlyInterrupted : T → T → Type 0
  ReadsOnlyInterrupted s t = OnlyInterrupts (rules.read s).reads.faults (rules.read t).reads.faults

  -- where reads failed so that they aren't tried again, none is there yet
  abbrev pub GivesUp : T → Error → T → Type 0
  GivesUp s e t = rules.waits t × ReadGaveUp e (rules.read s).reads.faults (rules.read t).reads.faults

  abbrev pub AskTurnAnswers : T → Result Bool (AskError W) → T → Type 0
  AskTurnAnswers s (Ok true) t = rules.has t × ReadsOnlyInterrupted s t × StaysOpen rules s t
  AskTurnAnswers s (Ok false) t = rules.ends s (Ok tt) t × ReadsOnlyInterrupted s t
  AskTurnAnswers s (Err (Wrong why)) t = rules.ends s (Err why) t × ReadsOnlyInterrupted s t
  AskTurnAnswers s (Err (Io e)) t = GivesUp s e t
  AskTurnAnswers s (Err (IoBehind e)) t = GivesUp s e t

  -- how many turns come to this answer that bring no payload
  abbrev pub without_payload : {E : Type 0} → Result Bool E → ℕ
  without_payload (Ok true) = 0
  without_payload (Ok false) = 1
  without_payload (Err cause) = 1

  abbrev pub ReadsFew : {E : Type 0} → Result Bool E → T → T → Type 0
  ReadsFew answer s t = FewReadFaults ((interrupt_limit + 1) * without_payload answer) (rules.read s).reads (rules.read t).reads

  abbrev pub FlushesPerAsk : {E : Type 0} → Result Bool E → T → T → Type 0
  FlushesPerAsk answer s t =
      FlushesAsk (without_payload answer) (rules.read s) (rules.read t) (rules.target s).log (rules.target t).log

  -- the fact holds where there was a payload
  abbrev pub OnTrue : {E : Type 0} → Result Bool E → Type 0 → Type 0
  OnTrue (Ok true) fact = fact
  OnTrue (Ok false) fact = Unit {0}
  OnTrue (Err cause) fact = Unit {0}

  -- what one turn of asks does
  pub record TakesTurn (s : Linked T) (answer : Result Bool (AskError W)) (t : Linked T) : Type 0 where
    pub asks : List (Ask T)
    pub noted : t.states ≡ s.states ++ states_of asks
    pub along : AsksAlong rules s.filter asks t.filter
    pub turn : IsTurn rules asks
    pub not_given_up : OnTrue answer (¬ (EndsInterrupted rules asks))
    pub each : All (AskedFrom s.filter) asks
    pub asked : (rules.read s.filter).reads.asks + 1 ≤ (rules.read t.filter).reads.asks + without_payload answer
    pub told : rules.target t.filter ≡ rules.target s.filter
    pub ready : rules.ready t.filter
    pub moves : Moves rules s.filter [] [] t.filter
    pub sent : rules.sent t.filter
    pub once : AsksOnce rules s.filter t.filter
    pub reads : ReadsFew answer s.filter t.filter
    pub answers : AskTurnAnswers s.filter answer t.filter

  -- what the next payload's answer says, behind so many that went over
  abbrev pub StepAnswers : ℕ → T → Result Bool (Cause W) → T → Type 0
  StepAnswers count s (Ok true) t = Forwarded rules (count + 1) s t × NoneFailed rules s t × StaysOpen rules s t
  StepAnswers count s (Ok false) t = Forwarded rules count s t × rules.ends s (Ok tt) t × rules.sent t × NoneFailed rules s t
  StepAnswers count s (Err cause) t = StopsBy rules count s cause t

  -- nothing was flushed, and where all had been sent it still is
  abbrev pub IsQuiet : T → T → Type 0
  IsQuiet s t = ((rules.target t).log.writes.flushes ≡ (rules.target s).log.writes.flushes) × StaysSent rules s t

  -- something was taken in; or a payload was dropped quietly, or so that all is sent
  abbrev pub GoesAhead : T → T → Type 0
  GoesAhead s t =
      (bytes_taken (rules.target s) < bytes_taken (rules.target t)) ⊎ (rules.drops × (IsQuiet s t ⊎ rules.sent t))

  -- how the streams were called up to this answer, by asks of this kind
  pub record CallsUpTo (Such : Ask T → Type 0) (s : Linked T) (answer : Result Bool (Cause W)) (t : Linked T) : Type 0 where
    pub goes : Goes rules Such (option_map_or flushed_last (result_err answer) 0) s t
    pub not_given_up : OnTrue answer (NoneGaveUp rules goes.turns.turns)
    pub once : AsksOnce rules s.filter t.filter
    pub reads : ReadsFew answer s.filter t.filter
    pub per_ask : FlushesPerAsk answer s.filter t.filter
    pub ready : rules.ready t.filter

  -- what is done for one payload
  pub record ForwardsNext (s : Linked T) (answer : Result Bool (Cause W)) (t : Linked T) : Type 0 where
    pub calls : CallsUpTo (AskedFrom s.filter) s answer t
    pub flushes : FlushesOnce (rules.target s.filter) (rules.target t.filter)
    pub quiet : rules.drops → rules.sent s.filter
        → (rules.target t.filter).log.writes.flushes ≡ (rules.target s.filter).log.writes.flushes
    pub more : OnTrue answer (GoesAhead s.filter t.filter)
    pub received : length (rules.target s.filter).log.writes.received ≤ length (rules.target t.filter).log.writes.received
    pub answers : StepAnswers 0 s.filter answer t.filter
