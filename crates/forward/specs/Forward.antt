-- What `forward` promises.
use Rattle.std.specs.Prelude.{◌≡◌, ℕ, ◌+◌, ◌^◌, ◌≤◌, ◌⊎◌, List, [], ◌++◌, length, Result, Ok, Err}
use Rattle.std.specs.Option.{option_map_or}
use Rattle.std.specs.Result.{result_err}
use Rattle.std.specs.declared.io.Error.{Error}
use Rattle.redux_buffer.specs.Faults.{interrupt_limit}
use Rattle.forward.specs.Filter.{FilterRules, Moves, StaysOpen}
use Rattle.forward.specs.Flushes.{FlushesAsk, FlushesSend}
use Rattle.forward.specs.Link.{Goes, IsPrompt, Linked}
use Rattle.forward.specs.Streams.{EndsOnce, FewReadFaults, MetNoFault, ReadFailed, WriteGaveUp}
use Rattle.forward.specs.declared.error.Cause.{Cause}
use Rattle.forward.specs.declared.error.Cause.TheVariants.{Wrong, Read, Write, Count}
use Rattle.forward.specs.declared.error.Stopped.{Stopped}

-- how many flushes may come that no ask follows, and how often sending may fail: once, where that stopped it
abbrev pub flushed_last : {W : Type 0} → Cause W → ℕ
flushed_last (Wrong why) = 0
flushed_last (Read e) = 0
flushed_last (Write e) = 1
flushed_last Count = 0

module _ {T W : Type 0} (rules : FilterRules T W) where
  -- neither stream failed
  abbrev pub NoneFailed : T → T → Type 0
  NoneFailed s t = MetNoFault (rules.read s) (rules.read t) (rules.target s).log (rules.target t).log

  -- this many payloads were handed out, and just they were taken in
  pub record Forwarded (count : ℕ) (s t : T) : Type 0 where
    pub payloads : List (List ℕ)
    pub moves : Moves rules s payloads payloads t
    pub all : length payloads ≡ count

  -- this many payloads were taken in, and behind them no more are lost than may be
  pub record ForwardedFirst (count : ℕ) (s t : T) : Type 0 where
    pub payloads : List (List ℕ)
    pub lost : List (List ℕ)
    pub moves : Moves rules s (payloads ++ lost) payloads t
    pub all : length payloads ≡ count
    pub few : length lost ≤ rules.loses

  -- sending gave up, by the writer's own flush only where no payload was lost, none is there either, and the stream's end
  -- wasn't just told; or a payload was refused, and neither stream failed
  abbrev pub NotWritten : List (List ℕ) → Error → T → T → Type 0
  NotWritten lost e s t =
      WriteGaveUp ((lost ≡ []) × ((rules.target t).held ≡ 0) × rules.lacks t × StaysOpen rules s t) e (rules.read s)
      (rules.read t) (rules.target s).log (rules.target t).log
      ⊎ (NoneFailed s t × rules.refused e t)

  -- what each cause says, behind which so many payloads went over. Where a read failed, it may be forwarded on
  abbrev pub StopsBy : ℕ → T → Cause W → T → Type 0
  StopsBy count s (Wrong why) t = Forwarded count s t × rules.ends s (Err why) t × rules.sent t × NoneFailed s t
  StopsBy count s (Read e) t =
      Forwarded count s t × rules.waits t × rules.sent t × rules.fresh t
      × ReadFailed e (rules.read s) (rules.read t) (rules.target s).log (rules.target t).log
  StopsBy count s (Write e) t = (first : ForwardedFirst count s t) × NotWritten first.lost e s t
  StopsBy count s Count t = Forwarded count s t × (2 ^ 64 ≤ count + 1) × NoneFailed s t

  -- what an answer says
  abbrev pub ForwardAnswers : T → Result ℕ (Stopped W) → T → Type 0
  ForwardAnswers s (Ok count) t = Forwarded count s t × rules.ends s (Ok tt) t × rules.sent t × NoneFailed s t
  ForwardAnswers s (Err stopped) t = StopsBy stopped.count s stopped.cause t

  -- what `forward` does: in front of each ask all that was due was sent, an interrupted one is made again, and the end is asked
  -- for once. The writer is flushed once for each turn of asks at most, and but for one no more often than the stream was asked,
  -- nor than it received bytes
  pub record Forwards (s : Linked T) (answer : Result ℕ (Stopped W)) (t : Linked T) : Type 0 where
    pub goes : Goes rules (IsPrompt rules s.filter) (option_map_or (λ stopped. flushed_last stopped.cause) (result_err answer) 0)
        s t
    pub once : EndsOnce (rules.read s.filter).reads (rules.read t.filter).reads
    pub reads : FewReadFaults (interrupt_limit + 1) (rules.read s.filter).reads (rules.read t.filter).reads
    pub per_ask : FlushesAsk 1 (rules.read s.filter) (rules.read t.filter) (rules.target s.filter).log (rules.target t.filter).log
    pub flushes : FlushesSend 1 (rules.target s.filter).log.writes (rules.target t.filter).log.writes
    pub ready : rules.ready t.filter
    pub answers : ForwardAnswers s.filter answer t.filter
