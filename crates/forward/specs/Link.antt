-- What contracts see of a link, and what its asks come to.
use Rattle.std.specs.Prelude.{◌≡◌, ℕ, ◌+◌, ◌<◌, ◌≤◌, ◌⊎◌, List, [], ◌∷◌, ◌++◌, length, Bool, Result}
use Rattle.std.specs.List.{All, flat_map}
use Rattle.std.specs.declared.io.Error.{Error}
use Rattle.redux_buffer.specs.Faults.{IsInterrupt, interrupt_limit}
use Rattle.forward.specs.Filter.{AsksSent, FailedToRead, FilterAsks, FilterFlushes, FilterPasses, FilterRules}
use Rattle.forward.specs.Prompt.{WritesOn}
use Rattle.forward.specs.Streams.{FewFaults}
use Rattle.forward.specs.declared.error.AskError.{AskError}

-- a filter, and the states in which it was asked, with those that came of it, in turn
pub record Linked (T : Type 0) : Type 0 where
  pub filter : T
  pub states : List T

-- one call that asks: from this state to that
pub record Ask (T : Type 0) : Type 0 where
  pub before : T
  pub after : T

-- the states of asks, one after another
abbrev pub states_of : {T : Type 0} → List (Ask T) → List T
states_of asks = flat_map (λ ask. ask.before ∷ ask.after ∷ []) asks

module _ {T W : Type 0} (rules : FilterRules T W) where
  -- the stream that is read from wasn't asked
  pub record NotAsked (s t : T) : Type 0 where
    pub told : rules.read t ≡ rules.read s
    pub writes : WritesOn (rules.target s).log.writes (rules.target t).log.writes

  -- an ask of the filter's, which let the writer be
  pub record IsAsk (ask : Ask T) : Type 0 where
    pub asks : rules.asks ask.before ask.after
    pub told : rules.target ask.after ≡ rules.target ask.before

  -- these are all asks, in order
  abbrev pub AsksAlong : T → List (Ask T) → T → Type 0
  AsksAlong s [] t = NotAsked s t
  AsksAlong s (ask ∷ asks) t = NotAsked s ask.before × IsAsk ask × AsksAlong ask.after asks t

  -- this one was interrupted
  pub record IsInterrupted (ask : Ask T) : Type 0 where
    pub error : Error
    pub interrupt : IsInterrupt error
    pub failed : FailedToRead rules error ask.before ask.after

  -- nothing came in this one; or some bytes did
  abbrev pub IsIdle : Ask T → Type 0
  IsIdle ask = rules.wants ask.after ≡ rules.wants ask.before

  abbrev pub Gave : Ask T → Type 0
  Gave ask = rules.wants ask.after < rules.wants ask.before

  -- an ask, made again where it was interrupted, behind so many in a row that were. It ends by an interruption only behind as
  -- many in a row as the limit; and where bytes came in one that was interrupted, it is the first of a new row
  abbrev pub IsTurnBehind : ℕ → List (Ask T) → Type 0
  IsTurnBehind row [] = ⊥
  IsTurnBehind row (ask ∷ []) = IsInterrupted ask → IsIdle ask × (row ≡ interrupt_limit)
  IsTurnBehind row (ask ∷ next ∷ more) =
      IsInterrupted ask
      × ((IsIdle ask × (row < interrupt_limit) × IsTurnBehind (row + 1) (next ∷ more))
      ⊎ (Gave ask × IsTurnBehind 1 (next ∷ more)))

  abbrev pub IsTurn : List (Ask T) → Type 0
  IsTurn asks = IsTurnBehind 0 asks

  -- the last of these was interrupted
  abbrev pub EndsInterrupted : List (Ask T) → Type 0
  EndsInterrupted [] = ⊥
  EndsInterrupted (ask ∷ []) = IsInterrupted ask
  EndsInterrupted (ask ∷ next ∷ more) = EndsInterrupted (next ∷ more)

  -- no turn ended by an interruption
  abbrev pub NoneGaveUp : List (List (Ask T)) → Type 0
  NoneGaveUp turns = All (λ turn. ¬ (EndsInterrupted turn)) turns

  -- a turn that ended by one is the last
  abbrev pub GivesUpLast : List (List (Ask T)) → Type 0
  GivesUpLast [] = Unit {0}
  GivesUpLast (turn ∷ []) = Unit {0}
  GivesUpLast (turn ∷ next ∷ more) = ¬ (EndsInterrupted turn) × GivesUpLast (next ∷ more)

  -- asks go by turns, of which one that ended by an interruption is the last
  pub record AreTurns (asks : List (Ask T)) : Type 0 where
    pub turns : List (List (Ask T))
    pub each : All IsTurn turns
    pub equal : asks ≡ flat_map (λ turn. turn) turns
    pub last : GivesUpLast turns

  -- what calls do to a link: each ask that was made is noted, and is such a one; and the writer was flushed once for each turn of
  -- them at most, and so many times more, and sending failed so often
  pub record Goes (Such : Ask T → Type 0) (more : ℕ) (s t : Linked T) : Type 0 where
    pub asks : List (Ask T)
    pub noted : t.states ≡ s.states ++ states_of asks
    pub along : AsksAlong s.filter asks t.filter
    pub turns : AreTurns asks
    pub each : All Such asks
    pub flushes : (rules.target t.filter).log.writes.flushes
        ≤ (rules.target s.filter).log.writes.flushes + length turns.turns + more
    pub few : FewFaults more (rules.target s.filter).log.writes (rules.target t.filter).log.writes

  -- an ask in front of which all that was due was sent, since the first state
  abbrev pub IsPrompt : T → Ask T → Type 0
  IsPrompt first ask = AsksSent rules first ask.before ask.after

  -- a call of the filter's, and whether it is noted
  pub record LinkPasses (s : Linked T) (answer : Result Bool Error) (t : Linked T) : Type 0 where
    pub passes : FilterPasses rules s.filter answer t.filter
    pub noted : t.states ≡ s.states

  pub record LinkFlushes (s : Linked T) (answer : Result (Unit {0}) Error) (t : Linked T) : Type 0 where
    pub flushes : FilterFlushes rules s.filter answer t.filter
    pub noted : t.states ≡ s.states

  pub record LinkAsks (s : Linked T) (answer : Result Bool (AskError W)) (t : Linked T) : Type 0 where
    pub asks : FilterAsks rules s.filter answer t.filter
    pub noted : t.states ≡ s.states ++ (s.filter ∷ t.filter ∷ [])
