-- A filter: how payloads go from one stream to another, and what its calls promise.
use Rattle.std.specs.Prelude.{◌≡◌, ℕ, ◌+◌, ◌<◌, ◌≤◌, ◌⊎◌, List, [], ◌∷◌, ◌++◌, length, Bool, true, false, Result, Ok, Err, OnErr, OnOk}
use Rattle.std.specs.declared.io.Error.{Error}
use Rattle.redux_buffer.specs.LogGrows.{ReadLogGrows}
use Rattle.redux_buffer.specs.StreamLog.{StreamLog}
use Rattle.forward.specs.Prompt.{AsksGiveOrFail, SentBeforeAsking}
use Rattle.forward.specs.Streams.{came}
use Rattle.forward.specs.Target.{FlushWrites, PassWrites, TargetState, bytes_taken}
use Rattle.forward.specs.declared.error.AskError.{AskError}
use Rattle.forward.specs.declared.error.AskError.TheVariants.{Wrong, Io, IoBehind}

-- what a filter's states are
pub record FilterRules (T W : Type 0) : Type 1 where
  -- what the stream that is read from told, and the writer
  pub read : T → StreamLog
  pub target : T → TargetState
  -- what each call wants, and leaves
  pub ready : T → Type 0
  -- from one state to the other these payloads were handed out, and what becomes of these was taken in
  pub hands : T → List (List ℕ) → T → Type 0
  pub takes : T → List (List ℕ) → T → Type 0
  -- a payload is held that was asked for; or none is there, neither held nor buffered; or none is, and what is left may become
  -- one
  pub has : T → Type 0
  pub lacks : T → Type 0
  pub waits : T → Type 0
  -- all that was taken in was received and flushed
  pub sent : T → Type 0
  -- how much more room than a payload needs is asked for, and how many bytes more than it needs the buffer may grow by
  pub spare : ℕ
  pub rounds : T → ℕ
  -- how the writer is flushed, once at most
  pub flushes : T → Result (Unit {0}) Error → T → Type 0
  -- how the stream is asked: for bytes that come while what is there holds no payload
  pub asks : T → T → Type 0
  -- what is left, if a payload may come of it, was searched for one, and what was searched of it stays so
  pub looks : T → T → Type 0
  -- how many bytes may come at the most before a payload is there, or none is; 0 where that isn't known
  pub wants : T → ℕ
  -- how payloads end: at Ok there are no more, at Err what comes next is wrong
  pub ends : T → Result (Unit {0}) W → T → Type 0
  -- the stream's end was told, behind which it isn't asked
  pub closed : T → Type 0
  -- it may be forwarded from here: all that was taken in was sent, and no payload is held
  pub fresh : T → Type 0
  -- what is due of what is buffered and then these bytes, which are given next
  pub due : T → List ℕ → List ℕ → Type 0
  -- nothing may be taken in for a payload; why one was refused, beside the writer's fault; and how many that were handed out may
  -- be lost where one wasn't taken in
  pub drops : Type 0
  pub refused : Error → T → Type 0
  pub loses : ℕ

module _ {T W : Type 0} (rules : FilterRules T W) where
  -- these payloads were handed out, and those were taken in
  pub record Moves (s : T) (handed taken : List (List ℕ)) (t : T) : Type 0 where
    pub hands : rules.hands s handed t
    pub takes : rules.takes s taken t

  -- where all had been sent it still is
  abbrev pub StaysSent : T → T → Type 0
  StaysSent s t = rules.sent s → rules.sent t

  -- what an answer of `pass` says. Something was taken in, but for a payload that was dropped; where there was none the writer
  -- was let be, and what is left was searched. Where sending failed, or one was refused, no more are lost than may be
  abbrev pub PassAnswers : T → Result Bool Error → T → Type 0
  PassAnswers s (Ok true) t =
      (payload : List ℕ) × Moves s (payload ∷ []) (payload ∷ []) t
      × ((bytes_taken (rules.target s) < bytes_taken (rules.target t)) ⊎ (rules.drops × StaysSent s t))
  PassAnswers s (Ok false) t =
      Moves s [] [] t × rules.lacks t × (¬ rules.has s) × (rules.drops → StaysSent s t) × (rules.target t ≡ rules.target s)
      × rules.looks s t
  PassAnswers s (Err e) t = (lost : List (List ℕ)) × Moves s lost [] t × (length lost ≤ rules.loses)

  -- what `pass` does: the stream that is read from isn't asked
  pub record FilterPasses (s : T) (answer : Result Bool Error) (t : T) : Type 0 where
    pub told : rules.read t ≡ rules.read s
    pub ready : rules.ready t
    pub closed : rules.closed s → rules.closed t
    pub wrote : PassWrites rules.spare (rules.rounds s) (λ e. rules.refused e t) (rules.target s) answer (rules.target t)
    pub answers : PassAnswers s answer t

  -- what `flush` does: the stream that is read from isn't asked; and where payloads may be dropped, and all had been sent, no
  -- call is made
  pub record FilterFlushes (s : T) (answer : Result (Unit {0}) Error) (t : T) : Type 0 where
    pub told : rules.read t ≡ rules.read s
    pub ready : rules.ready t
    pub closed : rules.closed s → rules.closed t
    pub wrote : FlushWrites (rules.target s) answer (rules.target t)
    pub steps : rules.flushes s answer t
    pub quiet : rules.drops → rules.sent s
        → (rules.target t).log.writes.flushes ≡ (rules.target s).log.writes.flushes
    pub moves : Moves s [] [] t
    pub lacks : rules.lacks s → rules.lacks t
    pub sent : OnOk answer (rules.sent t)

  -- reads met no fault; or one failed with this error
  abbrev pub Read : T → T → Type 0
  Read s t = (rules.read t).reads.faults ≡ (rules.read s).reads.faults

  abbrev pub FailedToRead : Error → T → T → Type 0
  FailedToRead e s t = (rules.read t).reads.faults ≡ (rules.read s).reads.faults ++ e ∷ []

  -- the stream gave nothing once at most, behind its end never, and so it stays
  pub record AsksOnce (s t : T) : Type 0 where
    pub once : (rules.read t).reads.zero_reads ≤ (rules.read s).reads.zero_reads + 1
    pub quiet : rules.closed s → (rules.read t).reads.zero_reads ≡ (rules.read s).reads.zero_reads
    pub closed : rules.closed s → rules.closed t

  -- the stream never gave nothing: each ask gave a byte, or failed
  pub record NeverGaveNothing (s t : T) : Type 0 where
    pub zero_reads : (rules.read t).reads.zero_reads ≡ (rules.read s).reads.zero_reads
    pub give : AsksGiveOrFail (rules.read s) (rules.read t)

  -- the stream never gave nothing, or its end is known
  abbrev pub StaysOpen : T → T → Type 0
  StaysOpen s t = NeverGaveNothing s t ⊎ rules.closed t

  -- the stream was asked, and gave something, or its end
  pub record SomeCame (s t : T) : Type 0 where
    pub asks : (rules.read s).reads.asks < (rules.read t).reads.asks
    pub more : came (rules.read s).reads < came (rules.read t).reads

  abbrev pub AskAnswers : T → Result Bool (AskError W) → T → Type 0
  AskAnswers s (Ok true) t = rules.has t × Read s t × StaysOpen s t × SomeCame s t
  AskAnswers s (Ok false) t = rules.ends s (Ok tt) t × Read s t
  AskAnswers s (Err (Wrong why)) t = rules.ends s (Err why) t × Read s t
  AskAnswers s (Err (Io e)) t = rules.waits t × FailedToRead e s t × StaysOpen s t × (rules.wants t ≡ rules.wants s)
  AskAnswers s (Err (IoBehind e)) t =
      rules.waits t × FailedToRead e s t × StaysOpen s t × (rules.wants t < rules.wants s) × SomeCame s t

  -- what `ask` does: the writer is let be, nothing that the stream told is forgotten, and an `Err` leaves what was searched
  pub record FilterAsks (s : T) (answer : Result Bool (AskError W)) (t : T) : Type 0 where
    pub told : rules.target t ≡ rules.target s
    pub ready : rules.ready t
    pub moves : Moves s [] [] t
    pub sent : rules.sent s → rules.sent t
    pub asks : rules.asks s t
    pub once : AsksOnce s t
    pub grows : ReadLogGrows (rules.read s).reads (rules.read t).reads
    pub looks : OnErr answer (rules.looks s t)
    pub answers : AskAnswers s answer t

  -- since the first state, what was due of all that was given before the last ask was received and flushed; or it wasn't asked
  abbrev pub AsksSent : T → T → T → Type 0
  AsksSent first s t =
      (rules.read t ≡ rules.read s)
      ⊎ SentBeforeAsking (rules.due first) (rules.read first) (rules.read t) (rules.target first).log
      (rules.target s).log

  -- payloads go on in order, and an end that follows some is their end. It may be forwarded on where a payload may come. And
  -- where no payload is there, and all that was taken in was sent, so was what is due of each byte that comes before the last ask
  pub record IsLawful : Type 0 where
    pub hands_none : (s : T) → rules.hands s [] s
    pub hands_joins : (a b c : T) (p q : List (List ℕ)) → rules.hands a p b → rules.hands b q c → rules.hands a (p ++ q) c
    pub takes_none : (s : T) → rules.takes s [] s
    pub takes_joins : (a b c : T) (p q : List (List ℕ)) → rules.takes a p b → rules.takes b q c → rules.takes a (p ++ q) c
    pub ends_after : (a b c : T) (p : List (List ℕ)) (how : Result (Unit {0}) W) → rules.hands a p b → StaysOpen a b
        → rules.ends b how c → rules.ends a how c
    pub waits_lacks : (s : T) → rules.waits s → rules.lacks s
    pub waits_fresh : (s : T) → rules.waits s → rules.sent s → rules.fresh s
    pub taken_on : (s t : T) (p : List (List ℕ)) → rules.takes s p t
        → bytes_taken (rules.target s) ≤ bytes_taken (rules.target t)
    pub asks_sent : (first s t : T) (p : List (List ℕ)) → rules.fresh first → Moves first p p s → StaysOpen first s
        → rules.lacks s → rules.sent s → rules.asks s t → AsksSent first s t
