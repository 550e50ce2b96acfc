-- Turns, one after another: a message in each.
use Rattle.std.proofs.Common.{true, ℕ, List, [], ◌∷◌, ◌++◌, Option, None, Some, IfSome, Ok, sym, ap, subst, inl, inr, ◌∙◌, arith, append_assoc, length-append, OnOk, Result}
use Rattle.requests.proofs.Names.{All-append, AnswersEach, AnswersWhole, AwaitsBody, AwaitsHead, Before, Both, Buffered, CallsFor, Continues, Ending, Error, Inside, IsClosed, IsHeld, IsLastTurn, IsToBeRefused, MayFollow, Message, NoMoreAnswered, Over, ParsedHead, Place, Prompt, Refusal, Refuses, RunEndsBy, RunsToLast, sending_of, StdPolicy, stream_at, StreamLog, StreamWent, Unbuffered, Unread}
use Rattle.requests.specs.declared.Ending.TheVariants as stop
use Rattle.requests.proofs.Reading.{AsksFew-after, Closes-after, FailsInRead-still, joined}
use Rattle.requests.proofs.Sending.{Prompt-held, Prompt-on, SendsForRoom-held, WritesParts-held}

module _ {R W : Type 0} (remaining : R → Option (List ℕ)) (tells : W → StreamLog)
    (trace : W → W → Type 0) where
  -- where nothing went, the stream was asked for a head
  pub comes_on : (a c b : Both R W) (sending : Result (Unit {0}) Error) → StreamWent remaining a.0 [] c.0
      → Prompt tells trace AwaitsHead a (Ok tt) c
      → Prompt tells trace AwaitsHead c sending b
      → Prompt tells trace AwaitsHead a sending b
  comes_on a c b sending went =
      Prompt-on AwaitsHead AwaitsHead a c b sending went.order (λ front behind is. is)

  -- each did, and then each of more
  pub AnswersEach-joins : (ms ns : List Message) (a c b : Both R W) → AnswersEach remaining tells trace ms a c
      → AnswersEach remaining tells trace ns c b → AnswersEach remaining tells trace (ms ++ ns) a b
  AnswersEach-joins [] ns a c b same then = subst (λ x. AnswersEach remaining tells trace ns x b) (sym same) then
  AnswersEach-joins (m ∷ ms) ns a c b (d, one, later) more = (d, one, AnswersEach-joins ms ns d c b later more)

  -- what the writer has buffered is all that wasn't sent, still
  call_held : {head : List ℕ} {said : ParsedHead} {a b : Both R W} (sending : Result (Unit {0}) Error)
      → CallsFor remaining tells trace head said a sending b → IsHeld a.1 → OnOk sending (IsHeld b.1)
  call_held sending calls held = SendsForRoom-held sending calls.call (Prompt-held (Ok tt) calls.comes held)

  message_held : {m : Message} {a b : Both R W} (sending : Result (Unit {0}) Error)
      → AnswersWhole remaining tells trace m a sending b → IsHeld a.1 → OnOk sending (IsHeld b.1)
  message_held sending one held =
      WritesParts-held sending one.answers (Prompt-held (Ok tt) one.reads (call_held (Ok tt) one.calls held))

  pub AnswersEach-held : (ms : List Message) (a b : Both R W) → AnswersEach remaining tells trace ms a b → IsHeld a.1
      → IsHeld b.1
  AnswersEach-held [] a b same held = subst (λ x. IsHeld x.1) same held
  AnswersEach-held (m ∷ ms) a b (c, one, later) held = AnswersEach-held ms c b later (message_held (Ok tt) one held)

  refusal_held : (Open : List ℕ → List ℕ → Type 0) (refuses : Option Refusal) (a b : Both R W) (sending : Result (Unit {0}) Error)
      → Refuses remaining tells trace Open refuses a sending b → IsHeld a.1 → OnOk sending (IsHeld b.1)
  refusal_held Open None a b sending writes held = Prompt-held sending writes held
  refusal_held Open (Some why) a b sending (before, writes, parts) held =
      WritesParts-held sending parts (Prompt-held (Ok tt) writes held)

  turn_held : (last : List Message) (taken : List ℕ) (place : Place R) (refuses : Option Refusal) (a b : Both R W)
      (sending : Result (Unit {0}) Error) → IsLastTurn remaining tells trace last taken place refuses a sending b
      → IsHeld a.1 → OnOk sending (IsHeld b.1)
  turn_held [] taken (Before requests) refuses a b sending (went, part) held =
      refusal_held AwaitsHead refuses a b sending part held
  turn_held [] taken (Inside body) refuses a b sending (went, inl (none, calls)) held = call_held sending calls held
  turn_held [] taken (Inside body) refuses a b sending (went, inr (begun, calls, behind)) held =
      refusal_held (AwaitsBody body.head body.said) refuses begun b sending behind (call_held (Ok tt) calls held)
  turn_held (m ∷ []) taken place refuses a b sending turn held = message_held sending turn.0 held
  turn_held (m ∷ n ∷ later) taken place refuses a b sending turn held = absurd turn

  pub RunsToLast-held : {told : R → StreamLog} {s : Unbuffered R} {w w' : Buffered W StdPolicy} {place : Place R}
      (ending : Ending) → RunsToLast remaining tells trace told s w place ending w'
      → IsHeld w → OnOk (sending_of ending) (IsHeld w')
  RunsToLast-held {told} {s} {w} {w'} {place} ending runs held =
      let turns = runs.turns in
      turn_held turns.last runs.taken place runs.refuses turns.between (stream_at place, w') (sending_of ending) turns.turn
      (AnswersEach-held turns.front (s, w) turns.between turns.each held)

  module _ {s m : Unbuffered R} {w v : Buffered W StdPolicy} (a : Continues remaining tells trace s w m v) where
    pub RunsToLast-after : {told : R → StreamLog} {place : Place R} {w' : Buffered W StdPolicy} (ending : Ending)
        → RunsToLast remaining tells trace told m v place ending w' → RunsToLast remaining tells trace told s w place ending w'
    RunsToLast-after {told} {place} {w'} ending b = record {
      messages = a.messages ++ b.messages;
      taken = b.taken;
      handed = b.handed;
      part = b.part;
      refuses = b.refuses;
      turns = record {
        front = a.messages ++ b.turns.front;
        last = b.turns.last;
        all = ap (λ l. a.messages ++ l) b.turns.all ∙ sym (append_assoc a.messages b.turns.front b.turns.last);
        between = b.turns.between;
        each = AnswersEach-joins a.messages b.turns.front (s, w) (m, v) b.turns.between a.each b.turns.each;
        turn = b.turns.turn;
      };
      asks = AsksFew-after a.reads b.asks (omega arith);
      wrong = subst (λ n. IfSome b.refuses (IsToBeRefused n place)) a.reads.ends b.wrong;
      ends = ends ending b.ends;
    }
      where
        ends : (ending : Ending) → RunEndsBy remaining tells trace told m b.messages b.taken b.refuses place ending
            → RunEndsBy remaining tells trace told s (a.messages ++ b.messages) b.taken b.refuses place ending
        ends Over (met, is) = (
          joined a.reads (stream_at place) met,
          elim (subst (λ n. NoMoreAnswered b.messages b.taken b.refuses n place) a.reads.ends is) [
            | inl closed ↦ inl (Closes-after a.messages b.messages a.keep closed.0, closed.1, closed.2, closed.3)
            | inr more ↦ inr (All-append (MayFollow true) a.messages b.messages a.keep more.0, more.1)
          ],
        )
        ends stop.Many (met, keep, not, many) = (
          joined a.reads (stream_at place) met,
          All-append (MayFollow true) a.messages b.messages a.keep keep,
          not,
          omega (arith, many, length-append a.messages b.messages),
        )
        ends (Unread e) (fails, keep, not) = (
          FailsInRead-still a.reads e (stream_at place) fails,
          All-append (MayFollow true) a.messages b.messages a.keep keep,
          not,
        )
        ends (stop.Unsent e) (met, follow) = (
          joined a.reads (stream_at place) met,
          elim follow [
            | inl keep ↦ inl (All-append (MayFollow true) a.messages b.messages a.keep keep)
            | inr closed ↦
                (let still = subst (λ n. IsClosed b.messages b.taken b.refuses n place) a.reads.ends closed in
                inr (Closes-after a.messages b.messages a.keep still.0, still.1, still.2, still.3))
          ],
        )
