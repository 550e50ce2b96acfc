-- What a buffered writer took in, whether or not it was received.
use Rattle.std.proofs.Common.{◌≡◌, ℕ, ◌+◌, ◌<◌, ◌≤◌, List, [], ◌++◌, length, length-append, sym, ap, subst, ◌∙◌, arith, append-nil, Result, Err, MatchResult, IfErr, IsOk}
use Rattle.std.specs.declared.io.Error.{Error}
use Rattle.buffer_redux.specs.Block.{Block}
use Rattle.buffer_redux.specs.BufWriter.{WritesInOrder}
use Rattle.buffer_redux.specs.Buffered.{Buffered}
use Rattle.buffer_redux.specs.GoesOn.{GoesOn, GoesOn-none}
use Rattle.buffer_redux.specs.Transfer.{Sends}
use Rattle.buffer_redux.specs.WriterLaws.{WritesInOrder-fresh}
use Rattle.forward.specs.Prompt.{WasDelivered}
use Rattle.forward.specs.Target.{TargetState, bytes_taken}
use Rattle.programs.specs.Streams.{AllSent}

-- what a filter sees of it
abbrev pub target_of : {W P : Type 0} → Buffered W P → TargetState
target_of u = record { log = u.log; held = length u.block.bytes; capacity = u.block.capacity }

-- what was buffered was sent, once. Where that failed its error is the answer, and nothing else was done; else an error is such
pub record SendsOnce {W P : Type 0} (Refused : Error → Type 0) (u : Buffered W P) (answer : Result (Unit {0}) Error)
    (v : Buffered W P) : Type 0 where
  pub sending : Result (Unit {0}) Error
  pub left : Block
  pub sends : Sends (length u.block.bytes) u.block u.log sending left v.log
  pub ended : MatchResult sending (λ _. IfErr answer Refused) (λ e. (answer ≡ Err e) × (v.block ≡ left))

-- all of these bytes were taken in, or none. Where so many fit behind what is buffered the inner writer isn't called, and else
-- what was buffered is sent first, once; nothing is flushed
pub record TakesAll {W P : Type 0} (need : ℕ) (Refused : Error → Type 0) (u : Buffered W P) (bytes : List ℕ)
    (answer : Result (Unit {0}) Error) (v : Buffered W P) : Type 0 where
  pub taken : MatchResult answer (λ _. WritesInOrder u bytes v) (λ _. WritesInOrder u [] v)
  pub fits : length u.block.bytes + need ≤ u.block.capacity → IsOk answer × (v.log ≡ u.log)
  pub sends : u.block.capacity < length u.block.bytes + need → SendsOnce Refused u answer v

module _ {W P : Type 0} (u v : Buffered W P) (accepted : List ℕ) (taken : WritesInOrder u accepted v) where
  -- from an empty buffer on, all that was taken in was received once all was sent
  module _ (none : u.block.bytes ≡ []) (sent : AllSent v) where
    pub received_all : v.log.writes.received ≡ u.log.writes.received ++ accepted
    received_all =
        sym (append-nil v.log.writes.received) ∙ ap (λ l. v.log.writes.received ++ l) (sym sent.empty)
        ∙ WritesInOrder-fresh u v accepted none taken

    pub sent_all : WasDelivered (u.log.writes.received ++ accepted) v.log.writes
    sent_all = subst (λ l. WasDelivered l v.log.writes) received_all (record {
      received = GoesOn-none v.log.writes.received;
      flushed = subst (λ l. GoesOn l v.log.writes.flushed) sent.flushed (GoesOn-none v.log.writes.flushed);
    })

  -- what was taken in has as many bytes more as were accepted
  pub taken_more : bytes_taken (target_of u) + length accepted ≡ bytes_taken (target_of v)
  taken_more = omega (
    arith,
    ap length taken.received,
    ap length taken.equal,
    length-append u.log.writes.received taken.sent,
    length-append taken.sent v.block.bytes,
    length-append u.block.bytes accepted,
  )
