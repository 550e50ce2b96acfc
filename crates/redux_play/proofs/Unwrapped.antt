-- What follows where a writer was taken apart by a handler that leaves the inner writer, and leaves or clears the
-- buffer.
use Rattle.std.proofs.Common.{◌≡◌, [], length, Result, Ok, Err, sym, ap, ◌∙◌, arith, length-drop}
use Rattle.std.proofs.lemmas.List.{nil_from_length}
use Rattle.std.specs.Prelude.{MatchResult}
use Rattle.std.specs.Borrow.{MutBor}
use Rattle.std.specs.declared.io.Error.{Error}
use Rattle.redux_buffer.specs.Block.{Block, Clears}
use Rattle.redux_buffer.specs.Faults.{SendErrorCaused}
use Rattle.redux_buffer.specs.StreamLog.{StreamLog}
use Rattle.redux_buffer.specs.Transfer.{Sends}
use Rattle.buffer_redux.specs.Buffered.{Buffered, with_block, with_inner}
use Rattle.buffer_redux.specs.Unwrapping.{SendsOrHandles, KeepsUnsent, DropsUnsent}
use Rattle.buffer_redux.specs.WriterLaws.{WritesInOrder-sends}

-- a handler leaves the inner writer as it was, and the buffer in this relation to what it was
abbrev pub Leaves : {S : Type 0} → (MutBor S → MutBor Block → Error → MutBor S → MutBor Block → Type 0)
    → (Block → Block → Type 0) → Type 0
Leaves {S} handler Left =
    (w w' : MutBor S) (b b' : MutBor Block) (e : Error) → handler w b e w' b'
    → (w'.now ≡ w.now) × Left b.now b'.now

module _ {S P : Type 0} (tells : S → StreamLog) (trace : S → S → Type 0)
    (handler : MutBor S → MutBor Block → Error → MutBor S → MutBor Block → Type 0) (s : Buffered S P) where
  on_err : (sending : Result (Unit {0}) Error) (A B C : Type 0) (Y : Error → Type 0) → MatchResult sending (λ _. A × B) Y
      → ((e : Error) → Y e → A × C) → A × MatchResult sending (λ _. B) (λ _. C)
  on_err (Ok _) A B C Y same left = same
  on_err (Err e) A B C Y handled left = left e handled

  parts_left : (Left : Block → Block → Type 0) → Leaves handler Left → (inner : S) (b : Block)
      → (f : SendsOrHandles tells trace handler s inner b)
      → (inner ≡ f.sent.inner) × MatchResult f.sending (λ _. b ≡ f.sent.block) (λ _. Left f.sent.block b)
  parts_left Left leaves inner b f =
      on_err f.sending (inner ≡ f.sent.inner) (b ≡ f.sent.block) (Left f.sent.block b) _ f.ended (λ e h.
      let left = leaves h.lent_inner h.left_inner h.lent_buffer h.left_buffer e h.called in
      (sym h.leaves_inner ∙ left.0 ∙ h.shows_inner, rw (sym h.shows_buffer, sym h.leaves_buffer) left.1))

  same_left : (sending : Result (Unit {0}) Error) (b b' : Block)
      → MatchResult sending (λ _. b' ≡ b) (λ _. b' ≡ b) → b' ≡ b
  same_left (Ok _) b b' same = same
  same_left (Err _) b b' same = same

  why_left : (sending : Result (Unit {0}) Error) (b : Block) (log : StreamLog)
      → Sends (length s.block.bytes) s.block s.log sending b log
      → MatchResult sending (λ _. b.bytes ≡ []) (λ e. SendErrorCaused s.log.writes log.writes e)
  why_left (Ok _) b log f = nil_from_length b.bytes
      (omega (arith, ap length f.sent.dropped.bytes, length-drop f.count s.block.bytes, f.whole))
  why_left (Err e) b log f = record { interrupts = f.interrupts; cause = f.failed.cause }

  -- what sending left, before the handler was called
  sending_keeps : (inner : S) (b : Block) (f : SendsOrHandles tells trace handler s inner b)
      → KeepsUnsent tells trace s f.sent.inner f.sent.block
  sending_keeps inner b f =
      let left : Buffered S P = with_inner tells (with_block s f.sent.block) f.sent.inner in
      let sends : Sends (length s.block.bytes) s.block s.log f.sending left.block left.log =
      rw (sym f.went.told_after) f.sends in
      record {
        sending = f.sending;
        sends = sends;
        row = f.row;
        went = f.went.calls;
        in_order = WritesInOrder-sends s left (length s.block.bytes) f.sending sends;
        why = why_left f.sending left.block left.log sends;
      }

  pub keeps_unsent : Leaves handler (λ b b'. b' ≡ b)
      → (inner : S) (b : Block) → SendsOrHandles tells trace handler s inner b → KeepsUnsent tells trace s inner b
  keeps_unsent leaves inner b f =
      let left = parts_left (λ b b'. b' ≡ b) leaves inner b f in
      rw (left.0, same_left f.sending f.sent.block b left.1) (sending_keeps inner b f)

  pub drops_unsent : Leaves handler Clears
      → (inner : S) (b : Block) → SendsOrHandles tells trace handler s inner b → DropsUnsent tells trace s inner b
  unfolding sending_keeps
  drops_unsent leaves inner b f =
      let left = parts_left Clears leaves inner b f in
      rw (left.0) (record {
        unsent = f.sent.block;
        kept = sending_keeps inner b f;
        dropped = left.1;
      })
