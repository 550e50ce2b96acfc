-- What the calls of a writer of pieces promise.
use Rattle.std.specs.Prelude.{◌≡◌, ℕ, ◌<◌, ◌≤◌, List, [], ◌∷◌, ◌++◌, length, Bool, true, false, Result, Ok, Err}
use Rattle.std.specs.List.{All}
use Rattle.std.specs.declared.io.Error.{Error}
use Rattle.buffer_redux.specs.Block.{Block}
use Rattle.buffer_redux.specs.BufWriter.{WritesInOrder}
use Rattle.buffer_redux.specs.Faults.{MetInterrupts, SendErrorCaused}
use Rattle.buffer_redux.specs.Transfer.{Sends}
use Rattle.buffer_redux.specs.WriteParts.{room}
use Rattle.codec.specs.declared.error.WritePieceError.{WritePieceError}
use Rattle.codec.specs.declared.error.WritePieceError.TheVariants.{Refused, Io}
use Rattle.codec.specs.Encoding.{Encoding, coded, all_coded}
use Rattle.codec.specs.PieceWriter.{WriterState, IsPieceWriter, unsent}

-- what any calls do, one after another, that took in the pieces of these payloads, each of which is taken: what was received
-- since, then what is buffered, is what was buffered, then these pieces, whole and in order; and no memory is taken
pub record PiecesTaken {S E W : Type 0} (trace : S → S → Type 0) (e : Encoding W) (s : WriterState S E)
    (payloads : List (List ℕ)) (t : WriterState S E) : Type 0 where
  pub fit : All e.takes payloads
  pub in_order : WritesInOrder s.writer (all_coded e payloads) t.writer
  pub calls : trace s.writer.inner t.writer.inner
  pub capacity : t.writer.block.capacity ≡ s.writer.block.capacity
  pub limit : t.writer.block.limit ≡ s.writer.block.limit
  pub encoder : t.encoder ≡ s.encoder

-- what a call of `write_piece` answers: `Refused` is why the payload isn't taken
abbrev pub WriteAnswer : Type 0 → Type 0
WriteAnswer W = Result (Unit {0}) (WritePieceError W)

-- the payloads that an answer took in: the one, or none
abbrev pub accepted : {X : Type 0} → List ℕ → Result (Unit {0}) X → List (List ℕ)
accepted payload (Ok _) = payload ∷ []
accepted payload (Err e) = []

-- what each answer means. No answer leaves a part of the piece
abbrev pub WriteAnswers : {S E W : Type 0} → Encoding W → WriterState S E → List ℕ → WriteAnswer W → WriterState S E → Type 0
WriteAnswers e s payload (Ok _) t = e.takes payload × MetInterrupts s.writer.log.writes t.writer.log.writes
WriteAnswers e s payload (Err (Refused w)) t = e.refuses payload w × (t ≡ s)
WriteAnswers e s payload (Err (Io x)) t = e.takes payload × SendErrorCaused s.writer.log.writes t.writer.log.writes x

-- all that was buffered was sent, once, with this answer; where that failed, nothing was done since
abbrev pub SendsAll : {S E : Type 0} → WriterState S E → Result (Unit {0}) Error → WriterState S E → Type 0
SendsAll s (Ok _) t =
    (sent : Block) × Sends (length (unsent s)) s.writer.block s.writer.log (Ok tt) sent t.writer.log
SendsAll s (Err x) t = Sends (length (unsent s)) s.writer.block s.writer.log (Err x) t.writer.block t.writer.log

-- all that was buffered is sent first, and then the piece is taken in
abbrev pub SendsThenTakes : {S E W : Type 0} → Encoding W → WriterState S E → List ℕ → WriteAnswer W → WriterState S E → Type 0
SendsThenTakes e s payload (Ok _) t =
    SendsAll s (Ok tt) t × (t.writer.log.writes.received ≡ s.writer.log.writes.received ++ unsent s)
    × (unsent t ≡ coded e payload)
SendsThenTakes e s payload (Err (Io x)) t = SendsAll s (Err x) t
SendsThenTakes e s payload (Err (Refused w)) t = ⊥

-- what one call of `write_piece` does. Where the piece fits behind what is buffered, it stands there, and the inner writer isn't
-- called; else all that is buffered is sent first. So the inner writer isn't flushed
pub record WritesPiece {S E W : Type 0} (trace : S → S → Type 0) (e : Encoding W) (s : WriterState S E) (payload : List ℕ)
    (answer : WriteAnswer W) (t : WriterState S E) : Type 0 where
  pub went : PiecesTaken trace e s (accepted payload answer) t
  pub answers : WriteAnswers e s payload answer t
  pub fits : e.takes payload → length (coded e payload) ≤ room s.writer
      → (answer ≡ Ok tt) × (t.writer.log ≡ s.writer.log) × (unsent t ≡ unsent s ++ coded e payload)
  pub full : e.takes payload → room s.writer < length (coded e payload) → SendsThenTakes e s payload answer t
  pub whole : IsPieceWriter e.most t

-- what one call of `write_buffered` does: where the piece fits behind what is buffered, what `write_piece` does, and else
-- nothing
abbrev pub WritesBuffered : {S E W : Type 0} → (S → S → Type 0) → Encoding W → WriterState S E → List ℕ → Result Bool W
    → WriterState S E → Type 0
WritesBuffered trace e s payload (Ok true) t =
    WritesPiece trace e s payload (Ok tt) t × (length (coded e payload) ≤ room s.writer)
WritesBuffered trace e s payload (Ok false) t =
    e.takes payload × (room s.writer < length (coded e payload)) × (t ≡ s)
WritesBuffered trace e s payload (Err w) t = WritesPiece trace e s payload (Err (Refused w)) t
