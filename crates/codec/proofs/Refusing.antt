-- Why payloads don't go into memory.
use Rattle.std.proofs.Common.{◌≡◌, ℕ, List, ◌∷◌, ◌++◌, Err, sym, subst, inl}
use Rattle.buffer_redux.specs.Faults.{IsMemory, SendErrorCaused}
use Rattle.buffer_redux.specs.Memory.{send-memory, writer_log}
use Rattle.buffer_redux.specs.declared.tell.MemoryWriter.{MemoryWriter}
use Rattle.codec.specs.declared.error.WritePieceError.{WritePieceError}
use Rattle.codec.specs.declared.laws.runs.WriteEachError.{WriteEachError}
use Rattle.codec.specs.declared.error.WritePieceError.TheVariants.{Refused, Io}
use Rattle.codec.specs.Encoding.{Encoding}
use Rattle.piece_reader.specs.KnownPieces.{BufferRefused}
use Rattle.codec.specs.PieceWriter.{WriterState}
use Rattle.codec.specs.WritePiece.{WriteAnswer, WritesPiece}
use Rattle.codec.specs.WriteRuns.{CallsEach, IfFault, IfRefused, RefusesOne, WritePlays}

refused : {E W : Type 0} (trace : MemoryWriter → MemoryWriter → Type 0) (e : Encoding W) (m t : WriterState MemoryWriter E)
    (w : MemoryWriter) → writer_log w ≡ t.writer.log → (payload : List ℕ) (why : WritePieceError W)
    → WritesPiece trace e m payload (Err why) t → IfFault IsMemory why
refused trace e m t w told payload (Refused x) failed = tt
refused trace e m t w told payload (Io fault) failed = send-memory w m.writer.log.writes fault
    (subst (λ l. SendErrorCaused m.writer.log.writes l.writes fault) (sym told) failed.answers.1)

-- what a writer of pieces over memory, whose log is this, failed by
pub write_refused : {E W : Type 0} (trace : MemoryWriter → MemoryWriter → Type 0) (encoding : E → Encoding W)
    (Plays : WriterState MemoryWriter E → List (List ℕ) → List (WriteAnswer W) → WriterState MemoryWriter E → Type 0)
    (s t : WriterState MemoryWriter E) (w : MemoryWriter) → writer_log w ≡ t.writer.log → (payloads : List (List ℕ))
    (why : WriteEachError (WritePieceError W))
    → CallsEach (λ m. WritesPiece trace (encoding m.encoder) m) Plays s payloads (Err why) t → IfFault IsMemory why.error
write_refused trace encoding Plays s t w told payloads why each =
    refused trace (encoding each.before.encoder) each.before t w told each.payload why.error each.failed

reason : {E W : Type 0} (trace : MemoryWriter → MemoryWriter → Type 0) (e : Encoding W) (m t : WriterState MemoryWriter E)
    (before : List (List ℕ)) (payload : List ℕ) (later payloads : List (List ℕ)) → payloads ≡ before ++ payload ∷ later
    → (why : WritePieceError W) → WritesPiece trace e m payload (Err why) t → IfRefused (RefusesOne e payloads) why
reason trace e m t before payload later payloads all (Refused x) failed =
    record { before = before; payload = payload; later = later; all = all; refuses = failed.answers.0 }
reason trace e m t before payload later payloads all (Io fault) failed = tt

-- a payload that is refused is one of these
pub write_reason : {E W : Type 0} (trace : MemoryWriter → MemoryWriter → Type 0) (encoding : E → Encoding W)
    (s t : WriterState MemoryWriter E) (payloads : List (List ℕ)) (why : WriteEachError (WritePieceError W))
    → CallsEach (λ m. WritesPiece trace (encoding m.encoder) m) (λ m. WritePlays trace (encoding m.encoder) m)
    s payloads (Err why)
    t → IfRefused (RefusesOne (encoding s.encoder) payloads) why.error
write_reason trace encoding s t payloads why each =
    subst (λ d. IfRefused (RefusesOne (encoding d) payloads) why.error) each.wrote.taken.encoder
    (reason trace (encoding each.before.encoder) each.before t each.done each.payload each.later payloads each.all why.error
    each.failed)

pub or_larger : {W : Type 0} (most : ℕ) (why : WritePieceError W) → IfFault IsMemory why
    → IfFault (BufferRefused most) why
or_larger most (Refused x) memory = tt
or_larger most (Io e) memory = inl memory
