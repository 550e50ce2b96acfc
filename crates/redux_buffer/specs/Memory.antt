-- What contracts see of streams in memory.
use Rattle.std.specs.Prelude.{◌≡◌, ℕ, List, [], ◌∷◌, ◌++◌, length, vec_capacity}
use Rattle.std.proofs.Common.{arith, inl, inr, refl, subst, sym, ◌∙◌, append-nil}
use Rattle.std.proofs.lemmas.List.{take_at, drop_at}
use Rattle.std.proofs.lemmas.List.Elements.{All-head, All-take, All-drop}
use Rattle.std.specs.List.{All}
use Rattle.std.specs.declared.io.Error.{Error}
use Rattle.redux_buffer.specs.Faults.{IsMemory, SendErrorCaused}
use Rattle.redux_buffer.specs.StreamLog.{StreamLog, WriteLog}
use Rattle.redux_buffer.specs.declared.tell.memory.MemoryReader.{MemoryReader}
use Rattle.redux_buffer.specs.declared.tell.memory.MemoryWriter.{MemoryWriter}

-- the bytes that reads give from here on, and what was told of them
abbrev pub bytes_left : MemoryReader → List ℕ
bytes_left r = r.bytes.now

abbrev pub reader_log : MemoryReader → StreamLog
reader_log r = r.calls.log

-- what was told of the bytes that were written
abbrev pub writer_log : MemoryWriter → StreamLog
writer_log w = w.calls.log

-- how many bytes its vector has room for
abbrev pub room_held : MemoryWriter → ℕ
room_held w = vec_capacity w.bytes

-- no read has failed
pub reader-faultless : (r : MemoryReader) → (reader_log r).reads.faults ≡ []
reader-faultless r = r.faultless

-- no write took nothing of something
pub writer-takes_some : (w : MemoryWriter) → (writer_log w).writes.zero_writes ≡ 0
writer-takes_some w = w.takes_some

-- each fault was want of memory
pub fault-memory : (w : MemoryWriter) (before : List Error) (e : Error) (after : List Error)
    → (writer_log w).writes.faults ≡ (before ++ e ∷ []) ++ after → IsMemory e
fault-memory w before e after is =
    let all : All IsMemory ((before ++ e ∷ []) ++ after) = subst (All IsMemory) is w.wants_memory in
    let front : All IsMemory (before ++ e ∷ []) =
    subst (All IsMemory) (take_at (before ++ e ∷ []) after (length (before ++ e ∷ [])) refl)
    (All-take IsMemory (length (before ++ e ∷ [])) ((before ++ e ∷ []) ++ after) all) in
    All-head IsMemory e [] (subst (All IsMemory) (drop_at before (e ∷ []) (length before) refl)
    (All-drop IsMemory (length before) (before ++ e ∷ []) front))

-- each error of sending was want of memory
pub send-memory : (w : MemoryWriter) (old : WriteLog) (e : Error) → SendErrorCaused old (writer_log w).writes e → IsMemory e
send-memory w old e s = elim s.cause [
  | inl nothing ↦ absurd (omega (arith, nothing.zero_writes, w.takes_some))
  | inr fault ↦ fault-memory w (old.faults ++ s.interrupts) e []
      (fault.faults ∙ sym (append-nil ((old.faults ++ s.interrupts) ++ e ∷ [])))
]
