-- A frame that is written behind a send.
use Rattle.std.proofs.Common.{◌≡◌, ℕ, ◌+◌, ◌<◌, ◌≤◌, List, [], ◌∷◌, ◌++◌, length, Bool, true, false, Result, Ok, Err, refl, sym, ap, subst, ◌∙◌, arith, length-append}
use Rattle.buffer_redux.specs.BufWriter.{WasSent}
use Rattle.buffer_redux.specs.Faults.{MetInterrupts-joins}
use Rattle.buffer_redux.specs.StreamLog.{StreamLog}
use Rattle.buffer_redux.specs.Transfer.{Sends}
use Rattle.codec.specs.Encoding.{coded}
use Rattle.codec.specs.PieceWriter.{IsPieceWriter, WriterState, unsent}
use Rattle.codec.specs.WritePiece.{PiecesTaken, WritesBuffered, WritesPiece}
use Rattle.codec.specs.WritePieceLaws.{PiecesTaken-joins}
use Rattle.frame_reader.specs.Framed.{framed_out}
use Rattle.frame_reader.specs.Frames.{Fits, header}
use Rattle.frame_reader.specs.declared.frame.Frames.{Frames}

module _ {S : Type 0} (tells : S → StreamLog) (trace : S → S → Type 0)
    (joins : (a b c : S) → trace a b → trace b c → trace a c) (max : ℕ) (s m t : WriterState S Frames) (payload : List ℕ)
    (takes : Fits max payload) (few : s.writer.block.capacity < length (unsent s) + length (coded (framed_out max) payload))
    (whole : IsPieceWriter (2 + max) m) (went : PiecesTaken trace (framed_out max) s [] m)
    (sent : WasSent tells trace s.writer (Ok tt) m.writer) where
  -- it fits behind nothing
  fits : length (coded (framed_out max) payload) ≤ m.writer.block.capacity
  fits = omega (
    arith,
    whole.capacity,
    takes,
    length-append (header (length payload)) (payload ++ []),
    length-append payload [],
  )

  written : WritesPiece trace (framed_out max) m payload (Ok tt) t → WritesPiece trace (framed_out max) s payload (Ok tt) t
  written p =
      let there = p.fits takes (omega (arith, fits, ap length sent.ok.empty)) in
      record {
        went = PiecesTaken-joins trace (framed_out max) joins s m t [] (payload ∷ []) went p.went;
        answers = (
          takes,
          MetInterrupts-joins s.writer.log.writes m.writer.log.writes t.writer.log.writes sent.ok.met p.answers.1,
        );
        fits = λ _ fit. absurd (omega (arith, fit, few));
        full = λ _ _. (
          (
            m.writer.block,
            subst (Sends (length (unsent s)) s.writer.block s.writer.log (Ok tt) m.writer.block) (sym there.1) sent.sends,
          ),
          ap (λ l. l.writes.received) there.1 ∙ sent.ok.received,
          there.2 ∙ ap (λ l. l ++ coded (framed_out max) payload) sent.ok.empty,
        );
        whole = p.whole;
      }

  pub slowly : (answer : Result Bool ℕ) → ((len : ℕ) → ¬ (answer ≡ Err len))
      → WritesBuffered trace (framed_out max) m payload answer t → WritesPiece trace (framed_out max) s payload (Ok tt) t
  slowly (Ok true) fails p = written p.0
  slowly (Ok false) fails p = absurd (omega (arith, p.1, fits, ap length sent.ok.empty))
  slowly (Err len) fails p = absurd (fails len refl)
