-- What is left is bytes, so where these settle nothing there are none, or they are a frame that is cut short.
use Rattle.std.proofs.Common.{◌∙◌, Err, List, None, Ok, Option, Some, ap, subst, sym, ℕ}
use Rattle.codec.specs.declared.NextError.{NextError}
use Rattle.codec.specs.declared.Span.{Span}
use Rattle.codec.specs.NextPiece.{AskedUnlessEnded, NextPiece, load_answer}
use Rattle.codec.specs.PieceReader.{ReaderState}
use Rattle.frame_reader.specs.declared.error.FrameError.{FrameError}
use Rattle.frame_reader.specs.declared.frame.FrameFault.{FrameFault}
use Rattle.frame_reader.specs.declared.frame.Frames.{Frames}
use Rattle.frame_reader.specs.Framed.{framed}
use Rattle.frame_reader.specs.Frames.{OffersFrame}
use Rattle.frame_reader.specs.Next.{Next}
use Rattle.frame_reader.proofs.Pieces.{Next-failed, lent_fits, step_offered}
use Rattle.frame_reader.proofs.reader.FrameReader.step.Goals as goal

pub returns-in-Err-clause-next : goal.returns-in-Err-clause-next
returns-in-Err-clause-next g c =
    let remaining = g.R.TellRead.remaining in
    let s = c.self.inside.pieces in
    let t = c.step.new.self in
    subst (λ x. Next remaining x (Err c.no_frame.result) t) c.self.view_is
    (Next-failed remaining s t c.no_frame.result c.no_frame.ensures.bytes
    (step_offered remaining s t _ c.in-Err.ensures.next c.in-Err.ensures.looked)
    (subst (λ e. NextPiece remaining (framed s.decoder.max) s (Err e) t) (sym c.no_frame.ensures.error) c.in-Err.ensures.next))

-- an answer without an error is one of frames as it is one of pieces
found_next : {S : Type 0} (remaining : S → Option (List ℕ)) (s t : ReaderState S Frames) (found : Option Span)
    → AskedUnlessEnded (OffersFrame t.reader.log.reads.offer) s t
    → NextPiece remaining (framed s.decoder.max) s (load_answer {E = NextError FrameFault} (Ok found) t) t
    → Next remaining s (load_answer {E = FrameError} (Ok found) t) t
found_next remaining s t (Some span) offered next = record { piece = next; offered = offered; leaves = tt }
found_next remaining s t None offered next = record { piece = next; offered = offered; leaves = tt }

pub returns-in-Ok-clause-next : goal.returns-in-Ok-clause-next
returns-in-Ok-clause-next g c =
    let remaining = g.R.TellRead.remaining in
    let t = c.step.new.self in
    subst (λ x. Next remaining x (load_answer {E = FrameError} (Ok c.in-Ok.found) t) t) c.self.view_is
    (found_next remaining c.self.inside.pieces t c.in-Ok.found
    (step_offered remaining c.self.inside.pieces t _ c.in-Ok.ensures.next c.in-Ok.ensures.looked)
    c.in-Ok.ensures.next)

pub returns-in-Ok-clause-fits : goal.returns-in-Ok-clause-fits
returns-in-Ok-clause-fits g c =
    lent_fits c.args.self.now c.step.new.self c.in-Ok.found
    (c.in-Ok.ensures.next.went.decoder ∙ ap (λ x. x.decoder) c.self.view_is) c.in-Ok.ensures.lends
