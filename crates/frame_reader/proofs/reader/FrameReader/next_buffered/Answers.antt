-- What is lent is the payload that the step says, and a payload that is handed out fits.
use Rattle.std.proofs.Common.{[], Some, refl, subst, sym}
use Rattle.std.proofs.lemmas.List.Elements.{All-head}
use Rattle.codec.specs.NextPiece.{NextBuffered, buffered_answer}
use Rattle.frame_reader.specs.Framed.{framed}
use Rattle.frame_reader.specs.Frames.{Fits}
use Rattle.frame_reader.specs.NextLaws.{NextPiece-frames}
use Rattle.frame_reader.proofs.Pieces.{NextBuffered-front}
use Rattle.frame_reader.proofs.reader.FrameReader.next_buffered.Goals as goal

pub returns-in-Some : goal.returns-in-Some
returns-in-Some g c =
    let remaining = g.R.TellRead.remaining in
    let s = c.args.self.now in
    let t = c.step_buffered.new.self in
    let lends : NextBuffered remaining (framed s.decoder.max) s (Some c.lent.result.now) t =
    subst (λ l. NextBuffered remaining (framed s.decoder.max) s (Some l) t) (sym c.lent.ensures)
    (subst (λ o. NextBuffered remaining (framed s.decoder.max) s (buffered_answer o t) t) c.in-Some.is
    c.step_buffered.ensures.next) in (
      (refl, (λ _. tt), lends),
      record {
        after_borrow = tt;
        front = NextBuffered-front remaining s t c.lent.result.now lends;
        fits = All-head (Fits s.decoder.max) c.lent.result.now [] (NextPiece-frames remaining s t _ lends.0).fit;
      },
    )
