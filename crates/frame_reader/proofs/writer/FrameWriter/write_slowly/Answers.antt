-- Behind the send the buffer is empty, so the frame finds room there, and both calls are one write.
use Rattle.std.proofs.Common.{arith, subst}
use Rattle.codec.specs.WritePiece.{WritesBuffered}
use Rattle.frame_reader.specs.Framed.{framed_out}
use Rattle.frame_reader.proofs.Slowly.{slowly}
use Rattle.frame_reader.proofs.writer.FrameWriter.write_slowly.Goals as goal

pub returns : goal.returns
returns g c =
    let s = c.args.self.now in
    let m = c.send.new.self in
    let t = c.write_buffered.new.self in
    let sent = c.in_ok-send.ensures in
    slowly g.W.Tell.log g.W.TellWrite.trace g.met.W.TellWrite.trace_joins s.encoder.max s m t c.args.payload.now
    c.requires.full.0 (omega (arith, c.requires.full.1)) sent.whole sent.went sent.sent c.write_buffered.result
    c.in_default.not-Err
    (subst (λ d. WritesBuffered g.W.TellWrite.trace (framed_out d.max) m c.args.payload.now c.write_buffered.result t)
    sent.went.encoder
    (subst (λ x. WritesBuffered g.W.TellWrite.trace (framed_out x.encoder.max) x c.args.payload.now c.write_buffered.result t)
    c.self.view_is c.write_buffered.ensures.writes))
