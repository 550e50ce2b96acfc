-- The buffers begin empty, so what was moved between them is what one stream gave and the other received.
use Rattle.std.proofs.Common.{inl, inr, refl, arith}
use Rattle.std.proofs.lemmas.Result.{err_from_is_err_and}
use Rattle.copier.proofs.Runs.{copies_say}
use Rattle.copier.proofs.run.copy_all.Goals as goal

pub returns-in_err-total : goal.returns-in_err-total
returns-in_err-total g c =
    let p = err_from_is_err_and c.from_residual.result c.from_residual.ensures.1 in
    let copy = c.in_err-total.ensures in
    rw (p.1, p.2) (copies_say g.R.TellRead.remaining g.W.Tell.log g.W.TellWrite.trace c.args.source.now c.copy_buf.new.b
    c.args.target.now c.requires.source c.requires.target c.requires.whole copy.reader _ _ _ _ copy.copied copy.turns copy.writer
    (refl, refl))

pub returns-then-buf_len-gt0 : goal.returns-then-buf_len-gt0
returns-then-buf_len-gt0 g c =
    let copy = c.in_ok-total.ensures in
    copies_say g.R.TellRead.remaining g.W.Tell.log g.W.TellWrite.trace c.args.source.now c.copy_buf.new.b
    c.args.target.now c.requires.source c.requires.target c.requires.whole copy.reader _ _ _ _ copy.copied copy.turns copy.writer
    (inl (omega (arith, c.if-buf_len-gt0.true, c.buf_len.ensures.value), c.from.ensures, refl))

pub returns-in_err-flush : goal.returns-in_err-flush
returns-in_err-flush g c =
    let p = err_from_is_err_and c.from_residual-in_err-flush.result c.from_residual-in_err-flush.ensures.1 in
    let copy = c.in_ok-total.ensures in
    rw (p.1, p.2) (copies_say g.R.TellRead.remaining g.W.Tell.log g.W.TellWrite.trace c.args.source.now c.copy_buf.new.b
    c.args.target.now c.requires.source c.requires.target c.requires.whole copy.reader _ _ _ _ copy.copied copy.turns copy.writer
    (inr (omega (arith, c.if-buf_len-gt0.false, c.buf_len.ensures.value), c.in_err-flush.ensures.flushed)))

pub returns : goal.returns
returns g c =
    let copy = c.in_ok-total.ensures in
    copies_say g.R.TellRead.remaining g.W.Tell.log g.W.TellWrite.trace c.args.source.now c.copy_buf.new.b
    c.args.target.now c.requires.source c.requires.target c.requires.whole copy.reader _ _ _ _ copy.copied copy.turns copy.writer
    (inr (omega (arith, c.if-buf_len-gt0.false, c.buf_len.ensures.value), (refl, c.in_ok-flush.ensures.flushed)))
