-- A part of the storage that begins at the end of the bytes is a front of the tail.
use Rattle.std.proofs.Common.{take, refl, ap, ◌∙◌, arith}
use Rattle.redux_buffer.specs.Block.{with_tail}
use Rattle.redux_buffer.proofs.Loans.{std_tail_written}
use Rattle.redux_buffer.proofs.Ranges.{range_front}
use Rattle.redux_buffer.proofs.std_buf.StdBuf.write_front.Goals as goal

pub returns : goal.returns
returns c =
    let b = c.self.inside in (
      (refl, λ w. std_tail_written b w (omega arith) ∙ ap (λ p. with_tail p w) c.self.view_is),
      record {
        writes_back = tt;
        value = c.range_mut.ensures.value ∙ range_front b.buf b.end c.args.n
            ∙ ap (λ p. take c.args.n p.block.tail) c.self.view_is;
      },
    )
