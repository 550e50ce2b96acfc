-- A read behind what is buffered keeps it, so an unchanged length means that the stream ended there.
use Rattle.std.proofs.Common.{◌∙◌, ap, arith, length, sym}
use Rattle.buffer_redux.proofs.LineSteps.{more_broken, more_read}
use Rattle.buffer_redux.proofs.buf_reader.BufReader.fill_more.Goals as goal

pub returns-then-len : goal.returns-then-len
returns-then-len g c =
    let was = c.len-len.ensures.value ∙ ap (λ x. length x.block.bytes) c.self.view_is in
    let is = c.len.ensures.value ∙ ap (λ x. length x.block.bytes) c.self-2.view_is in record {
      fills = more_broken g.R.TellRead.remaining g.P.ReaderPolicy.rules c.args.self.now c.from.result c.retried.new.state
          (omega (arith, was, c.if-len-eq0.false)) c.in_ok-retried.ensures.retried (sym is ∙ c.if-len.true ∙ was)
          c.from.ensures;
    }

pub returns : goal.returns
returns g c =
    let was = c.len-len.ensures.value ∙ ap (λ x. length x.block.bytes) c.self.view_is in
    let is = c.len.ensures.value ∙ ap (λ x. length x.block.bytes) c.self-2.view_is in record {
      fills = more_read g.R.TellRead.remaining g.P.ReaderPolicy.rules c.args.self.now c.retried.new.state
          (omega (arith, was, c.if-len-eq0.false)) c.in_ok-retried.ensures.retried
          (λ same. c.if-len.false (is ∙ same ∙ sym was));
    }
