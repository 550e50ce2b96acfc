-- The front of what is known is payload, and the call's note hands out just that.
use Rattle.std.proofs.Common.{Ok, ap, arith, take, ◌∙◌}
use Rattle.buffer_redux.specs.StreamLog.{after_read}
use Rattle.body_reader.proofs.Consuming.{consumes, consumes_none}
use Rattle.body_reader.proofs.reader.BodyReader.consume_payload.Goals as goal

pub returns-then-count-eq0-clause-consumes : goal.returns-then-count-eq0-clause-consumes
returns-then-count-eq0-clause-consumes g c = rw (← c.self.view_is)
    (consumes_none _ _ _ _ _ c.self.invariant (omega (arith, c.if-count-eq0.true, c.min-count.ensures)))

pub invariant_of-self : goal.invariant_of-self
invariant_of-self g c =
    let n = c.min-count.result in
    (consumes _ _ _ _ _ _ _ _ c.self.invariant n (omega (arith, c.min-count.ensures)) _ _ _ c.take_front.ensures _
    (c.note.ensures ∙ ap (λ l. after_read c.self.inside.calls.log (take n l) (Ok n)) c.buffer.ensures.value) _
    (omega (arith, c.if-count-eq0.false)) c.min-count.ensures).whole

pub returns-clause-consumes : goal.returns-clause-consumes
returns-clause-consumes g c =
    let n = c.min-count.result in
    rw (← c.self.view_is) (consumes _ _ _ _ _ _ _ _ c.self.invariant n (omega (arith, c.min-count.ensures)) _ _ _
    c.take_front.ensures _
    (c.note.ensures ∙ ap (λ l. after_read c.self.inside.calls.log (take n l) (Ok n)) c.buffer.ensures.value) _
    (omega (arith, c.if-count-eq0.false)) c.min-count.ensures)
