-- A chunk of what is buffered fits the writer's capacity, so some of it is taken in, and just that is consumed.
use Rattle.std.proofs.Common.{ap, arith, ◌∙◌}
use Rattle.bodies.specs.Words.{nat_tests, err_from_is_err_and}
use Rattle.bodies.proofs.EncodingCalls.{not_passed, passed}
use Rattle.bodies.proofs.encoding.EncodingFilter.pass.Goals as goal

pub returns-in_err-count : goal.returns-in_err-count
returns-in_err-count g c =
    let e = c.in_err-count.field-0.0 in
    let p = err_from_is_err_and c.from_residual.result c.from_residual.ensures.1 in
    rw (p.1, p.2)
    (not_passed c.requires _ _ (grind (arith, nat_tests))
    c.buffer.ensures.whole c.write.new.self e
    (rw c.buffer-2.ensures.value at c.in_err-count.ensures.writes))

pub returns : goal.returns
returns g c =
    let n = c.in_ok-count.count in
    passed c.requires _ _ (grind (arith, nat_tests))
    c.buffer.ensures.whole c.write.new.self n
    (rw c.buffer-2.ensures.value at c.in_ok-count.ensures.bound)
    (rw c.buffer-2.ensures.value at c.in_ok-count.ensures.writes)
    c.consume.new.self c.consume.ensures.in_order c.consume.ensures.consumed.told
    (ap (λ b. b.capacity) c.consume.ensures.consumed.told_policy.allowed.1 ∙ c.consume.ensures.consumed.dropped.capacity)
