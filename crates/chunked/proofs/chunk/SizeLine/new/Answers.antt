-- The digits of what is left, and then the bytes from `start` on, are at each turn the whole line.
use Rattle.std.proofs.Common.{arith, append_assoc}
use Rattle.chunked.specs.Names.{digits_of_step, length-digits_of-le, length-digits_of_step, length-set, map-append}
use Rattle.chunked.proofs.Digits.{digit_table, set_before}
use Rattle.chunked.proofs.chunk.SizeLine.new.Goals as goal

pub loop-left-init : goal.loop-left-init
loop-left-init c = grind (arith, length-digits_of-le)

pub overflow_sub-start : goal.overflow_sub-start
overflow_sub-start c =
    omega (arith, c.loop-left.invariant.room, length-digits_of_step 16 c.loop-left.left (omega arith) c.loop-left-test.true)

pub loop-left-preserved : goal.loop-left-preserved
loop-left-preserved c =
    grind (arith, length-digits_of_step, digit_table, digits_of_step, map-append, set_before, append_assoc, length-set)
