-- At most 14 digits write less than 2^58, so one more overflows nothing and is still the size of a chunk.
use Rattle.std.proofs.Common.{◌≡◌, ◌-◌, ◌<◌, ◌≤◌, ◌^◌, arith, inr, length, slice_index}
use Rattle.std.specs.Char.{digit_value}
use Rattle.chunked.proofs.Framing.{few_digits, more_digits, reads_digit}
use Rattle.chunked.proofs.frame.read_size.Goals as goal
use Rattle.chunked.proofs.frame.read_size.Goals.{After-parse_hex_digit}

few : (c : After-parse_hex_digit) → c.loop-at.at - c.args.begins ≤ 14
few c = omega (arith, c.loop-at-test.true, c.min.ensures, c.min-2.ensures)

small : (c : After-parse_hex_digit) → c.loop-at.size < 2 ^ 58
small c = few_digits c.loop-at.size (c.loop-at.at - c.args.begins) c.loop-at.invariant.small (few c)

pub overflow_mul-size : goal.overflow_mul-size
overflow_mul-size c = omega (arith, small (goal.at.overflow_mul-size c).After-parse_hex_digit)

pub overflow_add-size : goal.overflow_add-size
overflow_add-size c =
    let found = c.in-Some.ensures.exact in
    omega (arith, small (goal.at.overflow_add-size c).After-parse_hex_digit, found.0, found.1)

pub loop-at-preserved : goal.loop-at-preserved
loop-at-preserved c =
    let at = (goal.at.loop-at-preserved c).After-parse_hex_digit in
    let so = c.loop-at.invariant in
    let found = c.in-Some.ensures.exact in
    let shown = c.args.shown.now in
    let value : c.in-Some.digit ≡ digit_value (slice_index shown c.loop-at.at) = found.1 in
    let held : c.loop-at.at < length shown = omega (arith, c.loop-at-test.true, c.min-2.ensures, c.requires.within) in
    let room : c.loop-at.at - c.args.begins < c.args.limits.now.line =
    omega (arith, c.loop-at-test.true, c.min.ensures, c.min-2.ensures) in
    record {
      begun = omega (arith, so.begun);
      within = omega (arith, held);
      small = more_digits c.loop-at.size c.in-Some.digit c.loop-at.at c.args.begins so.begun so.small
          (omega (arith, value, found.0));
      reads = inr (reads_digit c.args.limits.now c.args.start shown c.args.begins c.loop-at.at c.loop-at.size c.in-Some.digit
          c.requires.comes so.begun so.reads held room (small at) found.0 value);
    }
