-- The reader is new over the text, so what it has left is the text.
use Rattle.uses.proofs.int_lines.numbers_in.Goals as goal

pub returns : goal.returns
returns c =
    let made = c.in_ok-new.ensures.made.made in
    let all = c.read_numbers.ensures in
    let told = c.new.ensures.stream in
    rw (made.new.bytes, made.new.capacity, made.inner, told) at all
