-- An empty buffer has room for its capacity, and what comes is payload as far as the look said.
use Rattle.std.proofs.Common.{◌≡◌, ◌<◌, arith, length}
use Rattle.std.proofs.lemmas.List.{nil_from_length}
use Rattle.buffer_redux.specs.Block.{usable}
use Rattle.body_reader.proofs.Filling.{room_of_empty, show_dry, show_fails, show_held, show_well}
use Rattle.body_reader.proofs.steps.show.Goals as goal
use Rattle.body_reader.proofs.steps.show.Goals.{After-read_into_buf}

none_held : (g : _) (c : After-read_into_buf g) → length c.args.reader.now.block.bytes ≡ 0
none_held g c = omega (arith, c.buf_len-held.ensures.value, c.if-held-gt0.false)

all_room : (g : _) (c : After-read_into_buf g) → usable c.args.reader.now.block ≡ c.args.reader.now.block.capacity
all_room g c = room_of_empty c.args.reader.now.block c.buf_len-held.ensures.whole (none_held g c)

has_room : (g : _) (c : After-read_into_buf g) → 0 < usable c.args.reader.now.block
has_room g c =
    let lawful = g.met.C.Coding.lawful c.args.coding.now in omega (arith, all_room g c, c.requires.room, lawful.some)

pub returns-then-held-gt0 : goal.returns-then-held-gt0
returns-then-held-gt0 g c slice _ =
    show_held _ _ _ slice _ _ c.requires.place _ c.requires.sure
    (omega (arith, c.buf_len-held.ensures.value, c.if-held-gt0.true)) _
    (omega (arith, c.min.ensures, c.buf_len-held.ensures.value))

pub returns-in-Ok-eq0 : goal.returns-in-Ok-eq0
returns-in-Ok-eq0 g c slice fits =
    let at = (goal.at.returns-in-Ok-eq0 g c).After-read_into_buf in
    let none : c.in-Ok-eq0.field-0 ≡ 0 = omega (arith, c.in-Ok-eq0.field-0-test) in
    let reads = rw none at c.in-Ok-eq0.ensures in
    show_dry _ _ _ (g.met.C.Coding.lawful _) _ _ c.requires.place _ c.requires.sure (nil_from_length _ (none_held g at))
    (has_room g at) _ reads.in_order reads.spared slice
    (omega (arith, fits (nil_from_length _ (none_held g at)), all_room g at)) reads.reads

pub returns-in-Ok : goal.returns-in-Ok
returns-in-Ok g c slice fits =
    let at = (goal.at.returns-in-Ok g c).After-read_into_buf in
    let reads = c.in-Ok.ensures in
    show_well _ _ _ (g.met.C.Coding.lawful _) _ _ c.requires.place _ c.requires.sure (nil_from_length _ (none_held g at))
    (has_room g at) _ reads.in_order reads.spared slice
    (omega (arith, fits (nil_from_length _ (none_held g at)), all_room g at)) _ reads.reads
    (omega (arith, c.in-Ok.came-test)) _ (omega (arith, c.min-in-Ok.ensures))

pub returns-in-Err : goal.returns-in-Err
returns-in-Err g c slice fits =
    let at = (goal.at.returns-in-Err g c).After-read_into_buf in
    let reads = c.in-Err.ensures in
    show_fails _ _ _ (g.met.C.Coding.lawful _) _ _ c.requires.place _ c.requires.sure (nil_from_length _ (none_held g at))
    (has_room g at) _ reads.in_order reads.spared slice
    (omega (arith, fits (nil_from_length _ (none_held g at)), all_room g at)) _ reads.reads
