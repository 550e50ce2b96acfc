-- Behind the skip no line is being skipped, so from there the call is one of a reader of pieces.
use Rattle.std.proofs.Common.{◌∙◌}
use Rattle.line_reader.specs.NextLineLaws.{NextLine-behind, NextLine-open, SkipsLine-whole}
use Rattle.line_reader.proofs.Going.{NextLine-looked}
use Rattle.line_reader.proofs.reader.LineReader.load_behind.Goals as goal

pub returns-in-Some-clause-next : goal.returns-in-Some-clause-next
returns-in-Some-clause-next g c =
    let m = c.skip_line.new.self in
    let skips = c.in_ok-skip_line.ensures.skips in
    let found = c.in-Some.ensures.next in
    NextLine-behind g.R.TellRead.remaining c.args.self.now c.step_buffered.new.self _ c.requires.skipping m
    c.in_ok-skip_line.field-0 skips (found.piece.0, found.skipping ∙ skips.skipping)

pub returns-in-None-clause-next : goal.returns-in-None-clause-next
returns-in-None-clause-next g c =
    let remaining = g.R.TellRead.remaining in
    let m = c.skip_line.new.self in
    let t = c.load_line.new.self in
    let skips = c.in_ok-skip_line.ensures.skips in
    let whole = SkipsLine-whole remaining c.args.self.now m _ skips in
    let next = NextLine-looked remaining m c.step_buffered.new.self t _ whole c.in-None.ensures.next c.load_line.ensures.next in
    NextLine-behind remaining c.args.self.now t _ c.requires.skipping m c.in_ok-skip_line.field-0 skips
    (NextLine-open remaining m t _ skips.skipping next)
