-- As many bytes as a head may have are its first 16384, or all where there are fewer.
use Rattle.std.proofs.Common.{◌∙◌, ap}
use Rattle.messages.specs.Names.{fault_on, Start, take_min}
use Rattle.messages.proofs.lines.line_fault.Goals as goal

pub returns : goal.returns
returns c = rw c.min.ensures at c.text_fault.ensures ∙ ap (fault_on Start) (take_min 16384 c.args.bytes.now)
