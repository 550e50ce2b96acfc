-- A send of lines follows an Ok write, and only moves what is buffered on to the inner writer.
use Rattle.std.proofs.lemmas.Result.{err_from_is_err_and}
use Rattle.buffer_redux.proofs.LineSends.{steps_failed, steps_sent, text_sent}
use Rattle.buffer_redux.specs.LineWriter.{line_rules}
use Rattle.buffer_redux.specs.WriteFmt.{WritesText}
use Rattle.buffer_redux.proofs.line_writer.sender.LineSender.write_fmt.Goals as goal

pub returns-in_err-write_fmt-clause-steps : goal.returns-in_err-write_fmt-clause-steps
returns-in_err-write_fmt-clause-steps g c =
    let p = err_from_is_err_and c.from_residual.result c.from_residual.ensures.1 in
    rw (p.1, p.2) (steps_failed g.W.Tell.log g.W.TellWrite.trace
    (WritesText g.W.Tell.log g.W.TellWrite.trace line_rules c.args.self.now (g.D.Display.output c.args.text)) _
    c.write_fmt.new.self (rw (← c.self.view_is) c.in_err-write_fmt.ensures.text))

pub returns-clause-bytes : goal.returns-clause-bytes
returns-clause-bytes g c = text_sent g.W.Tell.log g.W.TellWrite.trace c.args.self.now c.write_fmt.new.self
    c.send_lines.result c.send_lines.new.self c.send_lines.ensures.sends (g.D.Display.output c.args.text)
    (rw (← c.self.view_is) c.in_ok-write_fmt.ensures.bytes)

pub returns-clause-steps : goal.returns-clause-steps
returns-clause-steps g c = steps_sent g.W.Tell.log g.W.TellWrite.trace
    (WritesText g.W.Tell.log g.W.TellWrite.trace line_rules c.args.self.now (g.D.Display.output c.args.text)) _
    c.write_fmt.new.self c.send_lines.result c.send_lines.new.self
    (rw (← c.self.view_is) c.in_ok-write_fmt.ensures.text) c.send_lines.ensures.sends
