-- A send of lines follows an Ok write, and only moves what is buffered on to the inner writer.
use Rattle.std.proofs.Common.{◌+◌, ◌*◌, arith, le_refl, length, refl, subst, sym}
use Rattle.std.proofs.Math.Seq.{take-length}
use Rattle.std.proofs.lemmas.Result.{err_from_is_err_and}
use Rattle.redux_buffer.specs.Faults.{FewFaults, interrupt_limit}
use Rattle.buffer_redux.proofs.LineSends.{appends_sent, few_sent, often_sent, on_ok, order_sent, steps_failed, steps_sent}
use Rattle.buffer_redux.specs.BufWriter.{WritesInOrder}
use Rattle.buffer_redux.specs.LineSenderLaws.{ThenSendsLines-all}
use Rattle.buffer_redux.specs.LineWriter.{line_rules}
use Rattle.buffer_redux.specs.WriteAll.{WritesAll}
use Rattle.buffer_redux.specs.WriterLaws.{WritesInOrder-then}
use Rattle.buffer_redux.specs.WritesAlongLaws.{WritesAll-all, WritesAll-took}
use Rattle.buffer_redux.proofs.line_writer.sender.LineSenderWrite.write_all.Goals as goal

pub returns-in_err-write_all-clause-all : goal.returns-in_err-write_all-clause-all
returns-in_err-write_all-clause-all g c =
    let p = err_from_is_err_and c.from_residual.result c.from_residual.ensures.1 in
    let e = c.in_err-write_all.ensures in
    rw (p.1, p.2) (rw (← c.self.view_is) (WritesAll-all g.W.Tell.log g.W.TellWrite.trace line_rules
    _ c.args.bytes.now _ c.write_all.new.self e.steps refl))

pub returns-in_err-write_all-clause-steps : goal.returns-in_err-write_all-clause-steps
returns-in_err-write_all-clause-steps g c =
    let p = err_from_is_err_and c.from_residual.result c.from_residual.ensures.1 in
    rw (p.1, p.2) (steps_failed g.W.Tell.log g.W.TellWrite.trace
    (WritesAll g.W.Tell.log g.W.TellWrite.trace line_rules c.args.self.now c.args.bytes.now) _
    c.write_all.new.self (rw (← c.self.view_is) c.in_err-write_all.ensures.steps))

pub returns-clause-bytes : goal.returns-clause-bytes
returns-clause-bytes g c = appends_sent g.W.Tell.log g.W.TellWrite.trace c.args.self.now c.write_all.new.self
    c.send_lines.result c.send_lines.new.self c.send_lines.ensures.sends c.args.bytes.now
    (rw (← c.self.view_is) c.in_ok-write_all.ensures.bytes)

pub returns-in_err-write_all-clause-few : goal.returns-in_err-write_all-clause-few
returns-in_err-write_all-clause-few g c =
    let few : FewFaults ((interrupt_limit + 1) * length c.args.bytes.now) c.args.self.now.log.writes
    c.write_all.new.self.log.writes = rw (← c.self.view_is) c.in_err-write_all.ensures.few in
    omega (arith, few)

pub returns-in_err-write_all-clause-often : goal.returns-in_err-write_all-clause-often
returns-in_err-write_all-clause-often g c =
    let p = err_from_is_err_and c.from_residual.result c.from_residual.ensures.1 in
    rw (p.1, p.2) (rw (← c.self.view_is) (c.in_err-write_all.ensures.often refl))

pub returns-clause-in_order : goal.returns-clause-in_order
returns-clause-in_order g c =
    on_ok c.send_lines.result _ (WritesInOrder-then _ c.write_all.new.self c.send_lines.new.self c.args.bytes.now
    (rw (← c.self.view_is) c.in_ok-write_all.ensures.in_order)
    (order_sent _ _ _ _ _ c.send_lines.ensures.sends))

pub returns-clause-beginning : goal.returns-clause-beginning
returns-clause-beginning g c =
    let bytes = c.args.bytes.now in
    record {
      count = length bytes;
      within = le_refl (length bytes);
      in_order = subst (λ l. WritesInOrder c.args.self.now l c.send_lines.new.self) (sym (take-length bytes))
          (WritesInOrder-then _ c.write_all.new.self c.send_lines.new.self bytes
          (rw (← c.self.view_is) c.in_ok-write_all.ensures.in_order) (order_sent _ _ _ _ _ c.send_lines.ensures.sends));
    }

pub returns-clause-few : goal.returns-clause-few
returns-clause-few g c = few_sent _ _ _ c.args.self.now c.write_all.new.self _ c.send_lines.new.self
    c.send_lines.ensures.sends (rw (← c.self.view_is) c.in_ok-write_all.ensures.few)

pub returns-clause-often : goal.returns-clause-often
returns-clause-often g c = often_sent _ _ c.args.self.now c.write_all.new.self _ c.send_lines.new.self
    c.send_lines.ensures.sends (WritesAll-took g.W.Tell.log g.W.TellWrite.trace line_rules c.args.self.now c.args.bytes.now _
    c.write_all.new.self (rw (← c.self.view_is) c.in_ok-write_all.ensures.steps)).grows

pub returns-clause-steps : goal.returns-clause-steps
returns-clause-steps g c = steps_sent g.W.Tell.log g.W.TellWrite.trace
    (WritesAll g.W.Tell.log g.W.TellWrite.trace line_rules c.args.self.now c.args.bytes.now) _
    c.write_all.new.self c.send_lines.result c.send_lines.new.self
    (rw (← c.self.view_is) c.in_ok-write_all.ensures.steps) c.send_lines.ensures.sends

pub returns-clause-all : goal.returns-clause-all
returns-clause-all g c =
    let steps = steps_sent g.W.Tell.log g.W.TellWrite.trace
    (WritesAll g.W.Tell.log g.W.TellWrite.trace line_rules c.args.self.now c.args.bytes.now) _
    c.write_all.new.self c.send_lines.result c.send_lines.new.self
    (rw (← c.self.view_is) c.in_ok-write_all.ensures.steps) c.send_lines.ensures.sends in
    ThenSendsLines-all g.W.Tell.log g.W.TellWrite.trace line_rules g.met.W.TellWrite.trace_none
    g.met.W.TellWrite.trace_joins g.met.W.TellWrite.trace_grows c.args.self.now c.send_lines.result c.send_lines.new.self
    _ steps c.args.bytes.now (WritesAll-took g.W.Tell.log g.W.TellWrite.trace line_rules
    c.args.self.now c.args.bytes.now _ c.write_all.new.self (rw (← c.self.view_is) c.in_ok-write_all.ensures.steps))
