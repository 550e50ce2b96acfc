-- An interrupted ask lengthens the row, or begins it anew where bytes came; the ask that isn't repeated ends the turn.
use Rattle.std.proofs.Common.{arith}
use Rattle.forward.proofs.Turning.{none_yet, one_retry, row_fits, turn_ends}
use Rattle.forward.proofs.pump.ask_retried.Goals as goal

pub tries-init : goal.tries-init
tries-init g c = record {
  before = none_yet g.F.Filter.rules g.met.F.Filter.lawful c.args.link.now c.requires.ready c.requires.lacks c.requires.sent;
  few = omega arith;
}

pub tries-preserved-in-Some-2 : goal.tries-preserved-in-Some-2
tries-preserved-in-Some-2 g c = record {
  before = one_retry g.F.Filter.rules g.met.F.Filter.lawful c.args.link.now c.tries.row c.tries.link c.ask-answer.new.self
      c.tries.invariant.before c.tries.invariant.few c.ask-answer.result c.ask-answer.ensures.asks c.in-Some.with
      c.in-Some.ensures;
  few = row_fits g.F.Filter.rules g.met.F.Filter.lawful c.args.link.now c.tries.row c.tries.link c.ask-answer.new.self
      c.tries.invariant.before c.tries.invariant.few c.ask-answer.result c.in-Some.with c.in-Some.ensures;
}

pub returns-in-None : goal.returns-in-None
returns-in-None g c =
    turn_ends g.F.Filter.rules g.met.F.Filter.lawful c.args.link.now c.tries.row c.tries.link c.ask-answer.new.self
    c.tries.invariant.before c.tries.invariant.few c.ask-answer.result c.ask-answer.ensures.asks c.in-None.ensures
