-- Each turn adds a line to those that were taken in; at an `Err` a beginning of the next one stands behind them.
use Rattle.std.proofs.Common.{Ok, Err, arith, map, subst}
use Rattle.std.proofs.lemmas.List.{take_all}
use Rattle.buffer_redux.specs.LineWriter.{line_rules}
use Rattle.codec.specs.WriteEachLaws.{wrote_more, wrote_none}
use Rattle.codec.specs.WriteRuns.{CallRuns}
use Rattle.codec.specs.WriteRunsLaws.{CallRuns-more}
use Rattle.line_play.proofs.WritingLines.{each_says}
use Rattle.line_play.specs.WrittenLines.{WritesLine}
use Rattle.line_play.proofs.lists.write_each.Goals as goal

pub loop-line-preserved : goal.loop-line-preserved
loop-line-preserved g c =
    let Call = WritesLine g.W.Tell.log g.W.TellWrite.trace line_rules in (
      wrote_more (CallRuns-more Call) c.args.lines.now c.loop-line.line-index c.loop-line.invariant.0 c.line-item.result
          c.loop-line-test.true c.line-item.is c.write_line.new.writer (λ _ _. tt)
          (subst (λ l. Call c.loop-line.writer l (Ok tt) c.write_line.new.writer) c.deref.ensures.value c.in-Ok.ensures),
      omega (arith, c.loop-line.invariant.1),
    )

pub returns-in-Err : goal.returns-in-Err
returns-in-Err g c =
    let Call = WritesLine g.W.Tell.log g.W.TellWrite.trace line_rules in
    each_says g.W.Tell.log g.W.TellWrite.trace g.met.W.TellWrite.trace_joins g.met.W.TellWrite.trace_none c.args.writer.now
    (map (λ v. v.items) c.args.lines.now) (Err (record { taken = c.loop-line.taken; error = c.in-Err.error }))
    c.write_line.new.writer
    (wrote_none (CallRuns-more Call) c.args.lines.now c.loop-line.line-index c.loop-line.invariant.0 c.line-item.result
    c.loop-line-test.true c.line-item.is c.write_line.new.writer _ c.loop-line.invariant.1
    (subst (λ l. Call c.loop-line.writer l (Err c.in-Err.error) c.write_line.new.writer) c.deref.ensures.value
    c.in-Err.ensures))

pub returns : goal.returns
returns g c =
    let Run = CallRuns (WritesLine g.W.Tell.log g.W.TellWrite.trace line_rules) in
    let all = take_all c.loop-line.line-index c.args.lines.now (omega (arith, c.loop-line-test.false)) in
    each_says g.W.Tell.log g.W.TellWrite.trace g.met.W.TellWrite.trace_joins g.met.W.TellWrite.trace_none c.args.writer.now
    (map (λ v. v.items) c.args.lines.now) (Ok tt) c.loop-line.writer
    (subst (λ l. Run c.args.writer.now (map (λ v. v.items) l) (map (λ line. Ok tt) (map (λ v. v.items) l)) c.loop-line.writer)
    all c.loop-line.invariant.0.plays)
