-- Each turn goes on to the next part, takes its text whole, and writes its line.
use Rattle.std.proofs.Common.{[], Ok, Err, true, false, inl, inr, refl, ap, arith}
use Rattle.std.proofs.lemmas.Result.{err_from_is_err_and}
use Rattle.body_reader.specs.BodyReader.{handed_of}
use Rattle.parts.proofs.Listing.{left, lined, lines_on, puts_none}
use Rattle.parts.proofs.Parts.{comes, ends_on, fails_whole, last_whole, parts_none, parts_on, still_inside}
use Rattle.parts.proofs.list.list.Goals as goal

pub loop-part-init : goal.loop-part-init
loop-part-init g c = record {
  turns = [];
  so = parts_none c.args.parts.now c.requires.stands c.requires.none c.requires.begins;
  ended = inl refl;
  puts = puts_none g.W.Tell.log g.W.TellWrite.trace g.met.W.TellWrite.trace_none c.args.target.now;
}

pub returns-in_err-next_part : goal.returns-in_err-next_part
returns-in_err-next_part g c =
    let i = c.loop-part.invariant in
    let p = err_from_is_err_and c.from_residual.result c.from_residual.ensures.1 in
    let next = comes g.R.TellRead.remaining i.so (Err c.in_err-next_part.field-0.0) c.next_part.new.self
    c.in_err-next_part.ensures.next in
    rw (p.1, p.2) (record {
      turns = i.turns;
      text = next.0;
      ends = inl (
        next.2,
        fails_whole g.R.TellRead.remaining i.so i.ended next.0 next.1 c.in_err-next_part.field-0.0 c.next_part.new.self
            c.in_err-next_part.ensures.next,
      );
      puts = lines_on g.W.Tell.log g.W.TellWrite.trace _ _ i.turns _ next.0 i.ended next.1 i.puts;
    })

pub returns-then-not-branch : goal.returns-then-not-branch
returns-then-not-branch g c =
    let i = c.loop-part.invariant in
    let next = comes g.R.TellRead.remaining i.so (Ok false) c.next_part.new.self
    (rw c.if-not-branch.true at c.in_ok-next_part.ensures.next) in
    record {
      turns = i.turns;
      text = next.0;
      ends = next.2;
      puts = lines_on g.W.Tell.log g.W.TellWrite.trace _ _ i.turns _ next.0 i.ended next.1 i.puts;
    }

pub returns-in_err-len : goal.returns-in_err-len
returns-in_err-len g c =
    let i = c.loop-part.invariant in
    let next = comes g.R.TellRead.remaining i.so (Ok true) c.next_part.new.self
    (rw c.if-not-branch.false at c.in_ok-next_part.ensures.next) in
    let before = lines_on g.W.Tell.log g.W.TellWrite.trace _ _ i.turns _ next.0 i.ended next.1 i.puts in
    let p = err_from_is_err_and c.from_residual-in_err-len.result c.from_residual-in_err-len.ensures.1 in
    rw (p.1, p.2) (left g.R.TellRead.remaining g.W.Tell.log g.W.TellWrite.trace next.2.0 next.2.1 before
    c.in_err-len.field-0.0 c.in_err-len.ensures)

pub returns-in_err-put_line : goal.returns-in_err-put_line
returns-in_err-put_line g c =
    let i = c.loop-part.invariant in
    let next = comes g.R.TellRead.remaining i.so (Ok true) c.next_part.new.self
    (rw c.if-not-branch.false at c.in_ok-next_part.ensures.next) in
    let before = lines_on g.W.Tell.log g.W.TellWrite.trace _ _ i.turns _ next.0 i.ended next.1 i.puts in
    let takes = c.in_ok-len.ensures in
    let line = rw (c.head.ensures, ap (λ x. x.head) takes.took.within) at c.in_err-put_line.ensures in
    let p = err_from_is_err_and c.from_residual-in_err-put_line.result c.from_residual-in_err-put_line.ensures.1 in
    rw (p.1, p.2) (record {
      turns = _;
      text = handed_of c.take_text.new.parts.body;
      ends = (
        still_inside g.R.TellRead.remaining next.2.0 takes.took,
        omega arith,
        ends_on g.R.TellRead.remaining next.2.0 takes.took next.2.1 (Ok c.in_ok-len.len) takes.ends,
        refl,
      );
      puts = lined g.R.TellRead.remaining g.W.Tell.log g.W.TellWrite.trace next.2.0 next.2.1 before
          g.met.W.TellWrite.trace_joins takes line;
    })

pub loop-part-preserved : goal.loop-part-preserved
loop-part-preserved g c =
    let i = c.loop-part.invariant in
    let next = comes g.R.TellRead.remaining i.so (Ok true) c.next_part.new.self
    (rw c.if-not-branch.false at c.in_ok-next_part.ensures.next) in
    let before = lines_on g.W.Tell.log g.W.TellWrite.trace _ _ i.turns _ next.0 i.ended next.1 i.puts in
    let takes = c.in_ok-len.ensures in
    let line = rw (c.head.ensures, ap (λ x. x.head) takes.took.within) at c.in_ok-put_line.ensures in
    record {
      turns = _;
      so = parts_on g.R.TellRead.remaining next.2.0 takes.took takes.ends.1;
      ended = inr (ends_on g.R.TellRead.remaining next.2.0 takes.took next.2.1 (Ok c.in_ok-len.len) takes.ends).0;
      puts = lined g.R.TellRead.remaining g.W.Tell.log g.W.TellWrite.trace next.2.0 next.2.1 before
          g.met.W.TellWrite.trace_joins takes line;
    }

pub returns : goal.returns
returns g c =
    let i = c.loop-part.invariant in
    record {
      turns = i.turns;
      text = _;
      ends = inl (
        ((i.so.before, i.so.inside), i.so.gave, omega (arith, i.so.many, c.loop-part-test.false), refl),
        last_whole g.R.TellRead.remaining i.so i.ended,
      );
      puts = i.puts;
    }
