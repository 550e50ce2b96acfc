-- Each piece that a fill shows is written if it is wanted, and consumed and counted.
use Rattle.std.proofs.Common.{[], ap, arith, ◌∙◌, length-append, refl, take}
use Rattle.std.proofs.lemmas.List.{length-take-le}
use Rattle.std.proofs.lemmas.Result.{err_from_is_err_and}
use Rattle.parts.proofs.Listing.{wanted_none, wanted_then}
use Rattle.parts.proofs.Putting.{text_ends, text_fails, text_filled, text_more, text_none, text_took}
use Rattle.parts.proofs.text.take_text.Goals as goal

pub loop-piece-init : goal.loop-piece-init
loop-piece-init g c = record {
  payload = [];
  so = text_none g.R.TellRead.remaining c.args.parts.now c.requires c.get_ref.ensures.body;
  len = refl;
  puts = wanted_none g.W.Tell.log g.W.TellWrite.trace g.met.W.TellWrite.trace_none c.args.wanted c.args.target.now;
}

pub returns-in_err-count : goal.returns-in_err-count
returns-in_err-count g c =
    let i = c.loop-piece.invariant in
    let fill = c.in_err-count.ensures in
    let p = err_from_is_err_and c.from_residual.result c.from_residual.ensures.1 in
    rw (p.1, p.2) (record {
      payload = i.payload;
      took = text_filled g.R.TellRead.remaining i.so fill.within fill.fills;
      ends = text_fails g.R.TellRead.remaining i.so fill.within fill.fills;
      len = tt;
      puts = i.puts;
    })

pub returns-then-count-eq0 : goal.returns-then-count-eq0
returns-then-count-eq0 g c =
    let i = c.loop-piece.invariant in
    let fill = c.in_ok-count.ensures in
    record {
      payload = i.payload;
      took = text_filled g.R.TellRead.remaining i.so fill.within fill.fills;
      ends = text_ends g.R.TellRead.remaining i.so fill.within fill.fills c.loop-piece.len c.if-count-eq0.true;
      len = i.len;
      puts = i.puts;
    }

pub returns-in_err-answer : goal.returns-in_err-answer
returns-in_err-answer g c =
    let i = c.loop-piece.invariant in
    let fill = c.in_ok-count.ensures in
    let p = err_from_is_err_and c.from_residual-in_err-answer.result c.from_residual-in_err-answer.ensures.1 in
    let so = text_more g.R.TellRead.remaining i.so fill.within fill.fills (omega (arith, c.if-count-eq0.false))
    c.consume.ensures.within c.consume.ensures.consumes in
    let wrote = rw (c.piece.ensures.text (ap (λ x. x.stand) fill.within ∙ i.so.stands)) at c.in_err-answer.ensures in
    rw (p.1, p.2) (record {
      payload = _;
      took = text_took g.R.TellRead.remaining so;
      ends = so.taken.gave;
      len = tt;
      puts = wanted_then g.W.Tell.log g.W.TellWrite.trace g.met.W.TellWrite.trace_joins _ _ _ _ _ _ _ i.puts wrote;
    })

pub loop-piece-preserved : goal.loop-piece-preserved
loop-piece-preserved g c =
    let i = c.loop-piece.invariant in
    let fill = c.in_ok-count.ensures in
    let f = c.fill.new.self.body in
    let shown = fill.fills i.so.stands in
    let wrote = rw (c.piece.ensures.text (ap (λ x. x.stand) fill.within ∙ i.so.stands)) at c.in_ok-answer.ensures in
    record {
      payload = _;
      so = text_more g.R.TellRead.remaining i.so fill.within fill.fills (omega (arith, c.if-count-eq0.false))
          c.consume.ensures.within c.consume.ensures.consumes;
      len = omega (
        arith,
        c.saturating_add-len.ensures,
        i.len,
        shown.answers.0,
        length-append i.payload (take f.known f.reader.block.bytes),
        length-take-le f.known f.reader.block.bytes shown.whole.known.0,
      );
      puts = wanted_then g.W.Tell.log g.W.TellWrite.trace g.met.W.TellWrite.trace_joins _ _ _ _ _ _ _ i.puts wrote;
    }

pub returns : goal.returns
returns g c =
    let i = c.loop-piece.invariant in
    record {
      payload = i.payload;
      took = text_took g.R.TellRead.remaining i.so;
      ends = (i.so.taken.gave, omega (arith, i.so.pieces, c.loop-piece-test.false));
      len = tt;
      puts = i.puts;
    }
