-- A line goes on just where `find` says so, so what was accepted is what goes on of the lines so far.
use Rattle.std.proofs.Common.{◌≡◌, ◌∙◌, ◌<◌, ℕ, List, Ok, [], ◌∷◌, ◌++◌, length, inl, inr, ap, arith, refl, sym, length-append}
use Rattle.std.proofs.lemmas.Result.{err_from_is_err_and}
use Rattle.buffer_redux.specs.LineWriter.{line_rules}
use Rattle.buffer_redux.specs.BufWriter.{WritesAlong}
use Rattle.buffer_redux.specs.ReaderLaws.{WantsBytes-std}
use Rattle.buffer_redux.specs.ReadUntil.{Lacks}
use Rattle.buffer_redux.specs.UntilLaws.{ReadsUntil-end}
use Rattle.buffer_redux.specs.WritesAlongLaws.{WritesAlong-joins, WritesAlong-none}
use Rattle.uses.specs.Filter.{LineGoesThrough}
use Rattle.uses.proofs.Filtering.{AllGoOn-more, has_word, line_unflushed}
use Rattle.uses.proofs.Lines.{HandsLines-along, HandsLines-more}
use Rattle.uses.proofs.filter.matching.Goals.{else-is_some, then-is_some+in_ok-write_all}
use Rattle.uses.proofs.filter.matching.Goals as goal

pub loop-init : goal.loop-init
loop-init g c = record {
  lines = [];
  counted = refl;
  went = record {
    hands = refl;
    out = [];
    goes_on = refl;
    along = WritesAlong-none _ _ _ g.met.W.TellWrite.trace_none _;
    sent = λ before. before;
    unflushed = refl;
  };
}

pub loop-preserved : goal.loop-preserved
loop-preserved g c =
    let i = c.loop.invariant in
    let m = c.loop.writer in
    let v = c.if-is_some.writer in
    let word = c.args.word.now in
    let line = c.read_until.new.out.items in
    let reads = rw c.clear.ensures.items at c.in_ok-read_until.ensures.until in
    let has = has_word word line c.find.result (rw c.deref.ensures.value at c.find.ensures) in
    let goes : (first : List ℕ) × LineGoesThrough word line first
    × WritesAlong g.W.Tell.log g.W.TellWrite.trace line_rules m first v × (v.log.writes.flushes ≡ m.log.writes.flushes)
    × (Lacks 10 m.block.bytes → Lacks 10 v.block.bytes) =
    elim c.if-is_some.branch [
      | then-is_some+in_ok-write_all w ↦
          let wrote = rw w.deref-then-is_some.ensures.value at w.in_ok-write_all.ensures in (
            line,
            inl (has.0 (sym c.is_some.ensures ∙ w.if-is_some.true), refl),
            rw w.writer-is wrote.all,
            rw w.writer-is (line_unflushed g.W.Tell.log g.W.TellWrite.trace line_rules (Ok tt) _ line m wrote.steps),
            λ _. rw w.writer-is wrote.sent,
          )
      | else-is_some w ↦ (
        [],
        inr (has.1 (sym c.is_some.ensures ∙ w.if-is_some.false), refl),
        rw w.writer-is (WritesAlong-none _ _ _ g.met.W.TellWrite.trace_none _),
        ap (λ x. x.log.writes.flushes) w.writer-is,
        λ before. rw w.writer-is before,
      )
    ] in
    record {
      lines = i.lines ++ line ∷ [];
      counted = omega (arith, i.counted, length-append i.lines (line ∷ []));
      went = record {
        hands = HandsLines-more _ _ i.lines line _ _ _ i.went.hands (_, reads)
            (omega (arith, reads.count, ap length reads.appended, c.if-branch-eq0.false));
        out = i.went.out ++ goes.0;
        goes_on = AllGoOn-more word i.lines line i.went.out goes.0 i.went.goes_on goes.1;
        along = WritesAlong-joins _ _ _ g.met.W.TellWrite.trace_joins _ m v i.went.out goes.0 i.went.along goes.2;
        sent = λ before. goes.4 (i.went.sent before);
        unflushed = goes.3 ∙ i.went.unflushed;
      };
    }

-- no more lines came
pub returns-then-branch-eq0 : goal.returns-then-branch-eq0
returns-then-branch-eq0 g c =
    let i = c.loop.invariant in
    let along = HandsLines-along _ _ i.lines _ _ i.went.hands in
    let reads = rw (c.clear.ensures.items, c.if-branch-eq0.true) at c.in_ok-read_until.ensures.until in
    let (none, end) = ReadsUntil-end _ _ 10 _ _ _ _ reads (WantsBytes-std c.loop.reader.policy)
    (omega (arith, c.requires.capacity, along.capacity)) in
    (i.lines, c.loop.reader, c.loop.writer, i.went, inl ((0, rw none at reads), end, c.flush.ensures.flushed))

pub returns-in_err-read_until : goal.returns-in_err-read_until
returns-in_err-read_until g c =
    let i = c.loop.invariant in
    let p = err_from_is_err_and c.from_residual.result c.from_residual.ensures.1 in
    let failed = rw c.clear.ensures.items at c.in_err-read_until.ensures.until in
    rw (p.1, p.2) (i.lines, c.loop.reader, c.loop.writer, i.went, inr (inl (inl (_, failed), refl)))

-- the write of the next line, which has the word, failed
pub returns-in_err-write_all : goal.returns-in_err-write_all
returns-in_err-write_all g c =
    let i = c.loop.invariant in
    let p = err_from_is_err_and c.from_residual-in_err-write_all.result c.from_residual-in_err-write_all.ensures.1 in
    let line = c.read_until.new.out.items in
    let reads = rw c.clear.ensures.items at c.in_ok-read_until.ensures.until in
    let has = has_word c.args.word.now line c.find.result (rw c.deref.ensures.value at c.find.ensures) in
    let some : 0 < length line = omega (arith, reads.count, ap length reads.appended, c.if-branch-eq0.false) in
    let failed = rw c.deref-then-is_some.ensures.value at c.in_err-write_all.ensures.steps in
    rw (p.1, p.2) (
      i.lines,
      c.loop.reader,
      c.loop.writer,
      i.went,
      inr (inr (line, (_, reads), some, has.0 (sym c.is_some.ensures ∙ c.if-is_some.true), failed)),
    )

-- too many lines came
pub returns : goal.returns
returns g c =
    let i = c.loop.invariant in (
      i.lines,
      c.loop.reader,
      c.loop.writer,
      i.went,
      inr (inl (inr (c.from.ensures, omega (arith, i.counted, c.loop-test.false), refl {a = c.loop.reader}), refl)),
    )
