-- Each turn is a read that the policy ordered and that gave bytes, so only the last read can have run dry.
use Rattle.std.proofs.Common.{◌<◌, Result, Ok, Err, suc, arith, rules, inl, inr, refl, subst, sym}
use Rattle.std.proofs.lemmas.Result.{err_from_is_err_and}
use Rattle.std.specs.declared.io.Error.{Error}
use Rattle.redux_buffer.specs.GivesRemaining.{GivesRemaining-joins}
use Rattle.buffer_redux.specs.Buffered.{Buffered}
use Rattle.buffer_redux.specs.BufReader.{InnerGives, RanDry}
use Rattle.buffer_redux.specs.Fill.{Ends, Filled, Turns}
use Rattle.buffer_redux.proofs.KnownAhead.{dry_never, err_counts_none}
use Rattle.buffer_redux.proofs.Turning.{declined_made, full_made, ordered_made}
use Rattle.buffer_redux.proofs.buf_reader.BufReader.fill.Goals as goal
use Rattle.buffer_redux.proofs.buf_reader.BufReader.fill.Goals.{After-before_read, After-read_into_buf}

-- the reader as the turns so far left it, before its policy was asked once more
abbrev seen : (g : _) → goal.After-before_read g → Buffered g.row.R.Denot g.row.P.Denot
seen g c = record {
  policy = c.self.inside.policy;
  block = c.self.inside.buf;
  inner = c.self.inside.inner;
  log = g.R.Tell.log c.self.inside.inner;
  own_calls = c.self.inside.calls.log;
}

turned : (g : _) (c : goal.After-before_read g)
    → Turns g.P.ReaderPolicy.rules c.loop-self.invariant.count c.args.self.now (seen g c)
turned g c =
    subst (Turns g.P.ReaderPolicy.rules c.loop-self.invariant.count c.args.self.now) (sym c.self.view_is)
    c.loop-self.invariant.turns

filled : (g : _) (c : goal.After-before_read g) (answer : Result (Unit {0}) Error)
    (t : Buffered g.row.R.Denot g.row.P.Denot) → Ends g.P.ReaderPolicy.rules (seen g c) answer t
    → Filled g.P.ReaderPolicy.rules c.args.self.now answer t
filled g c answer t ends =
    record { count = c.loop-self.invariant.count; last = seen g c; turns = turned g c; ends = ends }

gave : (g : _) (c : goal.After-before_read g) → InnerGives g.R.TellRead.remaining c.args.self.now (seen g c)
gave g c =
    subst (InnerGives g.R.TellRead.remaining c.args.self.now) (sym c.self.view_is) c.loop-self.invariant.known

gave_more : (g : _) (c : goal.After-read_into_buf g)
    → InnerGives g.R.TellRead.remaining c.args.self.now c.read_into_buf.new.self
gave_more g c =
    GivesRemaining-joins _ _ (g.R.TellRead.remaining c.self.inside.inner) (g.R.Tell.log c.self.inside.inner).reads _ _
    (subst (InnerGives g.R.TellRead.remaining c.args.self.now) (sym c.self.view_is) c.loop-self.invariant.known)
    c.read_into_buf.ensures.reads.known

not_dry : (g : _) (c : goal.After-before_read g) → RanDry c.args.self.now (seen g c) → ⊥
not_dry g c = dry_never g.P.ReaderPolicy.rules c.loop-self.invariant.count c.args.self.now (seen g c) (turned g c)

pub loop-self-preserved : goal.loop-self-preserved
loop-self-preserved g c =
    let at = goal.at.loop-self-preserved g c in
    record {
      count = suc c.loop-self.invariant.count;
      turns = (
        _,
        turned g at.After-before_read,
        c.in_ok-read_into_buf.field-0,
        omega (arith, c.if-branch-eq0.false),
        ordered_made g.P.ReaderPolicy.rules _ _ c.in_ok-before_read.field-0 _ _ c.in_ok-before_read.ensures
            c.if-branch.true (omega (arith, c.usable_space.ensures.value)) c.read_into_buf.ensures.reads.policy
            (Ok _) c.in_ok-read_into_buf.ensures.reads.read,
      );
      noted = search rules;
      known = gave_more g at.After-read_into_buf;
    }

pub returns-in_err-before_read : goal.returns-in_err-before_read
returns-in_err-before_read g c =
    let before = (goal.at.returns-in_err-before_read g c).After-before_read in
    let p = err_from_is_err_and c.from_residual.result c.from_residual.ensures.1 in
    record {
      filled = rw (p.1, p.2)
          (filled g before (Err _) _ (inl (record { asked = c.in_err-before_read.ensures; told = refl })));
      known = gave g before;
      end = λ rose. absurd (not_dry g before rose);
      noted = search rules;
      whole = search rules;
    }

pub returns-in_err-read_into_buf : goal.returns-in_err-read_into_buf
returns-in_err-read_into_buf g c =
    let at = goal.at.returns-in_err-read_into_buf g c in
    let before = at.After-before_read in
    let p = err_from_is_err_and c.from_residual-in_err-read_into_buf.result
    c.from_residual-in_err-read_into_buf.ensures.1 in
    let read = c.in_err-read_into_buf.ensures.reads.read in
    record {
      filled = rw (p.1, p.2) (filled g before (Err _) _ (inr (ordered_made g.P.ReaderPolicy.rules _ _
          c.in_ok-before_read.field-0 _ _ c.in_ok-before_read.ensures c.if-branch.true
          (omega (arith, c.usable_space.ensures.value)) c.read_into_buf.ensures.reads.policy (Err _) read)));
      known = gave_more g at.After-read_into_buf;
      end = λ rose.
          let same = err_counts_none _ _ _ _ _ read (omega (arith, c.usable_space.ensures.value)) in
          absurd (not_dry g before (subst (λ z. c.args.self.now.log.reads.zero_reads < z) same rose));
      noted = search rules;
      whole = search rules;
    }

pub returns-else-usable_space-gt0 : goal.returns-else-usable_space-gt0
returns-else-usable_space-gt0 g c =
    let before = (goal.at.returns-else-usable_space-gt0 g c).After-before_read in
    record {
      filled = filled g before (Ok tt) _ (inr (inl (full_made g.P.ReaderPolicy.rules _ c.in_ok-before_read.field-0 _
          c.in_ok-before_read.ensures c.if-branch.true (omega (arith, c.usable_space.ensures.value)) refl)));
      known = gave g before;
      end = λ rose. absurd (not_dry g before rose);
      noted = search rules;
      whole = search rules;
    }

pub returns-else-branch : goal.returns-else-branch
returns-else-branch g c =
    let before = (goal.at.returns-else-branch g c).After-before_read in
    record {
      filled = filled g before (Ok tt) _ (inl (declined_made g.P.ReaderPolicy.rules _ c.in_ok-before_read.field-0 _
          c.in_ok-before_read.ensures c.if-branch.false refl));
      known = gave g before;
      end = λ rose. absurd (not_dry g before rose);
      noted = search rules;
      whole = search rules;
    }

pub returns-then-branch-eq0 : goal.returns-then-branch-eq0
returns-then-branch-eq0 g c =
    let at = goal.at.returns-then-branch-eq0 g c in
    record {
      filled = filled g at.After-before_read (Ok tt) _ (inr (inr (ordered_made g.P.ReaderPolicy.rules _ _
          c.in_ok-before_read.field-0 _ _ c.in_ok-before_read.ensures c.if-branch.true
          (omega (arith, c.usable_space.ensures.value)) c.read_into_buf.ensures.reads.policy (Ok 0)
          (rw (sym c.if-branch-eq0.true) c.in_ok-read_into_buf.ensures.reads.read))));
      known = gave_more g at.After-read_into_buf;
      end = search rules;
      noted = search rules;
      whole = search rules;
    }
