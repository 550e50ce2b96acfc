-- Each turn had room for all that lacked, and gave bytes; a fault or a read of none is the last one.
use Rattle.std.proofs.Common.{ℕ, ◌-◌, ◌∙◌, length, Result, Ok, Err, arith, rules, ap, subst}
use Rattle.std.proofs.lemmas.Result.{err_from_is_err_and}
use Rattle.std.specs.declared.io.Error.{Error}
use Rattle.buffer_redux.specs.BufReader.{ReadsIntoBuf}
use Rattle.buffer_redux.specs.Sparing.{Spared}
use Rattle.buffer_redux.proofs.AheadSteps.{AsksOnce, MakesRoomFor, ahead_dry, ahead_failed, makes_room, turns_more}
use Rattle.buffer_redux.proofs.buf_reader.BufReader.read_ahead_slowly.Goals as goal
use Rattle.buffer_redux.proofs.buf_reader.BufReader.read_ahead_slowly.Goals.{After-read_into_buf}

asked : (g : _) (c : goal.After-read_into_buf g) (answer : Result ℕ Error)
    → ReadsIntoBuf g.R.TellRead.remaining c.make_room_for.new.self answer c.read_into_buf.new.self
    → ((keep : ℕ) → Spared keep c.make_room_for.new.self c.read_into_buf.new.self)
    → AsksOnce g.R.TellRead.remaining g.P.ReaderPolicy.rules c.args.n c.args.self.now c.loop-self.self
    c.make_room_for.new.self answer c.read_into_buf.new.self
asked g c answer reads spared = record {
  turns = c.loop-self.invariant.turns;
  few = omega (arith, c.len.ensures.value, c.loop-self-test.true, ap (λ x. length x.block.bytes) c.self.view_is);
  fits = c.requires.fits;
  room = subst (λ k. MakesRoomFor (c.args.n - k) c.loop-self.self c.make_room_for.new.self)
      (c.len-in-loop-self.ensures.value ∙ ap (λ x. length x.block.bytes) c.self.view_is)
      (makes_room _ c.loop-self.self c.make_room_for.new.self (search rules) c.make_room_for.ensures.enough
      c.make_room_for.ensures.lacking);
  reads = reads;
  spared = spared;
}

pub loop-self-preserved : goal.loop-self-preserved
loop-self-preserved g c =
    let at = (goal.at.loop-self-preserved g c).After-read_into_buf in record {
      turns = turns_more _ _ _ _ _ _ c.in_ok-read_into_buf.field-0 _
          (asked g at (Ok c.in_ok-read_into_buf.field-0) c.in_ok-read_into_buf.ensures.reads
          c.in_ok-read_into_buf.ensures.spared) c.if-branch-eq0.false;
    }

pub returns-in_err-read_into_buf : goal.returns-in_err-read_into_buf
returns-in_err-read_into_buf g c =
    let at = (goal.at.returns-in_err-read_into_buf g c).After-read_into_buf in
    let p = err_from_is_err_and c.from_residual.result c.from_residual.ensures.1 in
    rw (p.1, p.2) (record {
      ahead = ahead_failed _ _ _ _ _ _ _ _ (asked g at (Err _) c.in_err-read_into_buf.ensures.reads
          c.in_err-read_into_buf.ensures.spared);
    })

pub returns-then-branch-eq0 : goal.returns-then-branch-eq0
returns-then-branch-eq0 g c =
    let at = (goal.at.returns-then-branch-eq0 g c).After-read_into_buf in record {
      ahead = ahead_dry _ _ _ _ _ _ c.in_ok-read_into_buf.field-0 _ tt
          (asked g at (Ok c.in_ok-read_into_buf.field-0) c.in_ok-read_into_buf.ensures.reads
          c.in_ok-read_into_buf.ensures.spared) c.if-branch-eq0.true;
    }
