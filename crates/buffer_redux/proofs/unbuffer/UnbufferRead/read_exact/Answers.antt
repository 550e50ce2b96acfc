-- No bytes are no read; else reads that are made again, and go on, join the first one.
use Rattle.std.proofs.Common.{◌≡◌, [], length, le_refl, sym, ◌∙◌}
use Rattle.std.proofs.lemmas.List.{nil_from_length}
use Rattle.buffer_redux.specs.ReadAll.{FillsSlice}
use Rattle.buffer_redux.specs.Unbuffer.{UnbufferHands, UnbufferReads}
use Rattle.buffer_redux.specs.UnbufferLaws.{UnbufferHands-joins, UnbufferHands-none, UnbufferReads-tells}
use Rattle.buffer_redux.proofs.ReadAll.{ended_all, turned_none}
use Rattle.buffer_redux.proofs.Testing.{zero_of}
use Rattle.buffer_redux.proofs.Unbuffering.{all_out, unbuffer_caused, unbuffer_few, unbuffer_often, unbuffer_read}
use Rattle.buffer_redux.proofs.unbuffer.UnbufferRead.read_exact.Goals as goal
use Rattle.buffer_redux.proofs.unbuffer.UnbufferRead.read_exact.Goals.{After-fill_on}

pub returns-then-is_empty-clause-steps : goal.returns-then-is_empty-clause-steps
returns-then-is_empty-clause-steps g c =
    let remaining = g.R.TellRead.remaining in
    let s = c.args.self.now in
    let empty : c.args.out.now ≡ [] = nil_from_length c.args.out.now
    (zero_of (length c.args.out.now) (sym c.is_empty.ensures ∙ c.if-is_empty.true)) in
    rw empty (ended_all _ _ (UnbufferHands-joins remaining) (UnbufferReads-tells remaining) s [] 0 0 [] s
    (turned_none _ _ s [] (UnbufferHands-none remaining s)) (le_refl 0))

fills : (g : _) (c : After-fill_on g) → FillsSlice (UnbufferReads g.R.TellRead.remaining) (UnbufferHands g.R.TellRead.remaining)
    c.args.self.now c.args.out.now c.fill_on.result c.fill_on.new.out c.fill_on.new.reader
fills g c =
    let r = c.read-answer.ensures in
    let remaining = g.R.TellRead.remaining in
    c.fill_on.ensures.fills c.args.self.now c.args.out.now (UnbufferHands-none remaining c.args.self.now)
    (unbuffer_read remaining _ _ _ c.read-answer.new.out _ c.read-answer.auto.out r.bound r.bytes r.in_order r.left r.asked)

pub returns-clause-in_order : goal.returns-clause-in_order
returns-clause-in_order g c =
    (all_out _ _ _ _ _ _ (fills g (goal.at.returns-clause-in_order g c).After-fill_on)).0

pub returns-clause-bytes : goal.returns-clause-bytes
returns-clause-bytes g c =
    (all_out _ _ _ _ _ _ (fills g (goal.at.returns-clause-bytes g c).After-fill_on)).1

pub returns-clause-few : goal.returns-clause-few
returns-clause-few g c =
    unbuffer_few _ _ _ _ _ _ (fills g (goal.at.returns-clause-few g c).After-fill_on)

pub returns-clause-often : goal.returns-clause-often
returns-clause-often g c =
    unbuffer_often _ _ _ _ _ _ (fills g (goal.at.returns-clause-often g c).After-fill_on)

pub returns-clause-caused : goal.returns-clause-caused
returns-clause-caused g c =
    unbuffer_caused _ _ _ _ _ _ (fills g (goal.at.returns-clause-caused g c).After-fill_on)
