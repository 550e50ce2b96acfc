-- Past the buffer it is the inner read; inside it is a fill, begun by the policy's answer, and at Ok a hand-out.
use Rattle.std.proofs.Common.{true, length, Ok, Err, inl, inr, refl, ap, subst, arith, rules}
use Rattle.std.proofs.lemmas.Bool.{cases_lt}
use Rattle.std.proofs.lemmas.Result.{err_from_is_err_and}
use Rattle.buffer_redux.specs.Buffered.{Buffered, StaysInside}
use Rattle.buffer_redux.specs.ReadInside.{AskedRead, FillDone}
use Rattle.buffer_redux.proofs.FillFacts.{ReadsInOrder-direct}
use Rattle.buffer_redux.proofs.ReadSteps.{says, asked_so, declined_did, full_did, refused_did}
use Rattle.buffer_redux.proofs.buf_reader.BufReaderRead.read.Goals as goal
use Rattle.buffer_redux.proofs.buf_reader.BufReaderRead.read.Goals.{After-before_read, else-is_empty-via-then-is_empty+else-out-capacity, else-is_empty-via-else-is_empty, else-branch-via-then-branch+else-usable_space-gt0, else-branch-via-else-branch}

-- the reader once its policy was asked, the slice not being for a read past the buffer
abbrev asked_reader : (g : _) → goal.After-before_read g → Buffered g.row.R.Denot g.row.P.Denot
asked_reader g c = record {
  policy = c.before_read.new.self;
  block = c.before_read.new.buffer;
  inner = c.self.inside.inner;
  log = g.R.Tell.log c.self.inside.inner;
  own_calls = c.self.inside.calls.log;
}

asked : (g : _) (c : goal.After-before_read g)
    → AskedRead g.P.ReaderPolicy.rules c.before_read.result c.args.self.now (asked_reader g c)
asked g c =
    subst (λ s. AskedRead g.P.ReaderPolicy.rules c.before_read.result s (asked_reader g c)) c.self.view_is (record
    { asked = c.before_read.ensures; whole = c.self.invariant; inner = refl; told = refl; noted = refl })

inside : (g : _) (c : goal.After-before_read g) → StaysInside c.args.self.now.block (length c.args.out.now)
inside g c =
    let s = c.args.self.now in
    elim c.else-is_empty.branch [
      | else-is_empty-via-then-is_empty+else-out-capacity w ↦
          inr (omega (
            arith,
            w.if-out-capacity.false,
            w.capacity.ensures.value,
            ap (λ x. x.block.capacity) c.self.view_is,
          ))
      | else-is_empty-via-else-is_empty w ↦ elim (cases_lt 0 (length s.block.bytes)) [
        | inl some ↦ inl some
        | inr few ↦
            (let is_so = c.is_empty.ensures.value.1 (omega (arith, few, ap (λ x. length x.block.bytes) c.self.view_is)) in
            let is_not = w.if-is_empty.false in cc)
      ]
    ]

pub returns-then-out-capacity-clause-in_order : goal.returns-then-out-capacity-clause-in_order
returns-then-out-capacity-clause-in_order g c =
    rw (← c.self.view_is) (ReadsInOrder-direct _ _ _ _ (record {
      policy = refl;
      block = refl;
      bound = search rules;
      told = c.read_told.ensures.told;
    })
    (c.is_empty.ensures.value.0 c.if-is_empty.true))

-- the policy returned an error
pub returns-in_err-before_read : goal.returns-in_err-before_read
returns-in_err-before_read g c =
    let before = (goal.at.returns-in_err-before_read g c).After-before_read in
    let table = g.P.ReaderPolicy.rules in
    let p = err_from_is_err_and c.from_residual.result c.from_residual.ensures.1 in
    let e = c.in_err-before_read.field-0.0 in
    let m = asked_reader g before in
    rw (p.1, p.2) (says g.R.TellRead.remaining table c.args.self.now c.args.out.now (Err e) c.args.out.now m (
      refused_did g.R.TellRead.remaining table c.args.self.now m e
          (subst (λ a. AskedRead table a c.args.self.now m) c.in_err-before_read.was (asked g before)),
      refl,
    )
    (inside g before))

-- the fill goes on
pub returns-then-usable_space-gt0 : goal.returns-then-usable_space-gt0
returns-then-usable_space-gt0 g c =
    let before = (goal.at.returns-then-usable_space-gt0 g c).After-before_read in
    let table = g.P.ReaderPolicy.rules in
    let m = asked_reader g before in
    let is = subst (λ a. AskedRead table a c.args.self.now m) c.in_ok-before_read.was (asked g before) in
    says g.R.TellRead.remaining table c.args.self.now c.args.out.now c.read_apart.result c.read_apart.new.out
    c.read_apart.new.self (c.read_apart.ensures.read c.args.self.now
    (asked_so table c.args.self.now m c.in_ok-before_read.field-0 true c.if-branch.true is)) (inside g before)

-- the policy said no, or left no room
pub returns : goal.returns
returns g c =
    let before = (goal.at.returns g c).After-before_read in
    let table = g.P.ReaderPolicy.rules in
    let remaining = g.R.TellRead.remaining in
    let d = c.in_ok-before_read.field-0 in
    let m = asked_reader g before in
    let is = subst (λ a. AskedRead table a c.args.self.now m) c.in_ok-before_read.was (asked g before) in
    let fill : FillDone remaining table c.args.self.now (Ok c.hand_out.result) c.else-branch.self =
    elim c.else-branch.branch [
      | else-branch-via-then-branch+else-usable_space-gt0 w ↦ rw w.self-is (full_did remaining table c.args.self.now m d
          is c.hand_out.result w.if-branch.true
          (omega (arith, w.usable_space.ensures.value, w.if-usable_space-gt0.false)))
      | else-branch-via-else-branch w ↦ rw w.self-is (declined_did remaining table c.args.self.now m d is
          c.hand_out.result w.if-branch.false)
    ] in
    says remaining table c.args.self.now c.args.out.now (Ok c.hand_out.result) c.hand_out.new.out c.hand_out.new.self
    (c.else-branch.self, fill, c.hand_out.ensures.hands) (inside g before)
