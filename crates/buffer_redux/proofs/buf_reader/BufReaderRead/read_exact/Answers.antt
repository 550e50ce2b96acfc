-- Where enough is buffered and the policy wants no more, one read fills the slice; the other ways stand apart.
use Rattle.std.proofs.Common.{◌≡◌, ◌<◌, true, length, Ok, Err, refl, ap, inl, subst, sym, ◌∙◌, arith}
use Rattle.buffer_redux.specs.Buffered.{Buffered}
use Rattle.buffer_redux.specs.ReadInside.{AskedRead, ReadsInside}
use Rattle.buffer_redux.proofs.Testing.{some_of}
use Rattle.buffer_redux.proofs.ReadSteps.{keeps_length, one_read_says, asked_so, declined_did, refused_did}
use Rattle.buffer_redux.proofs.ReadAll.{all_at_once, exact_says}
use Rattle.buffer_redux.proofs.buf_reader.BufReaderRead.read_exact.Goals as goal
use Rattle.buffer_redux.proofs.buf_reader.BufReaderRead.read_exact.Goals.{After-before_read}

-- the reader once its policy was asked, which has a byte buffered and all that the slice has room for
abbrev asked_reader : (g : _) → goal.After-before_read g → Buffered g.row.R.Denot g.row.P.Denot
asked_reader g c = record {
  policy = c.before_read.new.self;
  block = c.before_read.new.buffer;
  inner = c.self-2.inside.inner;
  log = g.R.Tell.log c.self-2.inside.inner;
  own_calls = c.self-2.inside.calls.log;
}

asked : (g : _) (c : goal.After-before_read g)
    → AskedRead g.P.ReaderPolicy.rules c.before_read.result c.args.self.now (asked_reader g c)
asked g c =
    subst (λ s. AskedRead g.P.ReaderPolicy.rules c.before_read.result s (asked_reader g c)) c.self-2.view_is
    (record { asked = c.before_read.ensures; whole = c.self-2.invariant; inner = refl; told = refl; noted = refl })

offers_some : (g : _) (c : goal.After-before_read g) → 0 < length c.args.out.now
offers_some g c = some_of (length c.args.out.now) (sym c.is_empty-else-len-out.ensures ∙ c.if-is_empty-2.false)

has_some : (g : _) (c : goal.After-before_read g) → 0 < length c.args.self.now.block.bytes
has_some g c = omega (
  arith,
  c.if-len-out.false,
  c.len.ensures.value,
  offers_some g c,
  ap (λ x. length x.block.bytes) c.self.view_is,
)

pub returns-then-is_empty : goal.returns-then-is_empty
returns-then-is_empty g c = exact_says _ _ _ _ _ _ _ c.read_rest_apart.ensures.exact

-- the policy wants more
pub returns-then-more : goal.returns-then-more
returns-then-more g c =
    let before = (goal.at.returns-then-more g c).After-before_read in
    let table = g.P.ReaderPolicy.rules in
    let m = asked_reader g before in
    let is = subst (λ a. AskedRead table a c.args.self.now m) c.in-Ok.is (asked g before) in
    exact_says _ _ _ _ _ _ _ (c.read_ordered_apart.ensures.exact c.args.self.now
    (asked_so table c.args.self.now m c.in-Ok.field-0 true c.if-more.true is) (has_some g before))

-- the policy wants no more
pub returns-else-more : goal.returns-else-more
returns-else-more g c =
    let before = (goal.at.returns-else-more g c).After-before_read in
    let table = g.P.ReaderPolicy.rules in
    let remaining = g.R.TellRead.remaining in
    let n = c.hand_out-count.result in
    let out = c.hand_out-count.new.out in
    let t = c.hand_out-count.new.self in
    let h = c.hand_out-count.ensures in
    let m = asked_reader g before in
    let is = subst (λ a. AskedRead table a c.args.self.now m) c.in-Ok.is (asked g before) in
    let all : ReadsInside remaining table c.args.self.now c.args.out.now (Ok n) out t =
    (m, declined_did remaining table c.args.self.now m c.in-Ok.field-0 is n c.if-more.false, h.hands) in
    let inside = inl (has_some g before) in
    let one = one_read_says remaining table c.args.self.now c.args.out.now (Ok n) out t
    (rw (← c.self-2.view_is) c.self-2.invariant) all inside in
    let same = keeps_length remaining table c.args.self.now c.args.out.now (Ok n) out t all inside in
    let kept : length m.block.bytes ≡ length c.args.self.now.block.bytes = ap length is.asked.law.bytes in
    let long : n ≡ length out = omega (
      arith,
      same,
      h.hands.count,
      kept,
      c.if-len-out.false,
      c.len.ensures.value,
      ap (λ x. length x.block.bytes) c.self.view_is,
    ) in
    exact_says remaining table c.args.self.now c.args.out.now out t (Ok tt) (all_at_once remaining table c.args.self.now
    c.args.out.now n out t (omega (arith, same, offers_some g before)) long one)

-- the policy returned an error
pub returns-in-Err : goal.returns-in-Err
returns-in-Err g c =
    let before = (goal.at.returns-in-Err g c).After-before_read in
    let table = g.P.ReaderPolicy.rules in
    let remaining = g.R.TellRead.remaining in
    let m = asked_reader g before in
    let is = subst (λ a. AskedRead table a c.args.self.now m) c.in-Err.is (asked g before) in
    exact_says _ _ _ _ _ _ _ (c.read_on_apart.ensures.exact c.args.self.now (one_read_says remaining table c.args.self.now
    c.args.out.now (Err c.in-Err.e) c.args.out.now m (rw (← c.self-2.view_is) c.self-2.invariant)
    (refused_did remaining table c.args.self.now m c.in-Err.e is, refl)
    (inl (has_some g before))))
