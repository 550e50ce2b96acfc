-- Reads ahead add bytes behind those buffered, so the front that is shown begins with what was there.
use Rattle.std.proofs.Common.{◌≡◌, ◌∙◌, arith, Ok, ap, min, refl, subst, sym, take}
use Rattle.std.specs.Io.{StartsWith}
use Rattle.std.proofs.lemmas.List.{take_min}
use Rattle.redux_buffer.specs.Block.{IsBlock}
use Rattle.buffer_redux.specs.Peek.{ReadsAhead}
use Rattle.buffer_redux.proofs.AheadSteps.{ahead_as, ahead_begins}
use Rattle.buffer_redux.proofs.buf_reader.BufReader.peek.Goals as goal

pub returns : goal.returns
returns g c =
    let remaining = g.R.TellRead.remaining in
    let rules = g.P.ReaderPolicy.rules in
    let s = c.args.self.now in
    let most : c.min-n.result ≡ min c.args.n s.block.capacity =
    c.min-n.ensures ∙ ap (min c.args.n) (c.capacity.ensures.value ∙ ap (λ x. x.block.capacity) c.self.view_is) in
    let ahead = subst (λ x. ReadsAhead {A = Unit {0}} remaining rules (min c.args.n s.block.capacity) s (Ok tt) x)
    (sym c.self-2.view_is)
    (subst (λ k. ReadsAhead {A = Unit {0}} remaining rules k s (Ok tt) c.read_ahead.new.self) most
    c.in_ok-read_ahead.ensures.ahead) in
    let shown = ap (λ n. take n c.buf-shown.result.now) c.min.ensures ∙ take_min c.min-n.result c.buf-shown.result.now
    ∙ ap (take c.min-n.result) c.buf-shown.ensures ∙ ap (λ n. take n c.self-2.inside.buf.bytes) most in
    let held = s.block.bytes in
    let order = ahead.along.in_order in
    let fits = (subst (λ x. IsBlock x.block) c.self.view_is c.self.invariant).fits in
    let begins = subst (λ l. StartsWith l (take c.args.n held)) (sym shown)
    (ahead_begins held order.got _ c.args.n s.block.capacity (omega (arith, fits)) order.equal) in
    ((refl, (λ _. tt), (ahead_as remaining rules s tt _ _ ahead, shown)), record { buffered = begins; after_borrow = tt })
