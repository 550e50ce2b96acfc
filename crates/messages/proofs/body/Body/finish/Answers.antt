-- What the drain did, told of one in a body. The reader of pieces is made over the buffer and the stream, so it has left what the
-- reader of the body left.
use Rattle.std.proofs.Common.{◌≡◌, ◌≤◌, ◌*◌, ◌∙◌, ap, arith, ◌++◌, refl, sym}
use Rattle.messages.specs.Names.{left_of, room_of, unbuffered, with_limit}
use Rattle.messages.proofs.Inside.{body_goes, body_kept, body_room, body_still, sized_took}
use Rattle.messages.proofs.body.Body.finish.Goals as goal

pub invariant_of-result : goal.invariant_of-result
invariant_of-result g c =
    (c.self.invariant.0, c.self.invariant.1, body_room c.in-Err.ensures.drains.takes.went c.self.invariant.2)

-- the reader of pieces has just the stream and the buffer of the reader that drained
over : (g : _) (c : goal.After-before-in-Ok-with_buffer g)
    → (left_of c.in-Ok-with_buffer.pieces ≡ unbuffered c.in-Ok.ensures.drains.0.reader)
    × (c.in-Ok-with_buffer.pieces.reader.block ≡ c.in-Ok.ensures.drains.0.reader.block)
over g c =
    let left = c.in-Ok.ensures.drains in
    let i = c.into_inner_with_buffer-inner.ensures in
    let made = c.in-Ok-with_buffer.ensures.made in
    let same = i.block ∙ ap (λ r. r.block) left.2 in
    let roomy = body_room left.1.takes.went c.self.invariant.2 in
    let buffer = c.into_inner_with_buffer-inner.result.1 in
    let capacity = ap (λ b. b.capacity) same in
    let fits : 3 * 16384 ≤ buffer.capacity = omega (arith, roomy.capacity, capacity) in (
      made.left ∙ rw (i.block, i.log, i.inner, left.2) refl,
      made.kept (ap (λ b. b.kind) same ∙ roomy.kind) fits
          ∙ ap (with_limit buffer) (sym (ap (λ b. b.limit) same ∙ roomy.limit ∙ sym capacity)) ∙ same,
    )

pub returns-in-Ok-with_buffer-clause-in_order : goal.returns-in-Ok-with_buffer-clause-in_order
returns-in-Ok-with_buffer-clause-in_order g c =
    let end = c.in-Ok.ensures.drains in
    let order = end.1.takes.went.along.in_order in
    rw (c.before-in-Ok-with_buffer.ensures, ← c.self.view_is) (
      end.1.takes.went.wire,
      order.got,
      ap (λ u. u.log.reads.given) (over g c).0 ∙ order.given,
      ap (λ u. end.1.takes.went.wire ++ u.left) (over g c).0 ∙ order.equal,
      sized_took c.get_ref.ensures.whole end.1.takes.whole end.1.takes.went end.1.answers.1,
    )

pub returns-in-Ok-with_buffer-clause-ends : goal.returns-in-Ok-with_buffer-clause-ends
returns-in-Ok-with_buffer-clause-ends g c =
    let end = c.in-Ok.ensures.drains in
    rw (c.before-in-Ok-with_buffer.ensures, ← c.self.view_is)
    (record { end = end.0; drains = end.1; left = (over g c).0 })

pub returns-in-Ok-with_buffer-clause-room : goal.returns-in-Ok-with_buffer-clause-room
returns-in-Ok-with_buffer-clause-room g c =
    rw (c.before-in-Ok-with_buffer.ensures, ← c.self.view_is)
    (ap room_of (over g c).1 ∙ body_kept c.in-Ok.ensures.drains.1.takes.went c.self.invariant.2)

pub returns-in-Ok-with_buffer-clause-moved : goal.returns-in-Ok-with_buffer-clause-moved
returns-in-Ok-with_buffer-clause-moved g c =
    rw (c.before-in-Ok-with_buffer.ensures, ← c.self.view_is)
    (ap (λ b. b.moved) (over g c).1 ∙ body_still c.in-Ok.ensures.drains.1.takes.went c.self.invariant.2)

pub returns-in-Err-clause-ends : goal.returns-in-Err-clause-ends
returns-in-Err-clause-ends g c =
    let drains = c.in-Err.ensures.drains in
    rw (c.unread-why.ensures, c.place.ensures, ← c.self.view_is) (record {
      why = c.in-Err.e;
      told = refl;
      drains = drains;
      goes = body_goes drains.takes.went c.self.invariant.2 drains.takes.whole;
    })
