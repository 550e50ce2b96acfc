-- The bytes lent are a head, so it is read and fits its room; the body begins in what is left behind it.
use Rattle.std.proofs.Common.{◌≡◌, ◌++◌, rules, ap, ◌∙◌, refl}
use Rattle.messages.specs.Names.{entering, Plain}
use Rattle.messages.specs.MessagesLaws.{same_room}
use Rattle.messages.proofs.requests.Requests.enter.Goals as goal

pub unreachable-requires : goal.unreachable-requires
unreachable-requires g c =
    let head = rw (← c.self.view_is) at c.requires.head in
    c.in_default.ensures.none head.said (rw (c.decoder.ensures, c.lent-lent.ensures) head.is)

pub returns-clause-begun : goal.returns-clause-begun
returns-clause-begun g c =
    let t = c.self.inside.pieces in
    let head = c.append.new.self.bytes in
    let apart = c.into_inner_with_buffer-inner.ensures.apart in
    let plain : t.reader.block.kind ≡ Plain = search rules in
    let lent : head ≡ c.lent-lent.result.now =
    c.append.ensures.bytes.bytes ∙ ap (λ l. l ++ c.lent-lent.result.now) c.clear.ensures.bytes.bytes in
    let is = c.new.ensures.enters in
    rw (is, ← c.self.view_is) (λ s next.
    let same : c.decoder.result.now.0 ≡ s.decoder.0 = ap (λ d. d.0) (c.decoder.ensures ∙ next.went.decoder) in
    record {
      behind = t;
      next = rw (lent, c.lent-lent.ensures) next;
      stream = rw (c.with_buffer.ensures, apart.bytes, apart.log, apart.inner) refl;
      room = rw c.with_buffer.ensures (same_room c.into_inner_with_buffer-inner.result.1 s.reader.block
          (apart.capacity ∙ next.went.capacity) (apart.limit ∙ next.went.limit));
      moved = rw c.with_buffer.ensures (rw plain at apart.moved);
      is = rw (← same, lent) c.in-Ok.ensures.head;
      enters = record {
        is = ap (λ l. entering c.with_buffer.result l head c.in-Ok.said) same;
        whole = rw is at c.new.ensures.whole;
      };
    })
