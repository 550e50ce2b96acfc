-- The second writer has unsent what the first one had, so what both take in joins.
use Rattle.std.proofs.Common.{◌≡◌, ◌≤◌, rules}
use Rattle.buffer_redux.specs.Unbuffer.{unbuffered}
use Rattle.buffer_redux.specs.UnbufferLaws.{WritesInOrder-over}
use Rattle.codec.specs.Encoding.{all_coded}
use Rattle.codec.proofs.Handover.{on_ok}
use Rattle.codec.proofs.laws.written_over.Goals as goal

pub returns-clause-took : goal.returns-clause-took
returns-clause-took g c =
    let old = c.args.writer.writer in
    on_ok (λ next. (unbuffered next.writer ≡ unbuffered old) × (next.writer.block.consumed ≤ old.block.consumed)) _
    (λ next (same, fewer) first last payloads later p q.
    let h = all_coded (g.E.Encoder.encoding c.args.writer.encoder) payloads in
    let k = all_coded (g.F.Encoder.encoding c.args.encoder) later in
    WritesInOrder-over first.writer old next.writer last.writer h k same fewer p.in_order q.in_order)
    c.with_buffer.result (search rules)
