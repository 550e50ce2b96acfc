-- Nothing was handed out or looked at, so the clauses of the fitted buffer make the invariant.
use Rattle.std.proofs.Common.{ap, drop, refl, ◌∙◌}
use Rattle.piece_reader.specs.GrammarLaws.{noted_none}
use Rattle.piece_reader.specs.PieceReader.{room_for}
use Rattle.piece_reader.proofs.Handover.{over_piecing}
use Rattle.piece_reader.proofs.reader.PieceReader.with_buffer.Goals as goal

pub invariant_of-result : goal.invariant_of-result
invariant_of-result g c =
    let size = c.args.buffer.capacity in
    let room = ap (room_for size) c.most.ensures in (
      rw (c.set_policy.ensures, c.with_buffer.ensures)
          (over_piecing (g.D.Decoder.grammar c.args.decoder) (g.met.D.Decoder.lawful c.args.decoder) _ c.args.decoder size
          c.in-Ok.ensures.whole c.in-Ok.ensures.plain (c.in-Ok.ensures.capacity ∙ room) (c.in-Ok.ensures.limit ∙ room) refl),
      noted_none (g.D.Decoder.notes c.args.decoder) (drop 0 c.set_policy.result.block.bytes) c.no_note.result c.no_note.ensures,
    )

pub returns-in-Ok-clause-whole : goal.returns-in-Ok-clause-whole
returns-in-Ok-clause-whole g c = (invariant_of-result g c).0
