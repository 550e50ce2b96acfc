-- A buffer has at most 2^62 bytes, so a product that isn't above its capacity is exact: three pieces fit.
use Rattle.std.proofs.Common.{◌*◌, ◌≤◌, arith, drop}
use Rattle.piece_reader.proofs.Handover.{piecing_small, redecoded_piecing}
use Rattle.piece_reader.specs.GrammarLaws.{noted_none}
use Rattle.piece_reader.specs.PieceReader.{ReaderState}
use Rattle.piece_reader.proofs.reader.PieceReader.set_decoder.Goals as goal
use Rattle.piece_reader.proofs.reader.PieceReader.set_decoder.Goals.{After-no_note}

pub invariant_of-result : goal.invariant_of-result
invariant_of-result g c =
    let i = c.self.inside in
    let f : ReaderState g.row.R.Denot g.row.D.Denot =
    record { reader = i.reader; decoder = i.decoder; handed = i.handed; seen = i.seen; ended = i.ended } in
    let old = g.D.Decoder.grammar i.decoder in
    let room : 3 * (g.E.Decoder.grammar c.args.decoder).most ≤ i.reader.block.capacity = omega (
      arith,
      c.if-saturating_mul-capacity.false,
      c.saturating_mul.ensures,
      c.capacity.ensures.value,
      c.most.ensures,
      piecing_small old (g.met.D.Decoder.lawful i.decoder) f c.self.invariant.0,
    ) in (
      rw c.set_policy.ensures (redecoded_piecing (g.E.Decoder.grammar c.args.decoder) (g.met.E.Decoder.lawful c.args.decoder)
          old f c.args.decoder c.self.invariant.0 room),
      noted_none (g.E.Decoder.notes c.args.decoder) (drop i.handed i.reader.block.bytes) c.no_note.result
          c.no_note.ensures,
    )

pub returns-clause-whole : goal.returns-clause-whole
returns-clause-whole g c = (invariant_of-result g (goal.at.returns-clause-whole g c).After-no_note).0
