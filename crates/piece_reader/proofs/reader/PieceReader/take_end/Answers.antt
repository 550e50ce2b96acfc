-- All that is buffered is handed out, so nothing is left, as the invariant wants it at an untold end.
use Rattle.std.proofs.Common.{drop, true, subst}
use Rattle.piece_reader.specs.GrammarLaws.{noted_none}
use Rattle.piece_reader.specs.PieceReader.{ReaderState, IsPieceReader}
use Rattle.piece_reader.proofs.Taking.{ended_whole}
use Rattle.piece_reader.proofs.reader.PieceReader.take_end.Goals as goal

pub invariant_of-self-in-Last : goal.invariant_of-self-in-Last
invariant_of-self-in-Last g c =
    let i = c.self.inside in
    let f : ReaderState g.row.R.Denot g.row.D.Denot =
    record { reader = i.reader; decoder = i.decoder; handed = i.handed; seen = i.seen; ended = i.ended } in (
      ended_whole (g.D.Decoder.grammar i.decoder) (g.met.D.Decoder.lawful i.decoder) f c.self.invariant.0 c.buf_len-len.result
          c.buf_len-len.ensures.value,
      noted_none (g.D.Decoder.notes i.decoder) (drop c.buf_len-len.result i.reader.block.bytes) c.no_note-self-inside.result
          c.no_note-self-inside.ensures,
    )

pub returns-in-Last-clause-whole : goal.returns-in-Last-clause-whole
returns-in-Last-clause-whole g c =
    let i = c.self.inside in
    let new : ReaderState g.row.R.Denot g.row.D.Denot =
    record { reader = i.reader; decoder = i.decoder; handed = c.buf_len-len.result; seen = 0; ended = true } in
    subst (λ x. IsPieceReader (g.D.Decoder.grammar x.decoder) new) c.self.view_is (invariant_of-self-in-Last g c).0
