-- Behind a piece nothing counts as looked at; where more is wanted all that is left does, and is open.
use Rattle.std.proofs.Common.{◌+◌, ap, arith, drop, sym, subst, ◌∙◌, length}
use Rattle.std.proofs.lemmas.List.{take_all}
use Rattle.piece_reader.specs.Decoding.{Decodes, OnMore}
use Rattle.piece_reader.specs.Grammar.{IsOpen}
use Rattle.piece_reader.specs.GrammarLaws.{noted_none, open_of}
use Rattle.piece_reader.specs.PieceReader.{ReaderState, IsPieceReader, rest}
use Rattle.piece_reader.specs.declared.decoder.Found.TheVariants as found
use Rattle.piece_reader.proofs.Taking.{taken_whole, looked_whole}
use Rattle.piece_reader.proofs.reader.PieceReader.take.Goals as goal

pub invariant_of-self : goal.invariant_of-self
invariant_of-self g c =
    let i = c.self.inside in
    let f : ReaderState g.row.R.Denot g.row.D.Denot =
    record { reader = i.reader; decoder = i.decoder; handed = i.handed; seen = i.seen; ended = i.ended } in
    let gram = g.D.Decoder.grammar i.decoder in
    let left = c.rest-left.ensures.value ∙ ap rest (sym c.self.view_is) in
    let is = subst (Decodes gram c.rest-left.result.now) c.in-Piece.is c.decode-found.ensures.finds in (
      taken_whole gram (g.met.D.Decoder.lawful i.decoder) f c.self.invariant.0 c.in-Piece.field-0 c.in-Piece.used
          (subst (λ l. Decodes gram l (found.Piece c.in-Piece.field-0 c.in-Piece.used)) left is),
      noted_none (g.D.Decoder.notes i.decoder) (drop (i.handed + c.in-Piece.used) i.reader.block.bytes)
          c.no_note-self-inside.result
          c.no_note-self-inside.ensures,
    )

pub invariant_of-self-in-More : goal.invariant_of-self-in-More
invariant_of-self-in-More g c =
    let i = c.self.inside in
    let f : ReaderState g.row.R.Denot g.row.D.Denot =
    record { reader = i.reader; decoder = i.decoder; handed = i.handed; seen = i.seen; ended = i.ended } in
    let gram = g.D.Decoder.grammar i.decoder in
    let left = c.rest-left.ensures.value ∙ ap rest (sym c.self.view_is) in
    let is = subst (Decodes gram c.rest-left.result.now) c.in-More.is c.decode-found.ensures.finds in (
      looked_whole gram (g.met.D.Decoder.lawful i.decoder) f c.self.invariant.0 (length c.rest-left.result.now) (ap length left)
          (subst (IsOpen gram) left (open_of gram c.in-More.field-0 c.rest-left.result.now is.0 is.2)),
      subst (λ l. g.D.Decoder.notes i.decoder l c.decode-found.new.note)
          (left ∙ sym (take_all (length c.rest-left.result.now) (rest f) (omega (arith, ap length left))))
          (subst (λ r. OnMore r (λ _. g.D.Decoder.notes i.decoder c.rest-left.result.now c.decode-found.new.note)) c.in-More.is
          c.decode-found.ensures.leaves),
    )

pub returns-in-Piece-clause-whole : goal.returns-in-Piece-clause-whole
returns-in-Piece-clause-whole g c =
    let i = c.self.inside in
    let new : ReaderState g.row.R.Denot g.row.D.Denot =
    record { reader = i.reader; decoder = i.decoder; handed = i.handed + c.in-Piece.used; seen = 0; ended = i.ended } in
    subst (λ x. IsPieceReader (g.D.Decoder.grammar x.decoder) new) c.self.view_is (invariant_of-self g c).0

pub returns-in-More-clause-whole : goal.returns-in-More-clause-whole
returns-in-More-clause-whole g c =
    let i = c.self.inside in
    let new : ReaderState g.row.R.Denot g.row.D.Denot = record {
      reader = i.reader;
      decoder = i.decoder;
      handed = i.handed;
      seen = length c.rest-left.result.now;
      ended = i.ended;
    } in
    subst (λ x. IsPieceReader (g.D.Decoder.grammar x.decoder) new) c.self.view_is (invariant_of-self-in-More g c).0
