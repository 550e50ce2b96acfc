-- Lines with their ends are a text of just these lines, and a reader of memory meets no fault.
use Rattle.std.proofs.Common.{◌+◌, map, ap, inl, sym, subst, Some, ◌∙◌}
use Rattle.std.specs.List.{All}
use Rattle.buffer_redux.specs.Memory.{reader-faultless}
use Rattle.codec.specs.KnownPayloadsLaws.{read_refused}
use Rattle.piece_reader.specs.KnownPieces.{BufferRefused}
use Rattle.piece_reader.specs.KnownPiecesLaws.{IsFresh-left}
use Rattle.line_reader.specs.Lines.{FitsLine, HasLines}
use Rattle.line_reader.specs.LineReader.{lined}
use Rattle.line_reader.specs.TextLaws.{Lines-with_ends, all_plain, pieces_of}
use Rattle.line_play.proofs.lists.read_back.Goals as goal

pub read_each-read-requires : goal.read_each-read-requires
read_each-read-requires c =
    let max = c.args.max in
    let lines = map (λ v. v.items) c.args.lines.now in
    let made = c.in_ok-reader.ensures in
    let f = c.in_ok-reader.reader.pieces in
    let text = c.args.text.now in
    let has : HasLines text lines =
    subst (λ l. HasLines l lines) (sym c.requires.text) (Lines-with_ends lines (all_plain max lines c.requires.fit)) in
    record {
      left = (
        IsFresh-left _ (lined f.decoder.max) _ 8192 (1 + max) c.new.result f.decoder f text lines made.made
            (ap (λ l. Some l) c.new.ensures.bytes)
            (pieces_of f.decoder.max text lines has (subst (λ n. All (FitsLine n) lines) (sym made.max) c.requires.fit)),
        made.going,
      );
    }

pub returns-clause-refused : goal.returns-clause-refused
returns-clause-refused c =
    let none = ap (λ l. l.reads.faults) (sym c.get_ref.ensures.log) ∙ reader-faultless c.get_ref.result.now in
    read_refused _ _ _ _ _ _ none (BufferRefused _) (λ e memory. inl memory) _ c.read_each-read.result
    c.read_each-read.ensures.stopped
