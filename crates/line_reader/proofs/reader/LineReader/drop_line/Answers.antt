-- What was looked at holds no end, so the search begins behind it, and finds the first end of what is left.
use Rattle.std.proofs.Common.{◌≡◌, true, false, ap, arith, length, subst, sym, take, ◌∙◌}
use Rattle.std.proofs.lemmas.List.{take_all}
use Rattle.piece_reader.specs.DelimitedLaws.{open_plain}
use Rattle.piece_reader.specs.Plain.{EndsAt, IsPlain}
use Rattle.piece_reader.specs.PieceReader.{IsPieceReader, rest}
use Rattle.line_reader.specs.Lines.{IsLine, newline}
use Rattle.line_reader.specs.LineReader.{lined}
use Rattle.line_reader.specs.SkipLine.{DropsLine}
use Rattle.line_reader.proofs.reader.LineReader.drop_line.Goals.{in-Some, in-None}
use Rattle.line_reader.proofs.reader.LineReader.drop_line.Goals as goal

pub find_end-requires-clause-plain : goal.find_end-requires-clause-plain
find_end-requires-clause-plain g c =
    let f = c.self.inside.pieces in
    subst (λ l. IsPlain newline (take c.looked.result l)) (sym c.rest-left.ensures.value)
    (subst (λ n. IsPlain newline (take n (rest f))) (sym c.looked.ensures.value)
    (open_plain newline f.decoder.max (take f.seen (rest f)) c.self.invariant.whole.searched).0)

pub returns-clause-drops : goal.returns-clause-drops
returns-clause-drops g c =
    let count = c.match-find_end.count in
    let t = c.skip.new.self in
    elim c.match-find_end.branch [
      | in-Some w ↦
          let same = w.self-inside-is in
          let left = c.rest-left.ensures.value ∙ ap (λ x. rest x.pieces) (sym same) in
          let found = w.in-Some.ensures.found in
          let size = ap (λ p. p.0) w.count-is in
          let view = ap (λ x. x.pieces) same ∙ ap (λ x. x.pieces) c.self.view_is in
          subst (λ x. DropsLine x count.0 count.1 t) view (record {
            before = subst (λ x. IsPieceReader (lined x.pieces.decoder.max) x.pieces) (sym same) c.self.invariant.whole;
            inside = omega (arith, size, found.0, ap length left);
            skips = c.skip.ensures.skips;
            ends = λ _. (w.in-Some.len, size, subst (EndsAt newline w.in-Some.len) left found.1);
            none = λ odd. (let no : true ≡ false = sym (ap (λ p. p.1) w.count-is) ∙ odd in cc);
          })
      | in-None w ↦
          let same = w.self-inside-is in
          let left = c.rest-left.ensures.value ∙ ap (λ x. rest x.pieces) (sym same) in
          let size = ap (λ p. p.0) w.count-is in
          let view = ap (λ x. x.pieces) same ∙ ap (λ x. x.pieces) c.self.view_is in
          subst (λ x. DropsLine x count.0 count.1 t) view (record {
            before = subst (λ x. IsPieceReader (lined x.pieces.decoder.max) x.pieces) (sym same) c.self.invariant.whole;
            inside = omega (arith, size, ap length left);
            skips = c.skip.ensures.skips;
            ends = λ odd. (let no : true ≡ false = sym odd ∙ ap (λ p. p.1) w.count-is in cc);
            none = λ _. (
              size ∙ ap length left,
              subst IsLine (take_all (length c.rest-left.result.now) c.rest-left.result.now (omega arith) ∙ left)
                  w.in-None.ensures.none,
            );
          })
    ]
