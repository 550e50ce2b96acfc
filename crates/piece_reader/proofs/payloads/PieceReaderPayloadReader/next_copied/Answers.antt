-- Where memory for the copy is refused the step was made, and its payload is the one that is lost.
use Rattle.std.proofs.Common.{Ok, ap, subst, ◌∙◌}
use Rattle.piece_reader.specs.Decoding.{bytes_at}
use Rattle.piece_reader.specs.NextPiece.{NextPiece, load_answer}
use Rattle.piece_reader.specs.RunsLaws.{on_err}
use Rattle.piece_reader.proofs.payloads.PieceReaderPayloadReader.next_copied.Goals as goal

pub returns-in_err-from_slice-in-Ok-Some-clause-lost : goal.returns-in_err-from_slice-in-Ok-Some-clause-lost
returns-in_err-from_slice-in-Ok-Some-clause-lost g c =
    let s = c.args.self.now in
    let t = c.step.new.self in
    on_err c.from_residual.result (record {
      payload = bytes_at c.in-Ok-Some.span t.reader.block.bytes;
      next = subst (λ r. NextPiece g.R.TellRead.remaining (g.D.Decoder.grammar s.decoder) s (load_answer r t) t)
          (c.in-Ok-Some.is ∙ ap (λ x. Ok x) c.in-Ok-Some.field-0-is) c.step.ensures.next;
    })
