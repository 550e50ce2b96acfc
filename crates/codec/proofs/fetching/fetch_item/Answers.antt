-- A look alone hands nothing out, so a step behind the look and the flush is the step that it would have been.
use Rattle.std.proofs.Common.{ap, inr, subst}
use Rattle.piece_reader.specs.Items.{NextItem}
use Rattle.piece_reader.specs.NextPiece.{StaysLeft}
use Rattle.piece_reader.specs.StaysLeftLaws.{StaysLeft-item}
use Rattle.codec.proofs.Fetched.{first_err, first_ok}
use Rattle.codec.proofs.fetching.fetch_item.Goals as goal

pub returns-in-Ok-clause-next : goal.returns-in-Ok-clause-next
returns-in-Ok-clause-next g c =
    let s = c.args.reader.now in
    let m = c.step_item_buffered.new.self in
    let gram = g.D.Decoder.grammar s.decoder in
    let stays : StaysLeft gram s m = c.in_default.ensures.stays in
    StaysLeft-item g.R.TellRead.remaining gram s m stays (g.D.Items.item_of s.decoder) c.step_item.new.self c.step_item.result
    (subst (λ d. NextItem g.R.TellRead.remaining (g.D.Decoder.grammar d) (g.D.Items.item_of d) m c.step_item.result
    c.step_item.new.self) (ap (λ x. x.decoder) stays.same) c.step_item.ensures.next)

pub returns-in-Ok-clause-looked : goal.returns-in-Ok-clause-looked
returns-in-Ok-clause-looked g c = (
  c.step_item_buffered.ensures.looked,
  inr (c.step_item_buffered.new.self, c.in_default.ensures.stays, c.step_item.ensures.looked),
)

pub returns-in-Ok-clause-first : goal.returns-in-Ok-clause-first
returns-in-Ok-clause-first g c =
    first_ok g.R.TellRead.remaining g.D.Decoder.grammar c.args.reader.now c.step_item_buffered.new.self
    c.in_default.ensures.stays g.W.Tell.log g.W.TellWrite.trace c.args.writer.now c.flush_to_ask.new.writer _
    (g.met.D.Decoder.lawful c.args.reader.now.decoder) c.in-Ok.ensures _
    c.step_item.new.self c.step_item.ensures.next.next

pub returns-in-Err-clause-first : goal.returns-in-Err-clause-first
returns-in-Err-clause-first g c =
    first_err g.R.TellRead.remaining g.D.Decoder.grammar c.args.reader.now c.step_item_buffered.new.self
    c.in_default.ensures.stays g.W.Tell.log g.W.TellWrite.trace c.args.writer.now c.flush_to_ask.new.writer c.in-Err.e
    c.in-Err.ensures
