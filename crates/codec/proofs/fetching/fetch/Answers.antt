-- A look alone hands nothing out, so a step behind the look and the flush is the step that it would have been.
use Rattle.std.proofs.Common.{inr}
use Rattle.piece_reader.specs.NextPiece.{load_answer}
use Rattle.codec.proofs.Fetched.{first_err, first_ok, next_ok}
use Rattle.codec.proofs.fetching.fetch.Goals as goal

pub returns-in-Ok-clause-next : goal.returns-in-Ok-clause-next
returns-in-Ok-clause-next g c =
    next_ok g.R.TellRead.remaining g.D.Decoder.grammar c.args.reader.now c.step_buffered.new.self c.in_default.ensures.next.0
    (load_answer c.step.result c.step.new.self) c.step.new.self c.step.ensures.next

pub returns-in-Ok-clause-looked : goal.returns-in-Ok-clause-looked
returns-in-Ok-clause-looked g c =
    (c.step_buffered.ensures.looked, inr (c.step_buffered.new.self, c.in_default.ensures.next.0, c.step.ensures.looked))

pub returns-in-Ok-clause-first : goal.returns-in-Ok-clause-first
returns-in-Ok-clause-first g c =
    first_ok g.R.TellRead.remaining g.D.Decoder.grammar c.args.reader.now c.step_buffered.new.self c.in_default.ensures.next.0
    g.W.Tell.log g.W.TellWrite.trace c.args.writer.now c.flush_to_ask.new.writer _
    (g.met.D.Decoder.lawful c.args.reader.now.decoder) c.in-Ok.ensures (load_answer c.step.result c.step.new.self)
    c.step.new.self c.step.ensures.next

pub returns-in-Err-clause-first : goal.returns-in-Err-clause-first
returns-in-Err-clause-first g c =
    first_err g.R.TellRead.remaining g.D.Decoder.grammar c.args.reader.now c.step_buffered.new.self c.in_default.ensures.next.0
    g.W.Tell.log g.W.TellWrite.trace c.args.writer.now c.flush_to_ask.new.writer c.in-Err.e c.in-Err.ensures
