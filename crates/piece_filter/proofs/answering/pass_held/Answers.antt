-- The span that is held lends the payload, so what the service does for it is done for what is held.
use Rattle.piece_filter.proofs.Calls.{drops, passes, refused}
use Rattle.piece_filter.proofs.answering.pass_held.Goals as goal

pub returns-in-Ok-true : goal.returns-in-Ok-true
returns-in-Ok-true g c =
    passes g.R.TellRead.remaining g.D.Decoder.grammar g.S.Answer.answers c.requires.ready c.args.span c.requires.held
    c.answer.new.self c.answer.new.writer (rw (c.in-Ok-true.field-0-test, c.lent-payload.ensures) at c.in-Ok-true.ensures)

pub returns-in-Ok-false : goal.returns-in-Ok-false
returns-in-Ok-false g c =
    drops g.R.TellRead.remaining g.D.Decoder.grammar g.S.Answer.answers c.requires.ready c.args.span c.requires.held
    c.answer.new.self c.answer.new.writer (rw (c.in-Ok-false.field-0-test, c.lent-payload.ensures) at c.in-Ok-false.ensures)

pub returns-in-Err : goal.returns-in-Err
returns-in-Err g c =
    refused g.R.TellRead.remaining g.D.Decoder.grammar g.S.Answer.answers c.requires.ready c.args.span c.requires.held
    c.answer.new.self c.answer.new.writer c.in-Err.e (rw c.lent-payload.ensures at c.in-Err.ensures)
