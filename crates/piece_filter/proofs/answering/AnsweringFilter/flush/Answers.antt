-- The field `sent` tells that all was flushed, so no call is made then; else the writer's flush answers.
use Rattle.piece_filter.proofs.Calls.{flushed, not_flushed, unflushed}
use Rattle.piece_filter.proofs.answering.AnsweringFilter.flush.Goals as goal

pub returns-then-self : goal.returns-then-self
returns-then-self g c =
    unflushed g.R.TellRead.remaining g.D.Decoder.grammar g.S.Answer.answers c.requires c.if-self.true

pub returns-in-Ok : goal.returns-in-Ok
returns-in-Ok g c =
    flushed g.R.TellRead.remaining g.D.Decoder.grammar g.S.Answer.answers c.requires _ _ c.if-self.false c.flush.new.self
    c.in-Ok.ensures.flushed

pub returns-in-Err : goal.returns-in-Err
returns-in-Err g c =
    not_flushed g.R.TellRead.remaining g.D.Decoder.grammar g.S.Answer.answers c.requires _ _ c.if-self.false c.flush.new.self
    c.in-Err.e c.in-Err.ensures.flushed
