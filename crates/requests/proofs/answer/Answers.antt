-- A head that is buffered is begun with nobody asked, and without one the reader stands where it stood.
use Rattle.std.proofs.Common.{ap, Ok, subst}
use Rattle.messages.specs.MessagesLaws.{Begun-went}
use Rattle.requests.proofs.Names.{AwaitsHead, left_of}
use Rattle.requests.specs.Answers.{AnswersTurn}
use Rattle.requests.proofs.Reading.{begun_enters, begun_steady}
use Rattle.requests.proofs.Sending.{Prompt-held, Prompt-read}
use Rattle.requests.proofs.answer.Goals as goal

pub returns-in-Ok-clause-turns : goal.returns-in-Ok-clause-turns
returns-in-Ok-clause-turns g c =
    let begun = c.in-Ok.ensures.begun in
    let went = Begun-went g.R.TellRead.remaining c.args.requests c.in-Ok.body begun in
    c.answer_body.ensures.turns _ c.args.writer.now (record {
      last = c.args.requests;
      begun = begun;
      enters = begun_enters begun c.requires.limits;
      went = went;
      reads = begun_steady begun;
      comes = Prompt-read AwaitsHead c.args.writer.now went.order c.in-Ok.ensures.unasked;
    })

pub answer_body-requires-in-Ok-come_to_next-clause-held : goal.answer_body-requires-in-Ok-come_to_next-clause-held
answer_body-requires-in-Ok-come_to_next-clause-held g c =
    Prompt-held (Ok tt) c.in-Ok-come_to_next.ensures.comes.comes c.requires.held

pub returns-in-Ok-come_to_next-clause-turns : goal.returns-in-Ok-come_to_next-clause-turns
returns-in-Ok-come_to_next-clause-turns g c =
    subst (λ s. AnswersTurn g.R.TellRead.remaining g.W.Tell.log g.W.TellWrite.trace g.R.Tell.log s c.args.writer.now
    c.answer_body-in-Ok-come_to_next.result c.answer_body-in-Ok-come_to_next.new.writer)
    (ap left_of c.in-Err.ensures.stays.same)
    (c.answer_body-in-Ok-come_to_next.ensures.turns _ c.args.writer.now c.in-Ok-come_to_next.ensures.comes)
