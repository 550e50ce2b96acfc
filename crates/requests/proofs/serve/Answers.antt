-- What a turn answered joins what was answered before, and each turn counts a message.
use Rattle.std.proofs.Common.{[], ◌++◌, ◌∙◌, None, true, refl, sym, append-nil, arith, length-append}
use Rattle.requests.proofs.Names.{All-append, All-nil, AwaitsHead, left_of, MayFollow, StreamWent-none}
use Rattle.requests.specs.declared.Ending.TheVariants.{Many}
use Rattle.requests.proofs.Reading.{AsksFew-after, AsksFew-upto, steadily, steady_same}
use Rattle.requests.proofs.Sending.{Prompt-none}
use Rattle.requests.proofs.Turns.{AnswersEach-held, AnswersEach-joins, RunsToLast-after, RunsToLast-held}
use Rattle.requests.proofs.serve.Goals as goal

pub loop-message-init : goal.loop-message-init
loop-message-init g c = record {
  goes = record {
    messages = [];
    each = refl;
    keep = All-nil (MayFollow true);
    reads = steady_same _ _ refl;
  };
  turns = omega arith;
  held = c.requires.held;
  limits = c.requires.limits;
  room = refl;
}

pub loop-message-preserved : goal.loop-message-preserved
loop-message-preserved g c =
    let before = c.loop-message.invariant in
    let a = before.goes in
    let b = c.in-Ok.ensures.turns.0 in
    record {
      goes = record {
        messages = a.messages ++ b.messages;
        each = AnswersEach-joins g.R.TellRead.remaining g.W.Tell.log g.W.TellWrite.trace a.messages b.messages
            (left_of c.args.requests, c.args.writer.now) (left_of c.loop-message.next, c.loop-message.writer)
            (left_of c.in-Ok.behind, c.answer.new.writer) a.each b.each;
        keep = All-append (MayFollow true) a.messages b.messages a.keep b.keep;
        reads = steadily a.reads b.reads;
      };
      turns = omega (arith, before.turns, c.in-Ok.ensures.turns.1, length-append a.messages b.messages);
      held = AnswersEach-held g.R.TellRead.remaining g.W.Tell.log g.W.TellWrite.trace b.messages
          (left_of c.loop-message.next, c.loop-message.writer) (left_of c.in-Ok.behind, c.answer.new.writer) b.each before.held;
      limits = c.in-Ok.ensures.limits;
      room = c.in-Ok.ensures.room ∙ before.room;
    }

pub send_last-answer-requires : goal.send_last-answer-requires
send_last-answer-requires g c = record {
  held = RunsToLast-held g.R.TellRead.remaining g.W.Tell.log g.W.TellWrite.trace c.in-Err.ending
      c.in-Err.ensures.turns c.loop-message.invariant.held;
}

pub returns-in-Err : goal.returns-in-Err
returns-in-Err g c = record {
  room = c.in-Err.ensures.room ∙ c.loop-message.invariant.room;
  few = (AsksFew-after c.loop-message.invariant.goes.reads c.in-Err.ensures.turns.asks (omega arith)).few;
  serves = record {
    ending = c.in-Err.ending;
    held = c.answer.new.writer;
    runs = RunsToLast-after g.R.TellRead.remaining g.W.Tell.log g.W.TellWrite.trace c.loop-message.invariant.goes
        c.in-Err.ending c.in-Err.ensures.turns;
    last = c.send_last-answer.ensures;
  };
}

pub returns-clause-serves : goal.returns-clause-serves
returns-clause-serves g c =
    let before = c.loop-message.invariant in record {
      ending = Many;
      held = c.loop-message.writer;
      runs = record {
        messages = before.goes.messages;
        taken = [];
        handed = [];
        part = (refl, refl);
        refuses = None;
        turns = record {
          front = before.goes.messages;
          last = [];
          all = sym (append-nil before.goes.messages);
          between = (left_of c.loop-message.next, c.loop-message.writer);
          each = before.goes.each;
          turn = (
            StreamWent-none g.R.TellRead.remaining (left_of c.loop-message.next),
            Prompt-none AwaitsHead (left_of c.loop-message.next, c.loop-message.writer),
          );
        };
        asks = AsksFew-upto before.goes.reads.asks (omega arith);
        wrong = tt;
        ends = (before.goes.reads.faults, before.goes.keep, refl, omega (arith, before.turns, c.loop-message-test.false));
      };
      last = c.send_last-answer-2.ensures;
    }
