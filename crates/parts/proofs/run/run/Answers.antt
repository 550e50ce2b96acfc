-- What was accepted was sent by the flush.
use Rattle.parts.proofs.Getting.{sent}
use Rattle.parts.proofs.run.run.Goals as goal

pub returns : goal.returns
returns g c =
    let over = c.ended.ensures.over in
    let is = sent g.R.TellRead.remaining g.W.Tell.log g.W.TellWrite.trace g.met.W.TellWrite.trace_joins c.args.parts
    c.list_or_get-answer.new.parts c.args.target c.list_or_get-answer.new.target over.w c.requires.unread c.requires.unwritten _
    c.list_or_get-answer.result over.last c.list_or_get-answer.ensures over.flushed in
    record {
      answer = c.list_or_get-answer.result;
      t = c.list_or_get-answer.new.parts;
      v = c.list_or_get-answer.new.target;
      did = c.list_or_get-answer.ensures;
      read_to = c.ended.ensures.read;
      over = over;
      once = rw over.written_to is.1;
      sent = rw (c.ended.ensures.read, over.written_to) is.0;
    }
