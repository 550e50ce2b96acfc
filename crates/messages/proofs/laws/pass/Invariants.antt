use Rattle.std.proofs.Common.{◌≡◌, List, length}
use Rattle.messages.specs.Names.{EachReadGave, left_of, Message, MessagesWent, room_of}
use Rattle.messages.proofs.laws.pass.Given as goal

-- these messages went, and no read failed, or gave nothing; and the buffer takes what it took
abbrev pub invariant-loop : goal.invariant-loop
invariant-loop g l = record {
  messages : List Message;
  many : length messages ≡ l.counter;
  went : MessagesWent g.R.TellRead.remaining l.fn.requests.decoder.0 (left_of l.fn.requests) messages (left_of l.next);
  gave : EachReadGave (left_of l.fn.requests) (left_of l.next);
  limits : l.next.decoder ≡ l.fn.requests.decoder;
  room : room_of l.next.reader.block ≡ room_of l.fn.requests.reader.block;
}
