use Rattle.std.proofs.Common.{◌≡◌, ◌≤◌, length}
use Rattle.requests.proofs.Names.{Continues, IsHeld, left_of, room_of, usual}
use Rattle.requests.proofs.serve.Given as goal

-- the messages that went are answered, and each turn was of one
abbrev pub invariant-loop-message : goal.invariant-loop-message
invariant-loop-message g l = record {
  goes : Continues g.R.TellRead.remaining g.W.Tell.log g.W.TellWrite.trace (left_of l.fn.requests) l.initial.writer
      (left_of l.next) l.writer;
  turns : l._message ≤ length goes.messages;
  held : IsHeld l.writer;
  limits : l.next.decoder.0 ≡ usual;
  room : room_of l.next.reader.block ≡ room_of l.fn.requests.reader.block;
}
