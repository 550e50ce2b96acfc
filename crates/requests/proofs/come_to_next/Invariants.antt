use Rattle.std.proofs.Common.{◌≡◌, ◌+◌, ◌-◌, ◌*◌, ◌<◌, ◌≤◌, [], length, Ok}
use Rattle.redux_buffer.specs.Faults.{interrupt_limit}
use Rattle.requests.proofs.Names.{AwaitsHead, FailsInRow, heads, IsHeld, IsOpen, left_of, Prompt, ReadsSteadily, rest, room_of, StreamWent, usual}
use Rattle.requests.proofs.come_to_next.Given as goal

-- nothing went, and so many reads in a row were interrupted, behind which the stream has to be asked
abbrev pub invariant-asks : goal.invariant-asks
invariant-asks g l = record {
  went : StreamWent g.R.TellRead.remaining (left_of l.fn.requests) [] (left_of l.next);
  comes : Prompt g.W.Tell.log g.W.TellWrite.trace AwaitsHead (left_of l.fn.requests, l.initial.writer) (Ok tt)
      (left_of l.next, l.writer);
  reads : ReadsSteadily l.row (left_of l.fn.requests) (left_of l.next);
  rows : 0 < l.row → FailsInRow g.R.Tell.log l.row (left_of l.fn.requests) (left_of l.next);
  most : l.row ≤ interrupt_limit;
  open' : 0 < l.row → IsOpen (heads usual) (rest l.next);
  held : IsHeld l.writer;
  limits : l.next.decoder.0 ≡ usual;
  room : room_of l.next.reader.block ≡ room_of l.fn.requests.reader.block;
}

-- each read that is made again found more of a head, or as much, and one more of its row was interrupted
abbrev pub decreases-asks : goal.decreases-asks
decreases-asks g l = ((heads usual).most - length (rest l.next)) * 65 + (64 - l.row)
