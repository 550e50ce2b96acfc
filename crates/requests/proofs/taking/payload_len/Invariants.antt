use Rattle.std.proofs.Common.{◌≡◌, ℕ, ◌+◌, ◌-◌, ◌*◌, ◌<◌, ◌≤◌, [], List, length, Ok}
use Rattle.redux_buffer.specs.Faults.{interrupt_limit}
use Rattle.requests.specs.Large.{IsNewlyLarge}
use Rattle.requests.proofs.Names.{body_rules, FailsInRow, handed_of, InsideGoes, IsAwaited, IsHeld, max_payload, Prompt, ReadsSteadily, stream_in, TookWholeBody}
use Rattle.requests.proofs.taking.payload_len.Given as goal

-- so much payload was read, and wasn't too large before the last read; and so many reads in a row were interrupted, behind which
-- nothing is buffered
abbrev pub invariant-reads : goal.invariant-reads
invariant-reads g l = record {
  payload : List ℕ;
  goes : InsideGoes g.R.TellRead.remaining l.initial.body payload l.body;
  many : l.len ≡ length (handed_of l.body.body);
  reads : ReadsSteadily l.row (stream_in l.initial.body) (stream_in l.body);
  rows : 0 < l.row → FailsInRow g.R.Tell.log l.row (stream_in l.initial.body) (stream_in l.body);
  most : l.row ≤ interrupt_limit;
  none : 0 < l.row → ((stream_in l.body).left ≡ []) × ¬ (TookWholeBody (body_rules l.body.body.coding) l.body.body);
  fresh : IsNewlyLarge l.body;
  writes : Prompt g.W.Tell.log g.W.TellWrite.trace (IsAwaited l.initial.body.said.extent)
      (stream_in l.initial.body, l.initial.writer) (Ok tt) (stream_in l.body, l.writer);
  held : IsHeld l.writer;
}

-- each read took some of the body, which is no larger than that, or one more of its row was interrupted
abbrev pub decreases-reads : goal.decreases-reads
decreases-reads g l =
    (2 * max_payload - l.len + (8 * max_payload - length l.body.body.taken)) * 65 + (64 - l.row)
