-- Where sending failed, the handler's call is the last step; else both parts stay as sending left them.
use Rattle.std.proofs.Common.{◌≡◌, ◌∙◌, [], Ok, Err, ap, length, refl, sym}
use Rattle.buffer_redux.specs.Buffered.{Buffered}
use Rattle.buffer_redux.proofs.buf_writer.BufWriter.finish.Goals as goal
use Rattle.buffer_redux.proofs.buf_writer.BufWriter.finish.Goals.{in-Err, in_default}

pub returns : goal.returns
returns g c =
    let tells = g.W.Tell.log in
    let parts = c.into_inner_with_buffer-inner.ensures in
    let sent : Buffered g.row.W.Denot g.row.P.Denot =
    record {
      policy = c.args.self.policy;
      block = c.write_all.new.self;
      inner = c.write_all.new.wrt;
      log = tells c.write_all.new.wrt;
      own_calls = c.args.self.own_calls;
    } in
    let unsent = λ (none : c.args.self.block.bytes ≡ []). ap length (ap (λ b. b.bytes) parts.block ∙ none) in
    elim c.match-write_all.branch [
      | in-Err w ↦ rw (w.inner-is, w.unsent-is) (record {
        idle = λ none. (let odd = (w.in-Err.ensures.idle (unsent none)).0 in cc);
        sent = record {
          sending = Err w.in-Err.e;
          sent = sent;
          sends = rw (← parts.block, ← parts.log) w.in-Err.ensures.sent;
          row = rw (← parts.inner) w.in-Err.ensures.row;
          went = record {
            calls = rw (← parts.inner) w.in-Err.ensures.trace;
            told_before = rw (← parts.inner) (sym parts.log);
            told_after = refl;
            noted = refl;
          };
          ended = record {
            lent_inner = _;
            lent_buffer = _;
            left_inner = _;
            left_buffer = _;
            called = w.handler.ensures;
            shows_inner = refl;
            shows_buffer = refl;
            leaves_inner = refl;
            leaves_buffer = refl;
          };
        };
      })
      | in_default w ↦ rw (w.inner-is, w.unsent-is) (record {
        idle = λ none. (
            let same = w.in_default.ensures.idle (unsent none) in
            (same.1 ∙ parts.inner, same.2 ∙ parts.block)
            );
        sent = record {
          sending = Ok tt;
          sent = sent;
          sends = rw (← parts.block, ← parts.log) w.in_default.ensures.sent;
          row = tt;
          went = record {
            calls = rw (← parts.inner) w.in_default.ensures.trace;
            told_before = rw (← parts.inner) (sym parts.log);
            told_after = refl;
            noted = refl;
          };
          ended = (refl, refl);
        };
      })
    ]
