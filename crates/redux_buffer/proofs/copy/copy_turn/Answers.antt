-- A fill or a write that fails is one fault and moves nothing; else just what the writer took is consumed.
use Rattle.std.proofs.Common.{length, ap, arith, rules, length-drop}
use Rattle.std.proofs.lemmas.Result.{err_from_is_err_and}
use Rattle.redux_buffer.proofs.Turning.{not_filled, not_written}
use Rattle.redux_buffer.proofs.copy.copy_turn.Goals as goal

pub returns-in_err-taken-in-Ok-clause-turn : goal.returns-in_err-taken-in-Ok-clause-turn
returns-in_err-taken-in-Ok-clause-turn g c =
    let p = err_from_is_err_and c.from_residual.result c.from_residual.ensures.1 in
    let filled = (rw c.in-Ok.is at c.fill_told.follows.holds-at-none).0.0 in
    let wrote = c.in_err-taken-in-Ok.ensures in
    rw (p.1, p.2, filled)
    (not_written g.W.Tell.log g.W.TellWrite.trace g.W.TellWrite.call (g.B.Tell.log c.args.b.now) c.args.w.now
    g.met.W.TellWrite.trace_none c.in-Ok.bytes.now _ c.write_told.new.self wrote.told wrote.call)

pub returns-in-Err-clause-turn : goal.returns-in-Err-clause-turn
returns-in-Err-clause-turn g c =
    let filled = (rw c.in-Err.is at c.fill_told.follows.holds-at-none).0 in
    rw filled.1
    (not_filled g.W.Tell.log g.W.TellWrite.trace g.W.TellWrite.call (g.B.Tell.log c.args.b.now) c.args.w.now filled.0
    c.in-Err.e)

pub returns-clause-turn : goal.returns-clause-turn
returns-clause-turn g c =
    let filled = (rw c.in-Ok.is at c.fill_told.follows.holds-at-none).0.0 in
    let wrote = c.in_ok-taken-in-Ok.ensures in
    record {
      answers = record {
        copies = search rules;
        ended = λ none. absurd (c.if-taken-eq0.false none);
        failed = tt;
        nothing = λ none. absurd (c.if-taken-eq0.false none);
        fills = λ none. absurd (c.if-taken-eq0.false none);
        writes = search rules;
        ends_shown = search rules;
        one_end = λ takes. search rules;
        none_ended = λ takes. search rules;
      };
      interrupted = tt;
      one_fill = search rules;
      offered = omega (
        arith,
        wrote.bound,
        ap (λ l. l.writes.offer) wrote.told,
        ap (λ l. length l.fills.shown) filled,
        ap (λ l. length l.fills.shown) c.consume_told.ensures.told,
        length-drop c.in_ok-taken-in-Ok.taken (g.B.Tell.log c.fill_told.follows.lender-at-none).fills.shown,
      );
      called = search rules;
      no_write = search rules;
      none_ended = search rules;
      one_fault = search rules;
    }
