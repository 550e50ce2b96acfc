-- What a write took follows what was sent before; only one that leaves nothing took all that it was offered.
use Rattle.std.proofs.Common.{◌≡◌, ◌≤◌, ◌<◌, ◌+◌, ◌-◌, [], ◌++◌, length, arith, rules, ap, ◌∙◌, inl, inr, refl, length-append, length-drop, length-take-le}
use Rattle.redux_buffer.specs.Faults.{OnlyInterrupted-none}
use Rattle.redux_buffer.proofs.Sending.{Sent-more, only_more, short_more, traced_last, whole_more, sends_failed, sends_nothing}
use Rattle.redux_buffer.proofs.buffer.Buffer.write_max.Goals as goal

pub returns-in-Err-clause-sent : goal.returns-in-Err-clause-sent
returns-in-Err-clause-sent g c =
    let inv = c.loop-left.invariant in
    let wrote = rw c.buf.ensures at c.in-Err.ensures.wrote in
    let left = c.loop-left.left in
    let size = length-take-le left c.loop-left.self.bytes inv.room in
    sends_failed inv.count inv.interrupts left _ _ _ _ _ inv.sent inv.only inv.few
    c.args.max c.in-Err.e (inv.short (omega arith)) (omega (arith, inv.rest)) (omega (arith, size)) wrote

pub returns-in-Ok-eq0-clause-sent : goal.returns-in-Ok-eq0-clause-sent
returns-in-Ok-eq0-clause-sent g c =
    let inv = c.loop-left.invariant in
    let left = c.loop-left.left in
    let wrote = rw c.buf.ensures at c.in-Ok-eq0.ensures.wrote in
    let size = length-take-le left c.loop-left.self.bytes inv.room in
    sends_nothing inv.count inv.interrupts left _ _ _ _ _ inv.sent inv.only inv.few c.args.max c.in-Ok-eq0.field-0 c.from.result
    (inv.short (omega arith)) (omega (arith, inv.rest)) c.in-Ok-eq0.field-0-test (omega (arith, size)) c.from.ensures wrote

pub returns-in-Err-clause-row : goal.returns-in-Err-clause-row
returns-in-Err-clause-row g c =
    let inv = c.loop-left.invariant in
    inl (record { begun = c.loop-left.wrt; went = inv.trace; begins = inv.begins; bytes = _; row = c.in-Err.ensures.retried })

pub returns-in-Ok-eq0-clause-row : goal.returns-in-Ok-eq0-clause-row
returns-in-Ok-eq0-clause-row g c =
    let inv = c.loop-left.invariant in
    inr (record {
      begun = c.loop-left.wrt;
      went = inv.trace;
      begins = inv.begins;
      bytes = _;
      row = rw c.in-Ok-eq0.field-0-test at c.in-Ok-eq0.ensures.retried;
    })

pub loop-left-init : goal.loop-left-init
loop-left-init g c = record {
  count = 0;
  interrupts = [];
  sent = search rules;
  rest = search rules;
  room = search rules;
  only = OnlyInterrupted-none (g.W.Tell.log c.args.wrt.now).writes;
  few = omega arith;
  untouched = search rules;
  offered = omega arith;
  short = λ _. (omega arith, omega arith);
  last = λ _ some. absurd (omega (arith, some));
  trace = search rules;
  begins = inl refl;
  whole = search rules;
}

pub loop-left-preserved : goal.loop-left-preserved
loop-left-preserved g c =
    let inv = c.loop-left.invariant in
    let n = c.in-Ok.n in
    let left = c.loop-left.left in
    let wrote = rw c.buf.ensures at c.in-Ok.ensures.wrote in
    let bound = rw c.buf.ensures at c.in-Ok.ensures.bound in
    let size = length-take-le left c.loop-left.self.bytes inv.room in
    let fits : n ≤ left = omega (arith, bound, size) in
    let some : 0 < n = omega (arith, c.in-Ok.n-test, c.in-Ok.n-is) in
    let last : length c.consume.new.self.bytes ≡ length c.loop-left.self.bytes - n =
    ap length c.consume.ensures.bytes.bytes ∙ length-drop n c.loop-left.self.bytes in
    record {
      count = inv.count + n;
      interrupts = inv.interrupts ++ wrote.interrupts;
      sent = Sent-more inv.count inv.interrupts left _ _ _ _ _ inv.sent inv.only inv.few n _ wrote fits
          (omega (arith, inv.room)) c.consume.ensures.bytes c.consume.ensures.moved;
      rest = omega (arith, inv.rest);
      room = omega (arith, inv.room, last);
      only = only_more inv.count inv.interrupts left _ _ _ _ _ inv.sent inv.only inv.few n some wrote;
      few = omega (arith, inv.few, wrote.most, some, length-append inv.interrupts wrote.interrupts);
      offered = λ _. omega (arith, some, fits, size, wrote.offered);
      short = λ more. short_more inv.count inv.interrupts left _ _ _ _ _ inv.sent inv.only inv.few n
          (inv.short (omega (arith, some, fits))) wrote (omega (arith, more, size));
      last = λ none _. whole_more inv.count inv.interrupts left _ _ _ _ _ inv.sent inv.only inv.few n
          (inv.short (omega (arith, some, fits))) wrote (omega (arith, none, size));
      untouched = λ none. absurd (omega (arith, none, some));
      trace = g.met.W.TellWrite.trace_joins _ _ _ inv.trace c.in-Ok.ensures.trace;
      begins =
          let r = c.in-Ok.ensures.retried in
          let joins = g.met.W.TellWrite.trace_joins in
          let reached = joins _ _ _ inv.trace (traced_last _ _ g.met.W.TellWrite.trace_none joins _ _ _ _ r) in
          inr (r.last, reached, _, n, some, r.went);
      whole = c.consume.ensures.whole;
    }
