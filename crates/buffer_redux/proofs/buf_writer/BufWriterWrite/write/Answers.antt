-- Each way does the steps of one write, from before the policy was asked, and all clauses follow from those.
use Rattle.std.proofs.Common.{◌≡◌, ℕ, Ok, length, refl, arith, rules}
use Rattle.buffer_redux.specs.Buffered.{Buffered, InnerWent, over_buffer, with_calls}
use Rattle.buffer_redux.specs.WriteAll.{AskedFirst}
use Rattle.buffer_redux.proofs.WriteOn.{writes_in, write_says}
use Rattle.buffer_redux.proofs.buf_writer.BufWriterWrite.write.Goals as goal
use Rattle.buffer_redux.proofs.buf_writer.BufWriterWrite.write.Goals.{In_ok-first}

-- the writer once the policy was asked
abbrev asked : (g : _) → goal.In_ok-first g → Buffered g.row.W.Denot g.row.P.Denot
asked g c = with_calls (over_buffer g.W.Tell.log c.before_write.new.self c.before_write.new.buf c.self.inside.inner)
    c.self.inside.calls.log

-- what it answered
asked_first : (g : _) (c : goal.In_ok-first g) (amount : ℕ) → c.in_ok-first.field-0.0 ≡ amount → AskedFirst g.W.Tell.log
    g.P.WriterPolicy.rules (length c.args.bytes.now) amount c.args.self.now (asked g c)
asked_first g c amount is = rw (← c.self.view_is) (record {
  answer = c.in_ok-first.field-0;
  is = is;
  asked = c.in_ok-first.ensures;
  whole = c.self.invariant;
  inner = refl;
  told_before = refl;
  told = refl;
  noted = refl;
})

-- the bytes may not fit, before the policy was asked
pub returns-then-not-has_space_behind : goal.returns-then-not-has_space_behind
returns-then-not-has_space_behind g c =
    let wrote = c.write_asking_apart.ensures in
    write_says _ _ g.P.WriterPolicy.rules _ _ _ _ wrote.bound wrote.whole wrote.trace wrote.steps

-- something is sent first
pub returns-then-first-gt0 : goal.returns-then-first-gt0
returns-then-first-gt0 g c =
    let went : InnerWent g.W.Tell.log g.W.TellWrite.trace c.args.self.now c.write_apart.new.self = search rules in
    write_says _ _ g.P.WriterPolicy.rules _ _ _ _ c.write_apart.ensures.bound c.write_apart.ensures.whole went
    (c.write_apart.ensures.steps c.args.self.now
    (asked_first g (goal.at.returns-then-first-gt0 g c).In_ok-first _ refl))

-- the bytes may not fit
pub returns-then-bytes-usable_space : goal.returns-then-bytes-usable_space
returns-then-bytes-usable_space g c =
    let none : c.in_ok-first.field-0.0 ≡ 0 = omega (arith, c.if-first-gt0.false, c.in_ok-first.first-is) in
    let t = c.write_apart-then-bytes-usable_space.new.self in
    let went : InnerWent g.W.Tell.log g.W.TellWrite.trace c.args.self.now t = search rules in
    let wrote = c.write_apart-then-bytes-usable_space.ensures in
    write_says _ _ g.P.WriterPolicy.rules _ _ _ _ wrote.bound wrote.whole went
    (wrote.steps c.args.self.now
    (asked_first g (goal.at.returns-then-bytes-usable_space g c).In_ok-first 0 none))

-- neither is so
pub returns : goal.returns
returns g c =
    let bytes = c.args.bytes.now in
    let t = c.flush_after.new.self in
    let went : InnerWent g.W.Tell.log g.W.TellWrite.trace c.args.self.now t = search rules in
    let none : c.in_ok-first.field-0.0 ≡ 0 = omega (arith, c.if-first-gt0.false, c.in_ok-first.first-is) in
    write_says _ _ g.P.WriterPolicy.rules _ _ (Ok (length bytes)) _ (omega arith) c.flush_after.ensures.whole went
    (writes_in _ _ g.P.WriterPolicy.rules c.args.self.now (asked g (goal.at.returns g c).In_ok-first) t bytes
    c.append_short.new.self (asked_first g (goal.at.returns g c).In_ok-first 0 none)
    (omega (arith, c.if-bytes-usable_space.false, c.usable_space.ensures.value)) c.append_short.ensures.bytes
    (record {
      calls = g.met.W.TellWrite.trace_none c.self.inside.inner;
      told_before = refl;
      told_after = refl;
      noted = refl;
    }) c.flush_after.ensures.finished)
