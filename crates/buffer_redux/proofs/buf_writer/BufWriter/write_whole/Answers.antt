-- No bytes are no write, bytes that fit are one, and other bytes are a first write that more of them join.
use Rattle.std.proofs.Common.{◌≡◌, ◌<◌, [], length, refl, arith, inl, sym, ◌∙◌, le_refl}
use Rattle.std.proofs.lemmas.List.{nil_from_length}
use Rattle.redux_buffer.specs.Block.{usable}
use Rattle.buffer_redux.specs.Buffered.{over_buffer, with_calls}
use Rattle.buffer_redux.specs.WriteAll.{AskedFirst}
use Rattle.buffer_redux.proofs.Testing.{some_of, zero_of}
use Rattle.buffer_redux.proofs.WriteOn.{writes_in}
use Rattle.buffer_redux.proofs.WriteAll.{all_none, all_at_once}
use Rattle.buffer_redux.proofs.buf_writer.BufWriter.write_whole.Goals as goal

-- nothing is to be written
pub returns-then-is_empty : goal.returns-then-is_empty
returns-then-is_empty g c =
    let empty : c.args.bytes.now ≡ [] = nil_from_length c.args.bytes.now
    (zero_of (length c.args.bytes.now) (sym c.is_empty.ensures ∙ c.if-is_empty.true)) in
    record {
      steps = (rw empty (rw (← c.self.view_is) (all_none _ _ g.met.W.TellWrite.trace_none
          g.met.W.TellWrite.trace_joins _ _ c.self.invariant refl)));
    }

-- neither is so
pub returns-else-usable_space-bytes : goal.returns-else-usable_space-bytes
returns-else-usable_space-bytes g c =
    let rules = g.P.WriterPolicy.rules in
    let bytes = c.args.bytes.now in
    let roomy : length bytes < usable c.before_write.new.buf =
    omega (arith, c.if-usable_space-bytes.false, c.usable_space.ensures.value) in
    let some : 0 < length bytes =
    omega (arith, some_of (length bytes) (sym c.is_empty.ensures ∙ c.if-is_empty.false)) in
    let before = with_calls (over_buffer g.W.Tell.log c.before_write.new.self c.before_write.new.buf c.self.inside.inner)
    c.self.inside.calls.log in
    let first : AskedFirst g.W.Tell.log rules (length bytes) 0 c.args.self.now before = rw (← c.self.view_is) (record {
      answer = c.in-Ok.field-0;
      is = omega (arith, c.if-first-gt0.false, c.in-Ok.first-is);
      asked = c.in-Ok.ensures;
      whole = c.self.invariant;
      inner = refl;
      told_before = refl;
      told = refl;
      noted = refl;
    }) in
    let wrote = writes_in _ _ rules c.args.self.now before c.flush_after.new.self bytes c.append_by.new.buf first roomy
    c.append_by.ensures.bytes
    (record {
      calls = g.met.W.TellWrite.trace_none c.self.inside.inner;
      told_before = refl;
      told_after = refl;
      noted = refl;
    }) c.flush_after.ensures.finished in
    record {
      steps = (all_at_once _ _ g.met.W.TellWrite.trace_none g.met.W.TellWrite.trace_joins rules
          c.args.self.now bytes (length bytes) c.flush_after.new.self some refl
          (record {
            bound = le_refl _;
            steps = wrote.0;
            rows = wrote.1;
            whole = (rw (← c.self.view_is) c.self.invariant, c.flush_after.ensures.whole);
            went = rw (← c.self.view_is) (record {
              calls = c.flush_after.ensures.trace.calls;
              told_before = refl;
              told_after = c.flush_after.ensures.trace.told_after;
              noted = c.flush_after.ensures.trace.noted;
            });
          }));
    }

-- the policy returned an error
pub returns-in-Err : goal.returns-in-Err
returns-in-Err g c =
    record {
      steps = c.write_on_apart.ensures.all c.args.self.now (rw (← c.self.view_is) (record {
        bound = tt;
        steps = inl (record { asked = c.in-Err.ensures; told = refl });
        rows = inl (record { asked = c.in-Err.ensures; told = refl });
        whole = (c.self.invariant, c.in-Err.ensures.law.whole c.self.invariant);
        went = record
            { calls = g.met.W.TellWrite.trace_none c.self.inside.inner; told_before = refl; told_after = refl; noted = refl };
      }));
    }
