-- A count that is cut off is more than any buffer holds, so it tells whether all parts fit.
use Rattle.std.proofs.Common.{ap, arith, refl}
use Rattle.redux_buffer.specs.Block.{usable}
use Rattle.buffer_redux.proofs.Parts.{parts_failed, parts_moved}
use Rattle.buffer_redux.proofs.buf_writer.parts.BufWriter+W+StdPolicy.write_parts.Goals as goal

pub returns-in-Ok : goal.returns-in-Ok
returns-in-Ok g c =
    let parts = parts_moved _ _ g.met.W.TellWrite.trace_none g.met.W.TellWrite.trace_joins g.met.W.TellWrite.trace_grows
    c.args.self.now _ _ c.total-len.ensures
    (omega (arith, c.if-usable_space-len.false, c.usable_space.ensures.value, ap (λ x. usable x.block) c.self.view_is))
    c.make_place.new.self _ c.in-Ok.ensures
    (rw (← c.self-2.view_is) (record {
      others = refl;
      added = c.append_parts-in-Ok.ensures.added;
      whole = c.append_parts-in-Ok.ensures.whole;
    })) in
    record { in_order = parts.along.in_order; none = tt; parts = parts }

pub returns-in-Err : goal.returns-in-Err
returns-in-Err g c =
    let parts = parts_failed _ _ g.met.W.TellWrite.trace_none g.met.W.TellWrite.trace_joins g.met.W.TellWrite.trace_grows
    c.args.self.now _ _ c.total-len.ensures
    (omega (arith, c.if-usable_space-len.false, c.usable_space.ensures.value, ap (λ x. usable x.block) c.self.view_is))
    c.make_place.new.self c.in-Err.e c.in-Err.ensures in
    record { in_order = tt; none = parts.along.in_order; parts = parts }
