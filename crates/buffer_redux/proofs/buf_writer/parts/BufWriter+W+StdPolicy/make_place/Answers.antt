-- A refused growth changes nothing, and comes only where the bytes don't fit behind what the send left.
use Rattle.std.proofs.Common.{Err, ◌≡◌, ◌<◌, false, inl, inr, subst, sym, true}
use Rattle.std.proofs.lemmas.Bool.{cases_lt}
use Rattle.redux_buffer.specs.Block.{usable}
use Rattle.buffer_redux.specs.WriteParts.{MakesPlace}
use Rattle.buffer_redux.proofs.Parts.{place_refused}
use Rattle.buffer_redux.proofs.buf_writer.parts.BufWriter+W+StdPolicy.make_place.Goals as goal

pub returns-in-Err-reserve : goal.returns-in-Err-reserve
returns-in-Err-reserve g c =
    let refused = c.in-Err-reserve.ensures in
    let tight : usable c.send.new.self.block < c.args.len = elim (cases_lt (usable c.send.new.self.block) c.args.len) [
      | inl few ↦ few
      | inr many ↦ (let odd : false ≡ true = refused.succeeds many in cc)
    ] in
    subst (MakesPlace g.W.Tell.log g.W.TellWrite.trace c.args.len c.args.self.now (Err c.from.result)) (sym refused.unchanged)
    (place_refused _ _ g.met.W.TellWrite.trace_none _ _ _ _ _ c.in_default.ensures.sent (record {
      refusal = c.in-Err-reserve.e;
      tells = c.from.ensures;
      refused = record { tight = tight; within = refused.limit };
    }))
