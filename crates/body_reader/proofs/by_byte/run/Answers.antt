-- The bytes before lead by payload to `at`, and one more that is payload there leads on.
use Rattle.std.proofs.Common.{◌∙◌, arith, slice_index, sym}
use Rattle.std.proofs.lemmas.List.{take_more}
use Rattle.body_reader.specs.ByByteLaws.{keeps_more}
use Rattle.body_reader.proofs.by_byte.run.Goals as goal

pub loop-count-preserved : goal.loop-count-preserved
loop-count-preserved g c =
    let bytes = c.args.bytes.now in record {
      within = omega arith;
      keeps = rw (take_more bytes c.loop-count.count 0 c.loop-count-test.true)
          (keeps_more (g.C.ByteCoding.turns c.args.coding.now) c.args.place _ _ (slice_index bytes c.loop-count.count) _
          c.loop-count.invariant.keeps (sym c.is_end.ensures ∙ c.if-not-is_end.true) (sym c.turn.ensures ∙ c.in-Payload.is));
    }
