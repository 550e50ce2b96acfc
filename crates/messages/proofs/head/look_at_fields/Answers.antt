-- Each field so far is so, or one isn't, and all are behind the last.
use Rattle.std.proofs.Common.{IsTrue, arith, sym, ◌∙◌}
use Rattle.messages.specs.Names.{is_met, IsPlainField}
use Rattle.messages.proofs.Spans.{all_fields, one_more}
use Rattle.messages.proofs.head.look_at_fields.Goals as goal

pub loop-span-preserved : goal.loop-span-preserved
loop-span-preserved c = record {
  hosts = one_more IsPlainField c.args.head.now c.args.spans.now c.loop-span.span-index c.loop-span-test.true
      c.loop-span.hosts c.is_plain-hosts.result c.loop-span.invariant.hosts c.is_plain-hosts.ensures;
  met = one_more (λ h. IsTrue (is_met h)) c.args.head.now c.args.spans.now c.loop-span.span-index c.loop-span-test.true
      c.loop-span.met c.is_met-met.result c.loop-span.invariant.met
      (λ yes. sym c.is_met-met.ensures ∙ yes, λ is. c.is_met-met.ensures ∙ is);
}

pub returns : goal.returns
returns c =
    let past = c.loop-span-test.false in record {
      hosts = all_fields IsPlainField c.args.head.now c.args.spans.now c.loop-span.span-index (omega (arith, past))
          c.loop-span.hosts c.loop-span.invariant.hosts;
      met = all_fields (λ h. IsTrue (is_met h)) c.args.head.now c.args.spans.now c.loop-span.span-index (omega (arith, past))
          c.loop-span.met c.loop-span.invariant.met;
    }
