-- From empty buffers on, what `forward` says of payloads holds of chunks; where all went over the body's end follows.
use Rattle.std.proofs.Common.{refl, arith}
use Rattle.bodies.specs.Words.{Goes-holds, Forwards-runs, Goes-per_ask, HoldsNothingBack-on}
use Rattle.bodies.specs.Encode.{IsDue}
use Rattle.bodies.specs.Encoding.{encoding_rules}
use Rattle.bodies.specs.EncodingLaws.{Goes-offers}
use Rattle.bodies.proofs.EncodeRuns.{ended, stopped}
use Rattle.bodies.proofs.encode.encode_all.Goals as goal

pub returns-in-Ok-clause-encodes : goal.returns-in-Ok-clause-encodes
returns-in-Ok-clause-encodes g c =
    let rules = encoding_rules g.W.TellWrite.trace in
    let t = c.forward-answer.new.link in
    let over = rw (c.new-link.ensures, c.new.ensures.begun) at c.in-Ok.ensures.forwards in
    let answers = over.answers in
    let end = rw c.into_inner-source.ensures at c.end-answer.ensures in
    let before = Goes-per_ask rules _ t over.goes (λ s t asked. asked.some) in
    rw c.into_inner-source.ensures (record {
      ran = ended g.W.TellWrite.trace c.args.source c.args.target c.requires.empty c.requires.target.bytes t.filter _ answers.0
          answers.1.0 answers.3 c.end-answer.result.1 answers.1.1 c.end-answer.result.0 end;
      offers = Goes-offers g.W.TellWrite.trace _ t over.goes;
      promptly = record {
        prompt = HoldsNothingBack-on IsDue c.args.source.log _ _ c.args.target.log _ _ (Goes-holds rules _ t over.goes) refl
            end.writes;
        once = over.once;
        reads = over.reads;
        few = omega (arith, over.goes.few, end.few);
        flushes = omega (arith, over.flushes, end.flushes);
        per_ask = omega (arith, before, end.once);
      };
    })

pub returns-in-Err-clause-encodes : goal.returns-in-Err-clause-encodes
returns-in-Err-clause-encodes g c =
    let t = c.forward-answer.new.link in
    let over = rw (c.new-link.ensures, c.new.ensures.begun) at c.in-Err.ensures.forwards in
    rw (c.into_inner_torn.ensures, c.into_inner-source.ensures) (record {
      ran = stopped g.W.TellWrite.trace c.args.source c.args.target c.requires.empty c.requires.target.bytes t.filter _ _ _
          over.answers c.of.ensures;
      offers = Goes-offers g.W.TellWrite.trace _ t over.goes;
      promptly = Forwards-runs (encoding_rules g.W.TellWrite.trace) _ t _ over;
    })
