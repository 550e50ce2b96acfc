-- Each arm's answer is the call's own, and its payload is lost where memory for the copy is refused.
use Rattle.std.proofs.Common.{Ok, Some, ap, subst, ◌∙◌}
use Rattle.std.proofs.lemmas.Result.{err_from_is_err_and}
use Rattle.codec.specs.NextPiece.{answer_of}
use Rattle.frame_reader.specs.Next.{Next}
use Rattle.frame_reader.proofs.laws.runs.FrameReaderPayloadReader.next_copied.Goals as goal

pub returns-in-Ok-None-clause-next : goal.returns-in-Ok-None-clause-next
returns-in-Ok-None-clause-next g c =
    subst (λ r. Next g.R.TellRead.remaining c.args.self.now (answer_of r) c.next.follows.lender-at-none)
    (c.in-Ok-None.is ∙ ap (λ x. Ok x) c.in-Ok-None.field-0-is) c.next.follows.holds-at-none

pub returns-in_err-from_slice-in-Ok-Some-clause-lost : goal.returns-in_err-from_slice-in-Ok-Some-clause-lost
returns-in_err-from_slice-in-Ok-Some-clause-lost g c =
    let p = err_from_is_err_and c.from_residual.result c.from_residual.ensures.1 in
    rw p.1 (record {
      payload = c.in-Ok-Some.payload.now;
      next = subst (λ r. Next g.R.TellRead.remaining c.args.self.now (answer_of r) c.next.follows.lender-at-none)
          (c.in-Ok-Some.is ∙ ap (λ x. Ok x) (c.in-Ok-Some.field-0-is ∙ ap (λ x. Some x) c.in-Ok-Some.payload-is))
          c.next.follows.holds-at-none;
    })
