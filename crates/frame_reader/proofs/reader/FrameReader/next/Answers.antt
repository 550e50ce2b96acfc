-- What is lent is the payload that the step says; what is ready, too long or fits follows from its relation.
use Rattle.std.proofs.Common.{[], Ok, Err, Some, refl}
use Rattle.std.proofs.lemmas.List.Elements.{All-head}
use Rattle.std.proofs.lemmas.Result.{err_from_is_err_and}
use Rattle.codec.specs.NextPieceLaws.{shows_lent}
use Rattle.frame_reader.specs.Frames.{Fits}
use Rattle.frame_reader.specs.Next.{Next}
use Rattle.frame_reader.specs.NextLaws.{Next-ready, Next-too_long, Next-went}
use Rattle.frame_reader.proofs.Pieces.{Next-begins}
use Rattle.frame_reader.proofs.reader.FrameReader.next.Goals as goal

pub returns-in_err-span : goal.returns-in_err-span
returns-in_err-span g c =
    let remaining = g.R.TellRead.remaining in
    let s = c.args.self.now in
    let t = c.step.new.self in
    let e = c.in_err-span.field-0.0 in
    let p = err_from_is_err_and c.from_residual.result c.from_residual.ensures.1 in
    let fails : Next remaining s (Err e) t = c.in_err-span.ensures.next in
    rw (p.1, p.2) (
      (refl, (λ _. tt), fails),
      record {
        after_borrow = tt;
        begins = tt;
        fits = tt;
        ready = λ payload more fits front. (Next-ready remaining s t (Err e) fails payload more fits front).0;
        too_long = λ len above front. (Next-too_long remaining s t (Err e) fails len above front).0;
      },
    )

pub returns-in-Some : goal.returns-in-Some
returns-in-Some g c =
    let remaining = g.R.TellRead.remaining in
    let s = c.args.self.now in
    let t = c.step.new.self in
    let found = c.lent.result.now in
    let lends = shows_lent (λ o. Next remaining s o t) t _ c.in-Some.span found c.in-Some.is c.lent.ensures
    c.in_ok-span.ensures.next in (
      (refl, (λ _. tt), lends),
      record {
        after_borrow = tt;
        begins = Next-begins remaining s t found lends;
        fits = All-head (Fits s.decoder.max) found [] (Next-went remaining s t (Ok (Some found)) lends).fit;
        ready = λ payload more fits front. (Next-ready remaining s t (Ok (Some found)) lends payload more fits front).0;
        too_long = λ len above front. (Next-too_long remaining s t (Ok (Some found)) lends len above front).0;
      },
    )
