-- What was skipped, then what is left, is what was left, then what came; so dropping as many bytes leaves that.
use Rattle.std.proofs.Common.{subst, sym}
use Rattle.line_reader.proofs.Fronts.{SkipsLine-left}
use Rattle.line_reader.specs.SkipLine.{DropsThrough, SkipsLine}
use Rattle.line_reader.proofs.reader.LineReader.skip_line.Goals as goal

pub returns : goal.returns
returns g c =
    let remaining = g.R.TellRead.remaining in
    let answer = c.drop_through-dropped.result in
    let flag = c.is_err-self-inside.result in
    let t = c.self-2.inside.pieces in
    let skips = subst (λ x. SkipsLine remaining x answer (record { pieces = t; skipping = flag })) c.self.view_is (record {
      drops = subst (λ x. DropsThrough remaining c.self.inside.pieces answer x.pieces) (sym c.self-2.view_is)
          c.drop_through-dropped.ensures;
      skipping = c.is_err-self-inside.ensures.value;
    }) in
    record { left = SkipsLine-left remaining c.args.self.now _ answer skips; skips = skips }
