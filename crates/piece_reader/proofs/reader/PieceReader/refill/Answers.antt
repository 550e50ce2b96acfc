-- Nothing was left and one byte is asked for, so where none came the stream ended, which stays untold.
use Rattle.std.proofs.Common.{Ok, Err, not, true, false, refl, subst, sym}
use Rattle.std.proofs.lemmas.Result.{err_from_is_err_and}
use Rattle.piece_reader.specs.NextPiece.{Refills}
use Rattle.piece_reader.specs.PieceReader.{ReaderState}
use Rattle.piece_reader.specs.Steps.{AsksFor}
use Rattle.piece_reader.proofs.Refilling.{came_left, ends, fails, refilled}
use Rattle.piece_reader.proofs.reader.PieceReader.refill.Goals as goal

pub returns-in_err-came : goal.returns-in_err-came
returns-in_err-came g c =
    let remaining = g.R.TellRead.remaining in
    let grammar = g.D.Decoder.grammar in
    let s = c.args.self.now in
    let m = c.drop_handed.new.self in
    let t = c.read_to.new.self in
    let d = c.drop_handed.ensures in
    let e = c.in_err-came.field-0.0 in
    let p = err_from_is_err_and c.from_residual.result c.from_residual.ensures.1 in
    let asked = subst (λ x. AsksFor remaining (grammar x) 1 m (Err e) t) d.went.decoder c.in_err-came.ensures in
    let failed = fails remaining (grammar s.decoder) s m d.went d.ended d.told t e asked in
    rw (p.1, p.2) (record { came = came_left remaining (grammar s.decoder) s t (Err e) failed; refills = failed })

pub returns : goal.returns
returns g c =
    let remaining = g.R.TellRead.remaining in
    let grammar = g.D.Decoder.grammar in
    let s = c.args.self.now in
    let m = c.drop_handed.new.self in
    let d = c.drop_handed.ensures in
    let i = c.self.inside in
    let t : ReaderState g.row.R.Denot g.row.D.Denot =
    record { reader = i.reader; decoder = i.decoder; handed = i.handed; seen = i.seen; ended = i.ended } in
    let asked = subst (λ x. AsksFor remaining (grammar x) 1 m (Ok c.in_ok-came.came) c.read_to.new.self) d.went.decoder
    c.in_ok-came.ensures in
    let here = subst (AsksFor remaining (grammar s.decoder) 1 m (Ok c.in_ok-came.came)) (sym c.self.view_is) asked in
    let refills = elim c.in_ok-came.came as (λ b. AsksFor remaining (grammar s.decoder) 1 m (Ok b) t
    → Refills remaining (grammar s.decoder) s (Ok b) (record t { ended = not b })) [
      | true ↦ refilled remaining (grammar s.decoder) s m d.went d.ended d.told t true false refl refl
      | false ↦ ends remaining (grammar s.decoder) s m d.went d.ended d.told t false true refl refl
    ] here in
    record { came = came_left remaining (grammar s.decoder) s _ _ refills; refills = refills }
