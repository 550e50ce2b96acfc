-- What the fill says doesn't hang on what its Ok carries, and the hand-out goes on from there.
use Rattle.std.proofs.Common.{refl}
use Rattle.std.proofs.lemmas.Result.{err_from_is_err_and}
use Rattle.buffer_redux.specs.FillLaws.{Filled-ok, Filled-err}
use Rattle.buffer_redux.proofs.buf_reader.BufReader.read_slowly.Goals as goal

pub returns-in_err-fill_on-clause-read : goal.returns-in_err-fill_on-clause-read
returns-in_err-fill_on-clause-read g c s asked =
    let p = err_from_is_err_and c.from_residual.result c.from_residual.ensures.1 in
    let f = c.in_err-fill_on.ensures.fill s asked in
    rw (p.1, p.2) (
      record {
        filled = Filled-err g.P.ReaderPolicy.rules _ _ _ f.filled;
        known = f.known;
        ended = f.ended;
        noted = f.noted;
        whole = f.whole;
      },
      refl,
    )

pub returns-clause-read : goal.returns-clause-read
returns-clause-read g c s asked =
    let f = c.in_ok-fill_on.ensures.fill s asked in
    let h = c.hand_out.ensures in (
      c.fill_on.new.self,
      record {
        filled = Filled-ok g.P.ReaderPolicy.rules _ _ c.hand_out.result _ f.filled;
        known = f.known;
        ended = f.ended;
        noted = f.noted;
        whole = f.whole;
      },
      h.hands,
    )
