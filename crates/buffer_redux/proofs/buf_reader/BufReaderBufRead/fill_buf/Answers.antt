-- The bytes shown are all that are buffered: they begin with what was, and are the front of what is ahead.
use Rattle.std.proofs.Common.{◌≡◌, Ok, refl, subst, sym, ap, ◌∙◌}
use Rattle.std.proofs.lemmas.Result.{err_from_is_err_and}
use Rattle.buffer_redux.specs.BufReader.{Fills, InnerGives}
use Rattle.buffer_redux.specs.ReaderLaws.{Fills-empty, IfSome-any}
use Rattle.buffer_redux.specs.Remaining.{reader_remaining}
use Rattle.buffer_redux.specs.FillLaws.{Filled-ok, Filled-err}
use Rattle.buffer_redux.proofs.FillClaims.{fills}
use Rattle.buffer_redux.proofs.KnownAhead.{fill_front, fill_begins, fill_end}
use Rattle.buffer_redux.proofs.buf_reader.BufReaderBufRead.fill_buf.Goals as goal

pub returns-in_err-fill : goal.returns-in_err-fill
returns-in_err-fill g c =
    let rules = g.P.ReaderPolicy.rules in
    let s = c.args.self.now in
    let known = reader_remaining g.R.TellRead.remaining rules s in
    let p = err_from_is_err_and c.from_residual.result c.from_residual.ensures.1 in
    let f = c.in_err-fill.ensures in
    rw (p.1, p.2) (
      (
        refl,
        (λ _. tt),
        record {
          fills = fills rules _ _ _ f.whole (Filled-err rules _ _ _ f.filled);
          known = f.known;
          shown = tt;
          noted = f.noted;
        },
      ),
      record {
        buffered = tt;
        front = IfSome-any known _ (λ _. tt);
        end = IfSome-any known _ (λ _. tt);
        after_borrow = tt;
      },
    )

pub returns : goal.returns
returns g c =
    let rules = g.P.ReaderPolicy.rules in
    let remaining = g.R.TellRead.remaining in
    let s = c.args.self.now in
    let t = c.fill.new.self in
    let f = c.in_ok-fill.ensures in
    let done = fills rules s _ t f.whole (Filled-ok rules _ _ c.buf.result _ f.filled) in
    let shown : c.buf.result.now ≡ t.block.bytes = c.buf.ensures ∙ ap (λ x. x.block.bytes) c.self.view_is in (
      (
        refl,
        (λ _. tt),
        record {
          fills = subst (Fills rules s (Ok c.buf.result)) (sym c.self.view_is) done;
          known = subst (InnerGives remaining s) (sym c.self.view_is) f.known;
          shown = c.buf.ensures;
          noted = ap (λ b. b.own_calls) c.self.view_is ∙ f.noted;
        },
      ),
      record {
        buffered = fill_begins remaining rules s t done.in_order f.known c.buf.result.now shown;
        front = fill_front remaining rules s t done.in_order f.known c.buf.result.now shown;
        end = fill_end remaining rules s t done.in_order f.known c.buf.result.now shown
            (λ wants room none. f.end (Fills-empty rules s c.buf.result t done wants room none));
        after_borrow = tt;
      },
    )
