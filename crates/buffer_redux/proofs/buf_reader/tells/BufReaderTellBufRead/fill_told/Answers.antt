-- The fill is noted before its bytes are lent, and what is lent is what the log tells as shown.
use Rattle.std.proofs.Common.{◌≡◌, Ok, refl, subst, sym, ap, ◌∙◌}
use Rattle.std.proofs.lemmas.Result.{err_from_is_err_and}
use Rattle.redux_buffer.specs.GoesOn.{GoesOn}
use Rattle.redux_buffer.specs.StreamLog.{with_shown, after_fill}
use Rattle.buffer_redux.specs.BufReader.{Fills}
use Rattle.buffer_redux.specs.ReaderTells.{reader_log, ReaderWent}
use Rattle.buffer_redux.specs.FillLaws.{Filled-ok, Filled-err}
use Rattle.buffer_redux.proofs.FillClaims.{fills}
use Rattle.buffer_redux.proofs.KnownAhead.{fill_begins}
use Rattle.buffer_redux.proofs.buf_reader.tells.BufReaderTellBufRead.fill_told.Goals as goal

pub returns-in_err-fill_noted : goal.returns-in_err-fill_noted
returns-in_err-fill_noted g c =
    let rules = g.P.ReaderPolicy.rules in
    let p = err_from_is_err_and c.from_residual.result c.from_residual.ensures.1 in
    let f = c.in_err-fill_noted.ensures in
    let bytes = c.fill_noted.new.self.block.bytes in
    let done = fills rules _ _ _ f.whole (Filled-err rules _ _ _ f.filled) in
    let shows : GoesOn c.args.self.now.block.bytes bytes =
    record { more = done.in_order.got; equal = done.in_order.equal } in
    rw (p.1, p.2) (
      (
        refl,
        (λ _. tt),
        ((bytes, ap (λ l. with_shown l bytes) f.noted, shows), f.went, done),
      ),
      record { buffered = tt; after_borrow = tt },
    )

pub returns : goal.returns
returns g c =
    let rules = g.P.ReaderPolicy.rules in
    let s = c.args.self.now in
    let t = c.fill_noted.new.self in
    let f = c.in_ok-fill_noted.ensures in
    let done = fills rules s _ t f.whole (Filled-ok rules _ _ c.buf.result _ f.filled) in
    let shown : t.block.bytes ≡ c.buf.result.now =
    sym (c.buf.ensures ∙ ap (λ x. x.block.bytes) c.self.view_is) in
    let tells : reader_log t ≡ after_fill (reader_log s) (Ok c.buf.result) c.buf.result.now =
    subst (λ l. reader_log t ≡ after_fill (reader_log s) (Ok c.buf.result) l) shown
    (ap (λ l. with_shown l t.block.bytes) f.noted) in (
      (
        refl,
        (λ _. tt),
        (
          (
            ap reader_log c.self.view_is ∙ tells,
            subst (GoesOn s.block.bytes) shown (record { more = done.in_order.got; equal = done.in_order.equal }),
          ),
          subst (ReaderWent g.R.TellRead.remaining rules s) (sym c.self.view_is) f.went,
          subst (Fills rules s (Ok c.buf.result)) (sym c.self.view_is) done,
        ),
      ),
      record {
        buffered = fill_begins g.R.TellRead.remaining rules s t done.in_order f.went.known c.buf.result.now (sym shown);
        after_borrow = tt;
      },
    )
