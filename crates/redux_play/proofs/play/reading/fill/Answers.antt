-- A fill hands nothing out, and what it says holds of the reader once its loan has ended.
use Rattle.std.proofs.Common.{ℕ, List, [], Option, Result, length, refl, sym, ap, arith, append-nil}
use Rattle.std.specs.Borrow.{Bor}
use Rattle.std.specs.declared.io.Error.{Error}
use Rattle.buffer_redux.specs.Policy.{ReadRules}
use Rattle.buffer_redux.specs.Buffered.{Buffered}
use Rattle.buffer_redux.specs.BufReader.{FillBuf}
use Rattle.buffer_redux.specs.FillLaws.{Filled-ok, Filled-err}
use Rattle.buffer_redux.specs.ReaderLaws.{FillBuf-along}
use Rattle.redux_play.specs.PlayReader.{HandsOut, with_handed}
use Rattle.redux_play.proofs.play.reading.fill.Goals as goal

-- a fill hands nothing out, whatever it answers
hands_none : {S P : Type 0} (remaining : S → Option (List ℕ)) (rules : ReadRules P) (s : Buffered S P)
    (answer : Result (Bor (List ℕ)) Error) (t : Buffered S P) (handed : List ℕ) → FillBuf remaining rules s answer t
    → HandsOut remaining rules (with_handed s handed) [] (with_handed t handed)
hands_none remaining rules s answer t handed f = record {
  handed = sym (append-nil handed);
  along = FillBuf-along remaining rules s answer t f;
  kind = f.fills.kind;
  noted = f.noted;
}

pub returns-in-Ok-clause-step : goal.returns-in-Ok-clause-step
returns-in-Ok-clause-step g c handed =
    let rules = g.P.ReaderPolicy.rules in
    let t = c.fill_buf.follows.lender-at-none in
    let f = rw c.in-Ok.is at c.fill_buf.follows.holds-at-none in
    record {
      out = [];
      hands_out = hands_none g.R.TellRead.remaining rules _ _ t handed f;
      answers = record {
        none = refl;
        count = ap length f.shown;
        caused = f.fills.caused;
        empty = λ zero. f.fills.empty refl (omega (arith, zero, ap length f.shown));
        fills = Filled-ok rules c.args.reader.now c.in-Ok.bytes (length c.in-Ok.bytes.now) t f.fills.filled;
      };
      sparing = λ _. f.fills.sparing;
    }

pub returns-in-Err-clause-step : goal.returns-in-Err-clause-step
returns-in-Err-clause-step g c handed =
    let rules = g.P.ReaderPolicy.rules in
    let t = c.fill_buf.follows.lender-at-none in
    let f = rw c.in-Err.is at c.fill_buf.follows.holds-at-none in
    record {
      out = [];
      hands_out = hands_none g.R.TellRead.remaining rules _ _ t handed f;
      answers = (
        refl,
        (c.in-Err.e, sym c.kind.ensures, (f.fills.caused, Filled-err rules c.args.reader.now c.in-Err.e t f.fills.filled)),
      );
      sparing = λ _. f.fills.sparing;
    }
