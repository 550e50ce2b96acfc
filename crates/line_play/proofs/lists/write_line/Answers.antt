-- The end is written only where the line was, and an error of either is the answer.
use Rattle.std.proofs.Common.{Ok, Err, refl}
use Rattle.std.proofs.lemmas.Result.{err_from_is_err_and}
use Rattle.line_play.proofs.lists.write_line.Goals as goal

pub returns-in_err-write_all : goal.returns-in_err-write_all
returns-in_err-write_all g c =
    let p = err_from_is_err_and c.from_residual.result c.from_residual.ensures.1 in record {
      writing = Err c.in_err-write_all.field-0.0;
      between = c.write_all.new.self;
      wrote = c.in_err-write_all.ensures.steps;
      ended = (rw (p.1, p.2) refl, refl);
    }

pub returns-in_err-write_all-2 : goal.returns-in_err-write_all-2
returns-in_err-write_all-2 g c =
    let p =
    err_from_is_err_and c.from_residual-in_err-write_all-2.result c.from_residual-in_err-write_all-2.ensures.1 in record {
      writing = Ok tt;
      between = c.write_all.new.self;
      wrote = c.in_ok-write_all.ensures.steps;
      ended = rw (p.1, p.2) c.in_err-write_all-2.ensures.steps;
    }

pub returns : goal.returns
returns g c = record {
  writing = Ok tt;
  between = c.write_all.new.self;
  wrote = c.in_ok-write_all.ensures.steps;
  ended = c.in_ok-write_all-2.ensures.steps;
}
