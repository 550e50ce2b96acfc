-- Each exit is behind the call that failed, or behind both.
use Rattle.std.proofs.Common.{Ok, refl}
use Rattle.std.proofs.lemmas.Result.{err_from_is_err_and}
use Rattle.resp_server.proofs.tell.Goals as goal

pub returns-in_err-write_all : goal.returns-in_err-write_all
returns-in_err-write_all g c =
    let p = err_from_is_err_and c.from_residual.result c.from_residual.ensures.1 in
    rw (p.1, p.2) (record {
      writing = _;
      written = c.write_all.new.self;
      writes = c.in_err-write_all.ensures.steps;
      ends = (refl, refl);
    })

pub returns-in_err-flush : goal.returns-in_err-flush
returns-in_err-flush g c =
    let p = err_from_is_err_and c.from_residual-in_err-flush.result c.from_residual-in_err-flush.ensures.1 in
    rw (p.1, p.2) (record {
      writing = _;
      written = c.write_all.new.self;
      writes = c.in_ok-write_all.ensures.steps;
      ends = (_, c.in_err-flush.ensures.flushed, refl);
    })

pub returns : goal.returns
returns g c = record {
  writing = _;
  written = c.write_all.new.self;
  writes = c.in_ok-write_all.ensures.steps;
  ends = (_, c.in_ok-flush.ensures.flushed, refl);
}
