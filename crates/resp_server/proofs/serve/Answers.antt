-- Each arm makes of the one answer what is said of it.
use Rattle.std.proofs.Common.{Err, refl, sym, ◌∙◌}
use Rattle.codec.specs.declared.serving.ServeError.TheVariants.{Flush, Read, Write, Wrong}
use Rattle.resp_server.proofs.serve.Goals as goal

pub returns-in-Err-Read-clause-serves : goal.returns-in-Err-Read-clause-serves
returns-in-Err-Read-clause-serves g c = record {
  answer = Err (Read c.in-Err-Read.e);
  between = c.serve.new.replies;
  serves = rw c.in-Err-Read.field-0-is at c.in-Err-Read.ensures.serves;
  comes = (refl, refl);
}

pub returns-in-Err-Write-clause-serves : goal.returns-in-Err-Write-clause-serves
returns-in-Err-Write-clause-serves g c = record {
  answer = Err (Write c.in-Err-Write.e);
  between = c.serve.new.replies;
  serves = rw c.in-Err-Write.field-0-is at c.in-Err-Write.ensures.serves;
  comes = (refl, refl);
}

pub returns-in-Err-Flush-clause-serves : goal.returns-in-Err-Flush-clause-serves
returns-in-Err-Flush-clause-serves g c = record {
  answer = Err (Flush c.in-Err-Flush._ended c.in-Err-Flush.e);
  between = c.serve.new.replies;
  serves = rw c.in-Err-Flush.field-0-is at c.in-Err-Flush.ensures.serves;
  comes = (refl, refl);
}

pub returns-then-is_cut_off-clause-serves : goal.returns-then-is_cut_off-clause-serves
returns-then-is_cut_off-clause-serves g c = record {
  answer = Err (Wrong c.in-Err-Wrong.wrong);
  between = c.serve.new.replies;
  serves = rw c.in-Err-Wrong.field-0-is at c.in-Err-Wrong.ensures.serves;
  comes = rw (sym c.is_cut_off.ensures ∙ c.if-is_cut_off.true) c.tell.ensures;
}

pub returns-else-is_cut_off-clause-serves : goal.returns-else-is_cut_off-clause-serves
returns-else-is_cut_off-clause-serves g c = record {
  answer = Err (Wrong c.in-Err-Wrong.wrong);
  between = c.serve.new.replies;
  serves = rw c.in-Err-Wrong.field-0-is at c.in-Err-Wrong.ensures.serves;
  comes = rw (sym c.is_cut_off.ensures ∙ c.if-is_cut_off.false) c.tell-in-Err-Wrong.ensures;
}
