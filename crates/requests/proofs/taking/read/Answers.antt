-- What a read did.
use Rattle.std.proofs.Common.{Err, inl, inr, Ok, arith, subst, sym}
use Rattle.requests.proofs.Names.{body_rules, cases_lt, TookWholeBody}
use Rattle.requests.proofs.Reading.{read_asked, read_fails, steady_gave}
use Rattle.requests.proofs.taking.read.Goals as goal

pub returns-in-Ok-clause-reads : goal.returns-in-Ok-clause-reads
returns-in-Ok-clause-reads g c =
    let gave = c.in-Ok.ensures.reads.answers.1 in
    let asked = read_asked g.R.TellRead.remaining c.args.body.now c.read.new.self c.read.new.out (Ok c.in-Ok.count)
    c.in-Ok.ensures.reads in
    record {
      steady = steady_gave asked gave.faults gave.zero_reads gave.asks;
      same = gave.faults;
      more = elim (cases_lt 0 c.in-Ok.count) [
        | inl some ↦ inr some
        | inr none ↦ inl (subst (λ x. TookWholeBody (body_rules x) c.read.new.self.body) (sym c.in-Ok.ensures.goes.went.coding)
            (c.in-Ok.ensures.reads.answers.2 (omega (arith, none)) (omega (arith, c.requires.some, c.read.auto.out))))
      ];
    }

pub returns-in-Err-clause-asked : goal.returns-in-Err-clause-asked
returns-in-Err-clause-asked g c = read_asked g.R.TellRead.remaining c.args.body.now c.read.new.self c.read.new.out
    (Err c.in-Err.e) c.in-Err.ensures.reads

pub returns-in-Err-clause-fails : goal.returns-in-Err-clause-fails
returns-in-Err-clause-fails g c =
    read_fails g.R.TellRead.remaining c.args.body.now c.read.new.self c.read.new.out c.in-Err.e c.in-Err.ensures.reads
