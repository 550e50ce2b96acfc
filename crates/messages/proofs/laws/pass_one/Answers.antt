-- Nothing was read of the body, so its head, and then all that the finish took, are one message.
use Rattle.std.proofs.Common.{[], ◌++◌, ◌∙◌, ap, subst, sym}
use Rattle.body_reader.specs.BodyReaderLaws.{BodyWent-none}
use Rattle.messages.specs.Names.{body_rules, EachReadGave, left_of, std_read_rules, unbuffered}
use Rattle.messages.specs.MessagesLaws.{Begun-gave, EachReadGave-joins, MessagesWent-one}
use Rattle.messages.proofs.laws.pass_one.Goals as goal

pub returns-in-Ok-finish-clause-passed : goal.returns-in-Ok-finish-clause-passed
returns-in-Ok-finish-clause-passed g c =
    let s = c.args.requests in
    let b = c.in-Ok.body in
    let begun = c.in-Ok.ensures.next in
    let ends = c.in-Ok-finish.ensures.ends in
    let gave = ends.drains.answers.0 in (
      b.head,
      [] ++ ends.drains.payload,
      MessagesWent-one g.R.TellRead.remaining s b b [] c.in-Ok-finish.next begun
          (BodyWent-none g.R.TellRead.remaining std_read_rules (body_rules b.body.coding) b.body) ends,
      subst (EachReadGave (left_of s)) (sym ends.left) (EachReadGave-joins (left_of s) (unbuffered b.body.reader)
          (unbuffered ends.end.reader) (Begun-gave g.R.TellRead.remaining s b begun) (gave.faults, gave.zero_reads)),
      c.in-Ok-finish.ensures.room ∙ begun.room,
      c.in-Ok-finish.ensures.limits ∙ ap (λ x. record { 0 = x.limits }) begun.enters.is,
    )
