-- Messages join where the one ends and the next begins, and a text is cut into so many in one way.
use Rattle.std.proofs.Common.{◌++◌, Some, ap, sym, ◌∙◌}
use Rattle.messages.specs.Names.{left_of, StreamWent-front}
use Rattle.messages.specs.MessagesLaws.{MessagesWent-joins, MessagesWent-one, one_cut}
use Rattle.messages.proofs.laws.no_byte_between.Goals as goal

pub returns-clause-one : goal.returns-clause-one
returns-clause-one g c = λ s b m handed begun goes ends.
    MessagesWent-one g.R.TellRead.remaining s b m handed c.args.requests.now begun goes.went ends

pub returns-clause-many : goal.returns-clause-many
returns-clause-many g c = λ limits s m messages more.
    MessagesWent-joins g.R.TellRead.remaining limits s m (left_of c.args.requests.now) messages more

pub returns-clause-known : goal.returns-clause-known
returns-clause-known g c = λ limits s messages others text behind went known are many.
    let end = left_of c.args.requests.now in
    let left = StreamWent-front g.R.TellRead.remaining s end went.bytes (text ++ behind) went.went known in
    let same = one_cut limits messages others went.bytes text left.0 behind many went.are are (sym left.2) in
    (same.0, left.1 ∙ ap (λ l. Some l) same.1)
