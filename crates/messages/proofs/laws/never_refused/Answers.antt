-- The law that no head of a request is refused at any of its bytes.
use Rattle.codec.specs.declared.HeaderError.TheVariants.{NoHeader}
use Rattle.messages.specs.LinesLaws.{never_refused}
use Rattle.messages.proofs.laws.never_refused.Goals as goal

pub returns-clause-right : goal.returns-clause-right
returns-clause-right c = λ h minor is small ends few front more equal.
    never_refused h minor is small ends few front more equal NoHeader

pub returns-clause-never : goal.returns-clause-never
returns-clause-never c = never_refused
