-- Words ask for one buffer and one capacity at most, within range.
use Rattle.std.proofs.Common.{refl}
use Rattle.std.proofs.lemmas.Result.{MatchResult-from_both}
use Rattle.copier.proofs.Moving.{IsBeginning-none}
use Rattle.copier.proofs.SettingsFacts.{asked_in_range, one_asked}
use Rattle.copier.proofs.run.run_asked.Goals as goal

pub run-answer-requires-clause-some : goal.run-answer-requires-clause-some
run-answer-requires-clause-some g c = (asked_in_range _ _ _ ((c.in-Some.ensures c.in-Some.ring c.in-Some.cap).0 refl)).0

pub run-answer-requires-clause-most : goal.run-answer-requires-clause-most
run-answer-requires-clause-most g c = (asked_in_range _ _ _ ((c.in-Some.ensures c.in-Some.ring c.in-Some.cap).0 refl)).1

pub returns-in_default-clause-a_beginning : goal.returns-in_default-clause-a_beginning
returns-in_default-clause-a_beginning g c = IsBeginning-none _ _

pub returns-clause-ran : goal.returns-clause-ran
returns-clause-ran g c = λ ring cap asks.
    let is = one_asked (ring, cap) (c.in-Some.ring, c.in-Some.cap) ((c.in-Some.ensures ring cap).1 asks) in
    rw (is.0, is.1) (
      c.run-answer.result.0,
      c.of.ensures,
      MatchResult-from_both c.run-answer.result.0 _ _ c.run-answer.ensures.copied c.run-answer.ensures.stopped,
      c.run-answer.ensures.through,
    )
