-- An end in front of `from` would stand within the searched bytes, so the first behind it is the first of all.
use Rattle.std.proofs.Common.{arith}
use Rattle.piece_reader.proofs.Terminating.{found_behind, none_behind}
use Rattle.piece_reader.proofs.terminated.first_end.Goals as goal

pub returns-in-Some : goal.returns-in-Some
returns-in-Some c =
    found_behind c.args.end.now c.args.bytes.now c.args.seen c.saturating_sub-from.result c.requires.within
    (omega (arith, c.saturating_sub-from.ensures)) c.requires.some c.requires.searched c.in-Some.at c.in-Some.ensures.0.before
    c.in-Some.ensures.1

pub returns-in-None : goal.returns-in-None
returns-in-None c =
    none_behind c.args.end.now c.args.bytes.now c.args.seen c.saturating_sub-from.result c.requires.within
    (omega (arith, c.saturating_sub-from.ensures)) c.requires.some c.requires.searched c.in-None.ensures
