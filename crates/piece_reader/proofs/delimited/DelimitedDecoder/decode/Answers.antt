-- What was looked at settles nothing, so it is plain and at most `max` bytes: the search begins behind it.
use Rattle.std.proofs.Common.{arith, take}
use Rattle.piece_reader.specs.DelimitedLaws.{open_plain}
use Rattle.piece_reader.proofs.Delimiting.{found_piece, seen_few, wants_one}
use Rattle.piece_reader.proofs.delimited.DelimitedDecoder.decode.Goals as goal

pub find_end-requires-clause-order : goal.find_end-requires-clause-order
find_end-requires-clause-order c =
    let d = c.args.self.now in
    omega (
      arith,
      c.min-to.ensures,
      c.requires.within,
      seen_few d.end d.max c.args.bytes.now c.args.seen c.requires.within c.requires.open,
    )

pub find_end-requires-clause-plain : goal.find_end-requires-clause-plain
find_end-requires-clause-plain c =
    let d = c.args.self.now in
    (open_plain d.end d.max (take c.args.seen c.args.bytes.now) c.requires.open).0

pub returns-in-Some-clause-finds : goal.returns-in-Some-clause-finds
returns-in-Some-clause-finds c =
    let d = c.args.self.now in
    let found = c.in-Some.ensures.found in
    found_piece d.end d.max c.args.bytes.now c.in-Some.len (omega (arith, found.0, c.min-to.ensures))
    (omega (arith, found.0, c.min-to.ensures)) found.1

pub returns-else-bytes-self-clause-finds : goal.returns-else-bytes-self-clause-finds
returns-else-bytes-self-clause-finds c =
    let d = c.args.self.now in
    wants_one d.end d.max c.args.bytes.now c.min-to.result c.min-to.ensures c.in-None.ensures.none c.if-bytes-self.false
