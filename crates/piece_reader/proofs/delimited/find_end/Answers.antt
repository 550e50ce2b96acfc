-- The first bytes are plain, so the first end in the window behind them is the first of all.
use Rattle.std.proofs.Common.{◌-◌, arith, drop, length-take-le, length-drop}
use Rattle.piece_reader.proofs.Searching.{found_in, none_in}
use Rattle.piece_reader.proofs.delimited.find_end.Goals as goal

pub returns-in-Some-clause-found : goal.returns-in-Some-clause-found
returns-in-Some-clause-found c =
    let found = c.in-Some.ensures.found in
    let bytes = c.args.bytes.now in
    let size = length-take-le (c.args.to - c.args.from) (drop c.args.from bytes)
    (omega (arith, length-drop c.args.from bytes, c.requires.within)) in (
      omega (arith, found.0, size, c.requires.order),
      found_in c.args.end c.args.from c.args.to c.in-Some.at bytes c.requires.plain found.0 found.1,
    )

pub returns-in-None-clause-none : goal.returns-in-None-clause-none
returns-in-None-clause-none c =
    none_in c.args.end c.args.from c.args.to c.args.bytes.now c.requires.order c.requires.plain c.in-None.ensures.none
