-- A read that gives less than it was lent tells that no more payload is buffered, and 8191 bytes were lent.
use Rattle.std.proofs.Common.{arith, inl, inr, length-take-le, subst, sym}
use Rattle.bodies.specs.Words.{IsBodyReader, chunked}
use Rattle.bodies.proofs.DecodingCalls.{shown_none}
use Rattle.bodies.proofs.decoding.read_held.Goals as goal

pub returns-clause-all : goal.returns-clause-all
returns-clause-all g c =
    let hands = c.read_buffered.ensures.reads in
    elim hands.all [
      | inl all ↦ inl (omega (
        arith,
        all,
        c.requires,
        c.read_buffered.auto.out,
        length-take-le 8191 c.args.piece.now (omega (arith, c.requires)),
      ))
      | inr why ↦ inr (shown_none c.args.source.now c.read_buffered.new.self hands.went.coding hands.whole why)
    ]

pub returns-clause-whole : goal.returns-clause-whole
returns-clause-whole g c =
    let hands = c.read_buffered.ensures.reads in
    subst (λ x. IsBodyReader (chunked x.0) c.read_buffered.new.self) (sym hands.went.coding) hands.whole

pub slice_bounds-read_buffered-end-2 : goal.slice_bounds-read_buffered-end-2
slice_bounds-read_buffered-end-2 g c =
    omega (arith, c.requires, length-take-le 8191 c.args.piece.now (omega (arith, c.requires)))
