-- By the note the end stands nowhere in what was looked at, so what the search finds or lacks, all bytes do.
use Rattle.std.proofs.Common.{◌≡◌, ◌+◌, ◌≤◌, ℕ, ap, arith, length, min, refl, subst, sym, take}
use Rattle.memchr.specs.Find.{Nowhere, OccursAt}
use Rattle.piece_reader.specs.Decoding.{IsPiece}
use Rattle.piece_reader.specs.Terminated.{NeverEnds, terminated}
use Rattle.piece_reader.proofs.Terminating.{found_terminated, searched_all, seen_before, stands_nowhere, wants_byte}
use Rattle.piece_reader.proofs.terminated.TerminatedDecoder.decode.Goals as goal
use Rattle.piece_reader.proofs.terminated.TerminatedDecoder.decode.Goals.{After-first_end, After-min-to}

-- how much is looked at
looked : (c : After-min-to)
    → c.min-to.result ≡ min (length c.args.bytes.now) (c.args.self.now.max + length c.args.self.now.end.items)
looked c = omega (arith, c.min-to.ensures, ap length c.as_slice-end.ensures.value)

pub first_end-requires-clause-searched : goal.first_end-requires-clause-searched
first_end-requires-clause-searched c =
    let d = c.args.self.now in
    let before = seen_before d.end.items d.max c.args.bytes.now c.min-to.result
    (looked ((goal.at.first_end-requires-clause-searched c).After-min-to)) c.args.seen c.requires.within c.requires.noted in
    subst (λ l. (k : ℕ) → k + length l ≤ c.args.seen → ¬ OccursAt (take c.min-to.result c.args.bytes.now) l k)
    (sym c.as_slice-end.ensures.value) (λ k fits. before.1 k fits d.some)

pub returns-in-Some-clause-finds : goal.returns-in-Some-clause-finds
returns-in-Some-clause-finds c =
    let d = c.args.self.now in
    let shown = take c.min-to.result c.args.bytes.now in
    let same = c.as_slice-end.ensures.value in
    subst (λ l. IsPiece (terminated d.end.items d.max) c.args.bytes.now (record { from = 0; len = c.in-Some.len })
    (c.in-Some.len + length l)) (sym same)
    (found_terminated d.end.items d.max c.args.bytes.now c.min-to.result
    (looked ((goal.at.returns-in-Some-clause-finds c).After-min-to)) c.in-Some.len
    (subst (λ l. Nowhere (OccursAt shown l) 0 c.in-Some.len) same c.in-Some.ensures.0.before)
    (subst (λ l. OccursAt shown l c.in-Some.len) same c.in-Some.ensures.1))

-- it stands nowhere in what was looked at
none : (c : After-first_end)
    → Nowhere (OccursAt (take c.min-to.result c.args.bytes.now) c.as_slice-end.result.now) 0
    (length (take c.min-to.result c.args.bytes.now) + 1)
    → Nowhere (OccursAt (take c.min-to.result c.args.bytes.now) c.args.self.now.end.items) 0
    (length (take c.min-to.result c.args.bytes.now) + 1)
none c h = subst (λ l. Nowhere (OccursAt (take c.min-to.result c.args.bytes.now) l) 0
    (length (take c.min-to.result c.args.bytes.now) + 1)) c.as_slice-end.ensures.value h

pub may_end-requires-clause-none : goal.may_end-requires-clause-none
may_end-requires-clause-none c =
    stands_nowhere c.as_slice-end.result.now c.args.self.now.max c.args.bytes.now c.min-to.result c.min-to.ensures
    c.in-None.ensures

pub returns-then-may_end-clause-finds : goal.returns-then-may_end-clause-finds
returns-then-may_end-clause-finds c =
    let d = c.args.self.now in
    let at = (goal.at.returns-then-may_end-clause-finds c) in
    let same = c.as_slice-end.ensures.value in
    wants_byte d.end.items d.max c.args.bytes.now c.min-to.result (looked at.After-min-to)
    (none at.After-first_end c.in-None.ensures)
    (omega (arith, c.may_end.ensures.few c.if-may_end.true, ap length same))
    (subst (λ l. ¬ (NeverEnds l (d.max + 1) c.args.bytes.now)) same (c.may_end.ensures.may c.if-may_end.true))

pub returns-then-may_end-clause-leaves : goal.returns-then-may_end-clause-leaves
returns-then-may_end-clause-leaves c =
    let d = c.args.self.now in
    let at = (goal.at.returns-then-may_end-clause-leaves c) in
    searched_all d.end.items d.max c.args.bytes.now c.min-to.result (looked at.After-min-to)
    (none at.After-first_end c.in-None.ensures)
    (omega (arith, c.may_end.ensures.few c.if-may_end.true, ap length c.as_slice-end.ensures.value))

pub returns-else-may_end-clause-finds : goal.returns-else-may_end-clause-finds
returns-else-may_end-clause-finds c =
    let d = c.args.self.now in (
      subst (λ l. NeverEnds l (d.max + 1) c.args.bytes.now) c.as_slice-end.ensures.value
          (c.may_end.ensures.never c.if-may_end.false),
      refl,
    )
