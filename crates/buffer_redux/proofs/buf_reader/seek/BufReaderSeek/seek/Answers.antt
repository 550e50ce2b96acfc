-- A seek back by what is buffered goes to where the reader stands, and the second goes on from there.
use Rattle.std.proofs.Common.{◌≡◌, ◌-◌, ◌-ℤ◌, int_le, inl, inr, [], MatchResult, ℕ, ℤ, List, Option, None, Some, Result, Ok, Err, length, pos, neg_ℤ, zero, suc, ap, ◌∙◌, refl, arith, to_z-of_z, SFits, w64, ◌^◌}
use Rattle.std.specs.Prelude.{nat_le, if◌then◌else◌}
use Rattle.std.specs.Option.{option_and_then}
use Rattle.std.specs.Io.Seek.{IsAtOffset, SeekMoves}
use Rattle.std.specs.declared.io.Error.{Error}
use Rattle.std.specs.declared.io.traits.SeekFrom.{SeekFrom}
use Rattle.std.specs.declared.io.traits.SeekFrom.TheVariants.{Start, End, Current}
use Rattle.std.proofs.lemmas.Bool.{cases_Bool}
use Rattle.redux_buffer.specs.Block.{Block, Clears}
use Rattle.std.proofs.lemmas.Result.{err_from_is_err_and}
use Rattle.buffer_redux.specs.Seek.{plan_for}
use Rattle.buffer_redux.specs.declared.buf_reader.seek.SeekPlan.TheVariants.{Two}
use Rattle.buffer_redux.proofs.buf_reader.seek.BufReaderSeek.seek.Goals as goal

-- the place that is len bytes before one that is known
abbrev place_before : ℕ → Option ℕ → Option ℕ
place_before len known = option_and_then (λ place. if nat_le len place then Some (place - len) else None) known

-- a seek back by what is buffered goes to where the reader stands, and the next one goes on from there
went_back : (len place n : ℕ) → IsAtOffset place (neg_ℤ (pos len)) n → place_before len (Some place) ≡ Some n
went_back zero place n back = grind (arith, back)
went_back (suc len) place n back = grind (arith, back)

nothing_left : (n : ℕ) → place_before 0 (Some n) ≡ Some n
nothing_left n = grind arith

two_moves : (known between after : Option ℕ) (b b' : Option (List ℕ)) (len n : ℕ) (offset : ℤ) (answer : Result ℕ Error)
    → SeekMoves {E = Error} known between b (Current (neg_ℤ (pos len))) (Ok n)
    → SeekMoves between after b' (Current offset) answer
    → SeekMoves (place_before len known) (place_before 0 after) b (Current offset) answer
two_moves None between after b b' len n offset answer back on = tt
two_moves (Some place) between after b b' len n offset (Ok m) back on =
    let on : IsAtOffset n offset m × (after ≡ Some m) = rw back.1 at on in
    rw (went_back len place n back.0) (on.0, ap (place_before 0) on.1 ∙ nothing_left m)
two_moves (Some place) between after b b' len n offset (Err e) back on =
    let on : after ≡ Some n = rw back.1 at on in
    rw (went_back len place n back.0) (ap (place_before 0) on ∙ nothing_left n)

-- which plan is of two seeks
two_planned : (to : SeekFrom) (len : ℕ) (first second : ℤ) → plan_for to len ≡ Two first second
    → (to ≡ Current second) × (first ≡ neg_ℤ (pos len))
two_planned (Start n) len first second plan = absurd (cc)
two_planned (End n) len first second plan = absurd (cc)
two_planned (Current n) len first second plan = elim (cases_Bool (int_le (neg_ℤ (pos (2 ^ 63))) (n -ℤ pos len))) [
  | inl fits ↦ absurd (cc (rw fits at plan))
  | inr wide ↦
      let plan : Two (neg_ℤ (pos len)) n ≡ Two first second = rw wide at plan in
      (cc, cc)
]

emptied : (answer : Result ℕ Error) (a b c : Block) → Clears a b → MatchResult answer (λ _. Clears b c) (λ _. c ≡ b)
    → c.bytes ≡ []
emptied (Ok n) a b c begun ended = ended.bytes
emptied (Err e) a b c begun ended = ap (λ x. x.bytes) ended ∙ begun.bytes

-- the offsets of the plan fit an i64, so each seek is by just those
pub returns-in_err-seek_once-in-Two-clause-seeks : goal.returns-in_err-seek_once-in-Two-clause-seeks
returns-in_err-seek_once-in-Two-clause-seeks g c =
    let back : SFits w64 c.in-Two.back = search in
    let plan : plan_for c.args.to (length c.args.self.now.block.bytes) ≡ Two c.in-Two.back c.in-Two.offset =
    rw (← c.self.view_is, ← c.len.ensures.value, ← c.seek_plan.ensures) c.in-Two.is in
    let p = err_from_is_err_and c.from_residual.result c.from_residual.ensures.1 in
    rw (plan, p.1, p.2)
    (c.seek_once-in-Two.new.self, _, simp to_z-of_z at c.in_err-seek_once-in-Two.ensures.seeks, (refl, refl))

pub returns-in_ok-seek_once-in-Two-clause-seeks : goal.returns-in_ok-seek_once-in-Two-clause-seeks
returns-in_ok-seek_once-in-Two-clause-seeks g c =
    let back : SFits w64 c.in-Two.back = search in
    let offset : SFits w64 c.in-Two.offset = search in
    let plan : plan_for c.args.to (length c.args.self.now.block.bytes) ≡ Two c.in-Two.back c.in-Two.offset =
    rw (← c.self.view_is, ← c.len.ensures.value, ← c.seek_plan.ensures) c.in-Two.is in
    rw plan (
      c.seek_once-in-Two.new.self,
      _,
      simp to_z-of_z at c.in_ok-seek_once-in-Two.ensures.seeks,
      simp to_z-of_z at c.seek_once-in-Two-2.ensures.seeks,
    )

pub returns-in_ok-seek_once-in-Two-clause-moves : goal.returns-in_ok-seek_once-in-Two-clause-moves
returns-in_ok-seek_once-in-Two-clause-moves g c =
    let back : SFits w64 c.in-Two.back = search in
    let offset : SFits w64 c.in-Two.offset = search in
    let len = length c.args.self.now.block.bytes in
    let plan : plan_for c.args.to len ≡ Two c.in-Two.back c.in-Two.offset =
    rw (← c.self.view_is, ← c.len.ensures.value, ← c.seek_plan.ensures) c.in-Two.is in
    let is = two_planned c.args.to len _ _ plan in
    let first = simp to_z-of_z at c.in_ok-seek_once-in-Two.ensures in
    let second = simp to_z-of_z at c.seek_once-in-Two-2.ensures in
    let none = emptied c.seek_once-in-Two-2.result _ _ _ first.seeks.block second.seeks.block in
    rw (is.0, none) (two_moves _ _ _ None None len c.in_ok-seek_once-in-Two.field-0 c.in-Two.offset c.seek_once-in-Two-2.result
    (rw is.1 at first.moves) second.moves)
