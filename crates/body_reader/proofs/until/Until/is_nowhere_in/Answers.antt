-- It would stand in the first bytes, or behind all but as many of them as it has.
use Rattle.std.proofs.Common.{◌≡◌, ℕ, ◌+◌, ◌-◌, ◌≤◌, List, length, take, drop, Bool, true, false, not, MatchBool, Option, None, Some, is_some, inl, inr, ap, ◌∙◌, subst, sym, arith}
use Rattle.std.proofs.lemmas.Bool.{cases_lt}
use Rattle.std.proofs.lemmas.List.{length-take-le, take-append-drop, take_rest}
use Rattle.buffer_redux.specs.OccursLaws.{OccursAt-behind, OccursAt-fewer, OccursAt-later}
use Rattle.memchr.specs.Find.{FindsNeedle, Nowhere, OccursAt}
use Rattle.body_reader.specs.Until.{IsNowhereIn}
use Rattle.body_reader.proofs.until.Until.is_nowhere_in.Goals as goal

nowhere : (needle bytes : List ℕ) (known : ℕ) → known ≤ length bytes → IsNowhereIn needle (take known bytes)
    → Nowhere (OccursAt (drop (known - length needle) bytes) needle) 0 (length (drop (known - length needle) bytes) + 1)
    → IsNowhereIn needle bytes
nowhere needle bytes known within before behind k here =
    let from = known - length needle in
    let split : length (take from bytes) ≡ from = length-take-le from bytes (omega (arith, within)) in
    elim (cases_lt known (k + length needle)) [
      | inl over ↦
          let there = OccursAt-behind (take from bytes) (drop from bytes) needle k (omega (arith, split, over))
          (subst (λ l. OccursAt l needle k) (sym (take-append-drop from bytes)) here) in
          behind (k - length (take from bytes)) (omega arith) (omega (arith, there.fits)) there
      | inr fits ↦ before k (OccursAt-fewer (take known bytes) (drop known bytes) needle k
          (omega (arith, fits, length-take-le known bytes within))
          (subst (λ l. OccursAt l needle k) (sym (take-append-drop known bytes)) here))
    ]

told : (needle bytes : List ℕ) (known : ℕ) → known ≤ length bytes → IsNowhereIn needle (take known bytes)
    → (found : Option ℕ) → FindsNeedle (drop (known - length needle) bytes) needle 0 found → (none : Bool)
    → is_some found ≡ not none → MatchBool none (IsNowhereIn needle bytes) (¬ IsNowhereIn needle bytes)
told needle bytes known within before None behind true same = nowhere needle bytes known within before behind
told needle bytes known within before None behind false same = cc
told needle bytes known within before (Some k) behind true same = cc
told needle bytes known within before (Some k) behind false same =
    let from = known - length needle in
    let there = OccursAt-later (take from bytes) (drop from bytes) needle k behind.1 in
    λ is. is (length (take from bytes) + k)
    (subst (λ l. OccursAt l needle (length (take from bytes) + k)) (take-append-drop from bytes) there)

pub returns : goal.returns
returns c =
    let bytes = c.args.bytes.now in
    let at : c.saturating_sub-searched.result ≡ c.args.known - length c.args.self.now.delimiter =
    c.saturating_sub-searched.ensures ∙ ap (λ l. c.args.known - length l) c.needle.ensures in
    told c.args.self.now.delimiter bytes c.args.known c.requires.within c.requires.known c.find.result
    (rw (← at, ← take_rest bytes c.saturating_sub-searched.result) c.find.ensures) c.is_none.result c.is_none.ensures
