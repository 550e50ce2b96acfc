-- What a block is that grew at its end, with zeros then written over a part of it.
use Rattle.std.proofs.Common.{◌≡◌, ℕ, ◌+◌, ◌-◌, ◌*◌, ◌≤◌, min, List, ◌++◌, length, take, drop, slice_range, replicate, inl, inr, ap, ◌∙◌, arith, sym, length-take-le, length-append, length-drop}
use Rattle.std.proofs.lemmas.Bool.{cases_lt}
use Rattle.std.proofs.lemmas.List.{take-replicate, length-replicate, replicate-append-replicate, take-take, take-append-le, drop_at, take_at}
use Rattle.std.proofs.lemmas.Slice.{between_is}

-- zeros over the bytes s..e
abbrev pub cleared : List ℕ → ℕ → ℕ → List ℕ
cleared xs s e = take s xs ++ (replicate (e - s) 0 ++ drop e xs)

pub length_cleared : (xs : List ℕ) (s e : ℕ) → s ≤ e → e ≤ length xs → length (cleared xs s e) ≡ length xs
length_cleared xs s e p q =
    let zeros : List ℕ = replicate (e - s) 0 in
    let parts : length (cleared xs s e) ≡ length (take s xs) + length (zeros ++ drop e xs) =
    length-append (take s xs) (zeros ++ drop e xs) in
    omega (
      arith,
      parts,
      length-append zeros (drop e xs),
      length-replicate {A = ℕ} (e - s) 0,
      length-take-le s xs (omega arith),
      length-drop e xs,
    )

module _ (xs : List ℕ) (grown cap e : ℕ) where
  abbrev now : List ℕ
  now = cleared (xs ++ replicate grown 0) cap e

  -- what is in front of that part is as it was
  pub cleared_keeps : (from to : ℕ) → to ≤ cap → cap ≤ length xs → slice_range now from to ≡ slice_range xs from to
  cleared_keeps from to within there =
      let zeros : List ℕ = replicate grown 0 in
      let all = xs ++ zeros in
      let front = length-take-le cap all (omega (arith, length-append xs zeros)) in
      between_is now from to
      ∙ ap (drop from) (take-append-le to (take cap all) (replicate (e - cap) 0 ++ drop e all) (omega (arith, front))
      ∙ take-take to cap all within ∙ take-append-le to xs zeros (omega arith))
      ∙ sym (between_is xs from to)

  -- from there on to the new capacity it is zeros, where the block was twice the old one and grew by as much
  pub cleared_zeros : (cap' : ℕ) → length xs ≡ cap + cap → cap ≤ cap' → grown ≡ 2 * (cap' - cap) → e ≡ min cap' (2 * cap)
      → take (cap' - cap) (drop cap now) ≡ replicate (cap' - cap) 0
  cleared_zeros cap' whole more by end =
      let zeros : List ℕ = replicate grown 0 in
      let all = xs ++ zeros in
      let new = cap' - cap in
      let front = length-take-le cap all (omega (arith, length-append xs zeros)) in
      ap (take new) (drop_at (take cap all) (replicate (e - cap) 0 ++ drop e all) cap front)
      ∙ elim (cases_lt (2 * cap) cap') [
        | inl past ↦ (
            let rest : drop e all ≡ zeros = drop_at xs zeros e (omega (arith, whole, end, past)) in
            ap (λ l. take new (replicate (e - cap) 0 ++ l)) rest
            ∙ ap (take new) (replicate-append-replicate {A = ℕ} (e - cap) grown 0)
            ∙ take-replicate new (e - cap + grown) 0 (omega (arith, by))
            )
        | inr within ↦ (
            let all_new : e - cap ≡ new = omega (arith, end, within) in
            ap (λ n. take new (replicate n 0 ++ drop e all)) all_new
            ∙ take_at (replicate new 0) (drop e all) new (length-replicate {A = ℕ} new 0)
            )
      ]
