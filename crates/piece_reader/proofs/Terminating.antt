-- What the search for several bytes comes to.
use Rattle.std.proofs.Common.{◌≡◌, ◌≢◌, ℕ, ◌+◌, ◌-◌, ◌<◌, ◌≤◌, List, ◌++◌, length, take, drop, min, sym, subst, ap, ◌∙◌, arith, inl, inr, append_assoc, length-take-le, length-drop}
use Rattle.std.proofs.Math.Seq.{take-append-add}
use Rattle.std.proofs.lemmas.Bool.{cases_lt}
use Rattle.std.proofs.lemmas.List.{take-append-drop, take_all}
use Rattle.memchr.specs.Find.{FindsNeedle, Nowhere, OccursAt}
use Rattle.std.specs.Prelude.{None, Some}
use Rattle.buffer_redux.specs.OccursLaws.{OccursAt-behind, OccursAt-fewer, OccursAt-front, OccursAt-last, OccursAt-later, OccursAt-more, OccursAt-take}
use Rattle.piece_reader.specs.Decoding.{IsPiece}
use Rattle.piece_reader.specs.Grammar.{IsOpenBelow}
use Rattle.piece_reader.specs.GrammarLaws.{lacks_one}
use Rattle.piece_reader.specs.Terminated.{IsSearched, NeverEnds, terminated}
use Rattle.piece_reader.specs.TerminatedLaws.{terminated_open}

-- all bytes behind a place
pub behind_place : (from : ℕ) (bytes : List ℕ) → take (length bytes - from) (drop from bytes) ≡ drop from bytes
behind_place from bytes = take_all (length bytes - from) (drop from bytes) (omega (arith, length-drop from bytes))

module _ (end : List ℕ) where
  -- what stands in the first bytes stands in all
  of_all : (to : ℕ) (bytes : List ℕ) (k : ℕ) → OccursAt (take to bytes) end k → OccursAt bytes end k
  of_all to bytes k o = subst (λ l. OccursAt l end k) (take-append-drop to bytes)
      (OccursAt-more (take to bytes) (drop to bytes) end k o)

  -- and the other way, where it fits
  of_first : (to : ℕ) (bytes : List ℕ) (k : ℕ) → to ≤ length bytes → k + length end ≤ to → OccursAt bytes end k
      → OccursAt (take to bytes) end k
  of_first to bytes k within fits o =
      OccursAt-fewer (take to bytes) (drop to bytes) end k (omega (arith, fits, length-take-le to bytes within))
      (subst (λ l. OccursAt l end k) (sym (take-append-drop to bytes)) o)

  -- what stands in the bytes from a place on stands in all, so far behind it
  of_rest : (from : ℕ) (bytes : List ℕ) (k : ℕ) → from ≤ length bytes → OccursAt (drop from bytes) end k
      → OccursAt bytes end (from + k)
  of_rest from bytes k within o =
      let size : length (take from bytes) ≡ from = length-take-le from bytes within in
      subst (λ l. OccursAt l end (from + k)) (take-append-drop from bytes)
      (subst (λ n. OccursAt (take from bytes ++ drop from bytes) end (n + k)) size
      (OccursAt-later (take from bytes) (drop from bytes) end k o))

  in_rest : (from : ℕ) (bytes : List ℕ) (k : ℕ) → from ≤ length bytes → from ≤ k → OccursAt bytes end k
      → OccursAt (drop from bytes) end (k - from)
  in_rest from bytes k within behind o =
      let size : length (take from bytes) ≡ from = length-take-le from bytes within in
      subst (λ n. OccursAt (drop from bytes) end (k - n)) size
      (OccursAt-behind (take from bytes) (drop from bytes) end k (omega (arith, size, behind))
      (subst (λ l. OccursAt l end k) (sym (take-append-drop from bytes)) o))

  module _ (bytes : List ℕ) (seen from : ℕ) (within : seen ≤ length bytes) (is : from ≡ seen - (length end - 1))
      (some : 0 < length end) (searched : (k : ℕ) → k + length end ≤ seen → ¬ OccursAt bytes end k) where
    pub found_behind : (at : ℕ) → Nowhere (OccursAt (take (length bytes - from) (drop from bytes)) end) 0 at
        → OccursAt (take (length bytes - from) (drop from bytes)) end at → FindsNeedle bytes end 0 (Some (from + at))
    found_behind at none here =
        let there : OccursAt bytes end (from + at) =
        of_rest from bytes at (omega (arith, is, within)) (subst (λ l. OccursAt l end at) (behind_place from bytes) here) in (
          record {
            low = omega arith;
            high = omega (arith, there.fits);
            before = λ k low high occurs. elim (cases_lt k from) [
              | inl front ↦ searched k (omega (arith, front, is, some)) occurs
              | inr behind ↦ none (k - from) (omega arith) (omega (arith, high, behind))
                  (subst (λ l. OccursAt l end (k - from)) (sym (behind_place from bytes))
                  (in_rest from bytes k (omega (arith, is, within)) behind occurs))
            ];
          },
          there,
        )

    pub none_behind : Nowhere (OccursAt (take (length bytes - from) (drop from bytes)) end) 0
        (length (take (length bytes - from) (drop from bytes)) + 1) → FindsNeedle bytes end 0 None
    none_behind none k low high occurs = elim (cases_lt k from) [
      | inl front ↦ searched k (omega (arith, front, is, some)) occurs
      | inr behind ↦
          let here : OccursAt (take (length bytes - from) (drop from bytes)) end (k - from) =
          subst (λ l. OccursAt l end (k - from)) (sym (behind_place from bytes))
          (in_rest from bytes k (omega (arith, is, within)) behind occurs) in
          none (k - from) (omega arith) (omega (arith, here.fits)) here
    ]

  module _ (max : ℕ) (bytes : List ℕ) where
    -- where the bytes from a place on are its front, it may come there
    pub may_come : (at : ℕ) (rest : List ℕ) → at ≤ max → at ≤ length bytes → end ≡ drop at bytes ++ rest
        → ¬ (NeverEnds end (max + 1) bytes)
    may_come at rest low within is never =
        let size : length (take at bytes) ≡ at = length-take-le at bytes within in
        let whole : bytes ++ rest ≡ take at bytes ++ end =
        ap (λ l. l ++ rest) (sym (take-append-drop at bytes)) ∙ append_assoc (take at bytes) (drop at bytes) rest
        ∙ ap (λ l. take at bytes ++ l) (sym is) in
        never rest (length (take at bytes)) (omega arith) (omega (arith, size, low))
        (subst (λ l. OccursAt l end (length (take at bytes))) (sym whole) (OccursAt-last (take at bytes) end))

    -- where it doesn't stand at a place, and goes on behind all bytes, those from there on are its front
    fronts : (more : List ℕ) (k : ℕ) → k ≤ length bytes → length bytes < k + length end → OccursAt (bytes ++ more) end k
        → end ≡ drop k bytes ++ take (length end - length (drop k bytes)) more
    fronts more k within beyond occurs =
        let size : length (take k bytes) ≡ k = length-take-le k bytes within in
        let none : k - length (take k bytes) ≡ 0 = omega (arith, size) in
        let whole : bytes ++ more ≡ take k bytes ++ (drop k bytes ++ more) =
        ap (λ l. l ++ more) (sym (take-append-drop k bytes)) ∙ append_assoc (take k bytes) (drop k bytes) more in
        let count : length end ≡ length (drop k bytes) + (length end - length (drop k bytes)) =
        omega (arith, beyond, length-drop k bytes) in
        let here : OccursAt (drop k bytes ++ more) end 0 =
        subst (OccursAt (drop k bytes ++ more) end) none
        (OccursAt-behind (take k bytes) (drop k bytes ++ more) end k (omega (arith, size))
        (subst (λ l. OccursAt l end k) whole occurs)) in
        sym (OccursAt-front (drop k bytes ++ more) end here) ∙ ap (λ n. take n (drop k bytes ++ more)) count
        ∙ take-append-add (drop k bytes) more (length end - length (drop k bytes))

    -- where it stands at no place up to max, and the bytes are its front from none on, it never comes
    pub comes_never : max < length bytes → ((k : ℕ) → k ≤ max → ¬ OccursAt bytes end k)
        → ((k : ℕ) → k < max + 1 → length bytes < k + length end → (rest : List ℕ) → end ≢ drop k bytes ++ rest)
        → NeverEnds end (max + 1) bytes
    comes_never long none clear more k low high occurs = elim (cases_lt (length bytes) (k + length end)) [
      | inr fits ↦ none k (omega (arith, high)) (OccursAt-fewer bytes more end k fits occurs)
      | inl beyond ↦ clear k high beyond (take (length end - length (drop k bytes)) more)
          (fronts more k (omega (arith, high, long)) beyond occurs)
    ]

  module _ (max : ℕ) (bytes : List ℕ) (to : ℕ) (is : to ≡ min (length bytes) (max + length end)) where
    pub found_terminated : (at : ℕ) → Nowhere (OccursAt (take to bytes) end) 0 at → OccursAt (take to bytes) end at
        → IsPiece (terminated end max) bytes (record { from = 0; len = at }) (at + length end)
    found_terminated at none here =
        let size : length (take to bytes) ≡ to = length-take-le to bytes (omega (arith, is)) in
        let payload : length (take at bytes) ≡ at = length-take-le at bytes (omega (arith, here.fits, size, is)) in
        record {
          inside = omega (arith, here.fits, size, is);
          within = omega arith;
          is = (
            OccursAt-take bytes end at (of_all to bytes at here),
            omega (arith, payload, here.fits, size, is),
            λ k low high occurs. none k low (omega (arith, high, payload))
                (of_first to bytes k (omega (arith, is)) (omega (arith, high, payload, here.fits, size))
                (of_all (at + length end) bytes k occurs)),
          );
        }

    module _ (none : Nowhere (OccursAt (take to bytes) end) 0 (length (take to bytes) + 1)) where
      nowhere : (k : ℕ) → k + length end ≤ to → ¬ OccursAt bytes end k
      nowhere k fits occurs =
          let size : length (take to bytes) ≡ to = length-take-le to bytes (omega (arith, is)) in
          none k (omega arith) (omega (arith, fits, size)) (of_first to bytes k (omega (arith, is)) fits occurs)

      pub stands_nowhere : (k : ℕ) → k ≤ max → ¬ OccursAt bytes end k
      stands_nowhere k low occurs = nowhere k (omega (arith, low, occurs.fits, is)) occurs

      pub wants_byte : length bytes < max + length end → ¬ (NeverEnds end (max + 1) bytes)
          → (length bytes < 1 + length bytes) × (1 + length bytes ≤ max + length end)
          × IsOpenBelow (terminated end max) (1 + length bytes) bytes
      wants_byte few may = (
        omega arith,
        omega (arith, few),
        lacks_one (terminated end max) bytes (terminated_open end max bytes may (λ k occurs.
            nowhere k (omega (arith, occurs.fits, is, few)) occurs)),
      )

      pub searched_all : length bytes < max + length end → IsSearched end max bytes
      searched_all few = (few, λ k low high occurs. nowhere k (omega (arith, occurs.fits, is, few)) occurs)

    -- what was looked at before stands in what is looked at
    pub seen_before : (seen : ℕ) → seen ≤ length bytes → IsSearched end max (take seen bytes) → (seen ≤ to)
        × ((k : ℕ) → k + length end ≤ seen → 0 < length end → ¬ OccursAt (take to bytes) end k)
    seen_before seen within searched =
        let size : length (take seen bytes) ≡ seen = length-take-le seen bytes within in (
          omega (arith, is, within, searched.0, size),
          λ k fits some occurs. searched.1 k (omega arith) (omega (arith, fits, some, size))
              (of_first seen bytes k within fits (of_all to bytes k occurs)),
        )
