-- How often the reader inside gives nothing in one fill under a minimum: at its end alone.
use Rattle.std.proofs.Common.{◌≡◌, ℕ, ◌+◌, ◌<◌, ◌≤◌, length, Option, None, Some, Ok, Err, inl, inr, refl, ap, ◌∙◌, arith, append-nil}
use Rattle.std.specs.declared.io.Error.{Error}
use Rattle.buffer_redux.specs.BufReader.{Fills, RanDry, empty_reads}
use Rattle.buffer_redux.specs.Buffered.{Buffered}
use Rattle.buffer_redux.specs.Fill.{Ordered}
use Rattle.buffer_redux.specs.FillLaws.{Turns-gave}
use Rattle.buffer_redux.specs.MinBuffered.{min_read_rules}
use Rattle.buffer_redux.specs.declared.policy.min_buffered.MinBuffered.{MinBuffered}
use Rattle.redux_buffer.specs.StreamLog.{zero_of_none}

-- the number that is claimed, or 0
abbrev pub number_of : Option ℕ → ℕ
number_of None = 0
number_of (Some n) = n

module _ {S A : Type 0} (s t : Buffered S MinBuffered) where
  -- a fill that failed
  pub none_before_fault : (e : Error) → Fills {A = A} min_read_rules s (Err e) t → empty_reads t ≡ empty_reads s
  none_before_fault e fills =
      let f = fills.filled in
      elim f.ends [
        | inl refused ↦ ap (λ l. l.reads.zero_reads) refused.told ∙ Turns-gave min_read_rules f.count s f.last f.turns
        | inr faulted ↦ ap (λ l. l.reads.zero_reads) faulted.read.told ∙ Turns-gave min_read_rules f.count s f.last f.turns
      ]

  -- a fill that left too few, and one that found enough
  module _ (a : A) (fills : Fills min_read_rules s (Ok a) t) where
    -- a read that is ordered wants more than enough
    pub enough_never_dry : Ordered min_read_rules (Ok 0) fills.filled.last t → s.policy.0 ≤ length t.block.bytes → ⊥
    enough_never_dry end many =
        let asked = end.asked in
        let claimed : t.policy.0 ≡ s.policy.0 = ap (λ c. number_of c.minimum) fills.claims in
        let same = ap length (end.read.added.bytes ∙ append-nil end.seen.bytes ∙ asked.law.bytes) in
        omega (arith, many, same, asked.allowed.1.0, ap (λ p. p.0) asked.allowed.0, claimed)

    pub once_at_end : length t.block.bytes < s.policy.0 → empty_reads t ≡ empty_reads s + 1
    once_at_end few =
        let f = fills.filled in
        let gave = Turns-gave min_read_rules f.count s f.last f.turns in
        let dry : RanDry s t = elim (fills.ahead.enough refl) [ inl many ↦ absurd (omega (arith, many, few)) | inr is ↦ is ] in
        elim f.ends [
          | inl declined ↦ absurd (omega (arith, dry, gave, ap (λ l. l.reads.zero_reads) declined.told))
          | inr (inl full) ↦ absurd (omega (arith, dry, gave, ap (λ l. l.reads.zero_reads) full.1.told))
          | inr (inr end) ↦ ap (λ l. l.reads.zero_reads) end.read.told
              ∙ zero_of_none 0 end.read.out (empty_reads f.last) refl (omega (arith, end.read.offered, end.room))
              ∙ ap (λ n. n + 1) gave
        ]

    pub none_where_enough : s.policy.0 ≤ length t.block.bytes → empty_reads t ≡ empty_reads s
    none_where_enough many =
        let f = fills.filled in
        let gave = Turns-gave min_read_rules f.count s f.last f.turns in
        elim f.ends [
          | inl declined ↦ ap (λ l. l.reads.zero_reads) declined.told ∙ gave
          | inr (inl full) ↦ ap (λ l. l.reads.zero_reads) full.1.told ∙ gave
          | inr (inr end) ↦ absurd (enough_never_dry end many)
        ]
