-- Parts that are taken in together.
use Rattle.std.proofs.Common.{◌≡◌, ℕ, ◌+◌, ◌-◌, ◌%◌, ◌<◌, ◌≤◌, List, [], ◌++◌, length, map, min, drop, get_or, Bor, Result, Ok, Err, MatchResult, refl, sym, ap, subst, ◌∙◌, arith, inl, inr, add-one, drop-cons, append_assoc, append-nil, le_refl}
use Rattle.std.specs.Prelude.{◌==◌, if◌then◌else◌, nat_le}
use Rattle.std.specs.List.{concat}
use Rattle.std.specs.declared.io.Error.{Error}
use Rattle.std.proofs.lemmas.Bool.{cond_both, leb-false, leb-true}
use Rattle.std.proofs.lemmas.Nat.{div-add-mod'}
use Rattle.redux_buffer.specs.Block.{Block, IsBlock, Kind, OnKind, Plain, Ring, Reserves, capacity_for, by_kind, round, usable}
use Rattle.redux_buffer.specs.Faults.{SendErrorCaused}
use Rattle.redux_buffer.specs.GrowError.{GrowthFailed}
use Rattle.redux_buffer.specs.LogGrows.{WritesGoOn}
use Rattle.redux_buffer.specs.StreamLog.{StreamLog}
use Rattle.buffer_redux.specs.Buffered.{Buffered, with_block}
use Rattle.buffer_redux.specs.BufWriter.{WasSent, WritesAlong}
use Rattle.buffer_redux.specs.Policy.{std_write_rules}
use Rattle.buffer_redux.specs.WriteParts.{JustAppends, MakesPlace, PartsRefused, WritesParts}
use Rattle.buffer_redux.specs.WritesAlongLaws.{WasSent-along, WritesAlong-block, WritesAlong-joins, WritesAlong-none, WritesAlong-then}

-- the bytes of all parts
abbrev pub all_of : List (Bor (List ℕ)) → List ℕ
all_of parts = concat (map (λ part. part.now) parts)

-- those from one part on
pub from_part : (parts : List (Bor (List ℕ))) (at : ℕ) → at < length parts
    → all_of (drop at parts) ≡ (get_or parts at (record { ref_ptr = (0, 0); now = [] })).now ++ all_of (drop (at + 1) parts)
from_part parts at within = rw add-one (ap all_of (drop-cons parts at (record { ref_ptr = (0, 0); now = [] }) within))

-- what is held and the parts left make up all, after one more part too
pub one_more : (parts : List (Bor (List ℕ))) (at : ℕ) → at < length parts → (held all new : List ℕ)
    → held ++ all_of (drop at parts) ≡ all → new ≡ held ++ (get_or parts at (record { ref_ptr = (0, 0); now = [] })).now
    → new ++ all_of (drop (at + 1) parts) ≡ all
one_more parts at within held all new is added =
    let part = (get_or parts at (record { ref_ptr = (0, 0); now = [] })).now in
    let rest = all_of (drop (at + 1) parts) in
    ap (λ l. l ++ rest) added ∙ append_assoc held part rest ∙ ap (λ l. held ++ l) (sym (from_part parts at within)) ∙ is

-- how many bytes there are, as far as a `usize` counts
abbrev counted : List ℕ → ℕ
counted bytes = min (length bytes) 18446744073709551615

-- a growth lowers no capacity, and makes room for so many bytes
abbrev Roomy : Block → ℕ → ℕ → Type 0
Roomy b a c = (b.capacity ≤ c) × (a ≤ usable b + (c - b.capacity))

ring_grows : (held room capacity a : ℕ) → held + room ≡ capacity → room < a
    → (capacity ≤ round (held + a)) × (a ≤ room + (round (held + a) - capacity))
ring_grows held room capacity a all few =
    let up = div-add-mod' (held + a + 4095) 4096 in
    let rest : (held + a + 4095) % 4096 < 4096 = omega arith in
    (omega (arith, all, few, up, rest), omega (arith, all, few, up, rest))

-- the capacity that is needed where so many more bytes don't fit
abbrev needed : Block → ℕ → ℕ
needed b a = by_kind b.kind (if length b.bytes == 0 then b.capacity + a else b.capacity - usable b + a)
    (round (length b.bytes + a))

grows : (k : Kind) (b : Block) (a : ℕ) → b.kind ≡ k → IsBlock b → usable b < a → Roomy b a (needed b a)
grows Plain b a is whole few = rw is (cond_both (length b.bytes == 0) (b.capacity + a) (b.capacity - usable b + a)
    (Roomy b a) (λ _. (omega arith, omega arith))
    (λ _. (omega (arith, whole.fits, few), omega (arith, whole.fits, few))))
grows Ring b a is whole few = rw is (ring_grows (length b.bytes) (usable b) b.capacity a
    (subst (λ k. OnKind k (length b.bytes ≡ 0 → usable b ≡ b.capacity) (length b.bytes + usable b ≡ b.capacity)) is
    whole.space) few)

roomy : (b : Block) (a : ℕ) → IsBlock b → Roomy b a (capacity_for b a)
roomy b a whole = cond_both (nat_le a (usable b)) b.capacity (needed b a) (Roomy b a)
    (λ yes. (le_refl _, omega (arith, leb-true a (usable b) yes)))
    (λ no. grows b.kind b a refl whole (leb-false a (usable b) no))

module _ {S P : Type 0} (tells : S → StreamLog) (trace : S → S → Type 0) (none : (u : S) → trace u u) where
  -- what touches the buffer alone, and has these bytes behind it
  block_along : (s t : Buffered S P) (bytes : List ℕ) → t ≡ with_block s t.block → t.block.bytes ≡ s.block.bytes ++ bytes
      → t.block.consumed ≡ s.block.consumed → s.block.capacity ≤ t.block.capacity → t.block.kind ≡ s.block.kind
      → WritesAlong tells trace std_write_rules s bytes t
  block_along s t bytes same is kept up kind = WritesAlong-block tells trace std_write_rules none s bytes t (record {
    sent = [];
    received = ap (λ x. x.log.writes.received) same ∙ sym (append-nil s.log.writes.received);
    equal = is;
    consumed = omega (arith, kept);
  }) up kind same

  put_along : (s t : Buffered S P) (bytes : List ℕ) → JustAppends s bytes t → WritesAlong tells trace std_write_rules s bytes t
  put_along s t bytes p =
      block_along s t bytes p.others p.added.bytes p.added.consumed (omega (arith, p.added.capacity)) p.added.kind

  -- what was sent before, and no room then
  pub place_refused : (s m : Buffered S P) (count : ℕ) (x : Unit {0}) (e : Error) → WasSent tells trace s (Ok x) m
      → GrowthFailed count m.block e → MakesPlace tells trace count s (Err e) m
  place_refused s m count x e sent failed =
      record { sending = Ok x; left = m; sent = sent; ended = (failed, refl); whole = sent.whole }

  module _ (joins : (u v w : S) → trace u v → trace v w → trace u w)
      (goes : (u v : S) → trace u v → WritesGoOn (tells u) (tells v)) where
    -- what was sent before
    place_along : (s t : Buffered S P) (count : ℕ) (answer : Result (Unit {0}) Error) → MakesPlace tells trace count s answer t
        → WritesAlong tells trace std_write_rules s [] t
    place_along s t count answer p =
        WritesAlong-then tells trace std_write_rules joins s p.left t []
        (WasSent-along tells trace std_write_rules goes s p.sending p.left p.sent)
        (behind p.sending answer p.left p.sent.whole p.ended)
      where
        still : (m : Buffered S P) → t ≡ m → WritesAlong tells trace std_write_rules m [] t
        still m same = subst (WritesAlong tells trace std_write_rules m []) (sym same)
            (WritesAlong-none tells trace std_write_rules none m)

        behind : (sending answer : Result (Unit {0}) Error) (m : Buffered S P) → IsBlock m.block → MatchResult sending
            (λ _. MatchResult answer (λ _. Reserves count m.block t.block × (t ≡ with_block m t.block))
            (λ e. GrowthFailed count m.block e × (t ≡ m)))
            (λ e. (answer ≡ Err e) × (t ≡ m)) → WritesAlong tells trace std_write_rules m [] t
        behind (Ok x) (Ok y) m whole (grown, others) =
            let up = roomy m.block count whole in
            block_along m t [] others (grown.bytes ∙ sym (append-nil m.block.bytes)) grown.consumed
            (omega (arith, up.0, grown.capacity)) grown.kind
        behind (Ok x) (Err e) m whole (failed, same) = still m same
        behind (Err e) answer m whole (is, same) = still m same

    -- so many bytes, as far as they were counted, don't fit as they are
    module _ (s : Buffered S P) (bytes : List ℕ) (len : ℕ) (is : len ≡ counted bytes) (few : usable s.block < len) where
      no_fit : {A : Type 0} → length bytes ≤ usable s.block → A
      no_fit fit = absurd (omega (arith, is, few, fit))

      -- the parts moved in, once there was room
      pub parts_moved : (m t : Buffered S P) → MakesPlace tells trace len s (Ok tt) m → JustAppends m bytes t
          → WritesParts tells trace s bytes (Ok tt) t
      parts_moved m t p put = record {
        along = WritesAlong-joins tells trace std_write_rules joins s m t [] bytes
            (place_along s m len (Ok tt) p) (put_along m t bytes put);
        fits = no_fit;
        full = λ _. (m, rw is at p, put);
        caused = tt;
        whole = put.whole;
      }

      -- no room was made, and no part moved in
      pub parts_failed : (t : Buffered S P) (e : Error) → MakesPlace tells trace len s (Err e) t
          → WritesParts tells trace s bytes (Err e) t
      parts_failed t e p = record {
        along = place_along s t len (Err e) p;
        fits = no_fit;
        full = λ _. rw is at p;
        caused = failed p.sending p.left p.sent p.ended;
        whole = p.whole;
      }
        where
          failed : (sending : Result (Unit {0}) Error) (m : Buffered S P) → WasSent tells trace s sending m
              → MatchResult sending (λ _. GrowthFailed len m.block e × (t ≡ m))
              (λ why. (◌≡◌ {A = Result (Unit {0}) Error} (Err e) (Err why)) × (t ≡ m))
              → PartsRefused (length bytes) s e t
          failed (Ok x) m sent (refused, same) =
              inr (len, omega (arith, is), subst (λ u. GrowthFailed len u.block e) (sym same) refused)
          failed (Err why) m sent (is_why, same) =
              let cause : SendErrorCaused s.log.writes m.log.writes e = (let back : e ≡ why = cc in rw back sent.caused) in
              inl (subst (λ u. SendErrorCaused s.log.writes u.log.writes e) (sym same) cause)
