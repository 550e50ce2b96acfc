-- How all of some bytes is taken in, or nothing.
use Rattle.std.proofs.Common.{◌≡◌, ℕ, ◌+◌, ◌-◌, ◌^◌, ◌==◌, ◌<◌, ◌≤◌, if◌then◌else◌, nat_le, Bool, true, false, inl, inr, List, [], ◌++◌, length, min, Result, Ok, Err, IsOk, OnOk, refl, sym, ap, subst, ◌∙◌, arith, append-nil, length-append}
use Rattle.std.proofs.lemmas.Bool.{cases_lt, false≢true, true≢false}
use Rattle.std.proofs.lemmas.List.{append_cancel_left}
use Rattle.std.specs.Prelude.{IfErr, MatchResult, OnErr, ◌∷◌}
use Rattle.std.specs.declared.io.Error.{Error}
use Rattle.buffer_redux.specs.Block.{Block, Kind, MakesRoom, Plain, Reserves, Ring, by_kind, capacity_for, round, usable}
use Rattle.buffer_redux.specs.BufWriter.{WasSent, WritesInOrder}
use Rattle.buffer_redux.specs.Buffered.{Buffered, with_block}
use Rattle.buffer_redux.specs.GrowError.{GrowthFailed}
use Rattle.buffer_redux.specs.Faults.{SendErrorCaused}
use Rattle.buffer_redux.specs.StreamLog.{StreamLog, WriteLog}
use Rattle.buffer_redux.specs.Transfer.{Sends}
use Rattle.buffer_redux.specs.WriteParts.{JustAppends, MakesPlace, WritesParts}
use Rattle.buffer_redux.specs.WritePartsLaws.{WritesParts-limit, WritesParts-sent}
use Rattle.buffer_redux.specs.WriterLaws.{WritesInOrder-joins}
use Rattle.buffer_redux.specs.declared.policy.StdPolicy.{StdPolicy}
use Rattle.programs.specs.TakenIn.{SendsOnce}
use Rattle.piece_filter.specs.Puts.{IsRoomRefused, Puts}

-- the inner writer isn't called where parts fit, which goes well, nor where nothing is buffered
module _ {W : Type 0} (tells : W → StreamLog) (trace : W → W → Type 0) (m : Buffered W StdPolicy) (bytes : List ℕ)
    (answer : Result (Unit {0}) Error) (t : Buffered W StdPolicy) (p : WritesParts tells trace m bytes answer t) where
  fit_in : length bytes ≤ usable m.block → IsOk answer × (t.log ≡ m.log)
  fit_in fit = (subst IsOk (sym (p.fits fit).0) refl, ap (λ x. x.log) (p.fits fit).1.others)

  sends_none : m.block.bytes ≡ [] → t.log ≡ m.log
  sends_none empty = elim (WritesParts-sent tells trace m t bytes answer p) [
    | inl same ↦ same
    | inr (sending, left, sent, told, failed) ↦ told ∙ sent.sends.idle (idle (length m.block.bytes) (ap length empty))
  ]
    where
      idle : (n : ℕ) → n ≡ 0 → min n n ≡ 0
      idle n none = rw none refl

-- where parts were refused the capacity is still the same
module _ {W : Type 0} (tells : W → StreamLog) (trace : W → W → Type 0) (m t : Buffered W StdPolicy) (e : Error) where
  place_kept : (count : ℕ) → MakesPlace tells trace count m (Err e) t → t.block.capacity ≡ m.block.capacity
  place_kept count place = by_sending place.sending place.left place.sent (Err e) place.ended
    where
      by_sending : (sending : Result (Unit {0}) Error) (left : Buffered W StdPolicy) → WasSent tells trace m sending left
          → (answer : Result (Unit {0}) Error) → MatchResult sending
          (λ _. MatchResult answer (λ _. Reserves count left.block t.block × (t ≡ with_block left t.block))
          (λ e. GrowthFailed count left.block e × (t ≡ left)))
          (λ e. (answer ≡ Err e) × (t ≡ left)) → OnErr answer (t.block.capacity ≡ m.block.capacity)
      by_sending sending left sent (Ok _) ended = tt
      by_sending (Ok _) left sent (Err e) (failed, same) = ap (λ x. x.block.capacity) same ∙ sent.capacity
      by_sending (Err e) left sent (Err x) (is, same) = ap (λ x. x.block.capacity) same ∙ sent.capacity

  parts_kept : (bytes : List ℕ) → WritesParts tells trace m bytes (Err e) t → t.block.capacity ≡ m.block.capacity
  parts_kept bytes p = elim (cases_lt (usable m.block) (length bytes)) [
    | inl few ↦ place_kept (min (length bytes) (2 ^ 64 - 1)) (p.full few)
    | inr fit ↦ absurd (true≢false (sym (fit_in tells trace m bytes (Err e) t p fit).0))
  ]

-- a writer that told nothing caused no error
caused_none : (old new : WriteLog) (e : Error) → new ≡ old → ¬ (SendErrorCaused old new e)
caused_none old new e same caused = elim caused.cause [
  | inl nothing ↦ omega (arith, nothing.zero_writes, ap (λ l. l.zero_writes) same)
  | inr fault ↦ omega (
    arith,
    ap length fault.faults,
    ap (λ l. length l.faults) same,
    length-append (old.faults ++ caused.interrupts) (e ∷ []),
    length-append old.faults caused.interrupts,
  )
]

-- an empty block grows by so many at most, or to so many, rounded up
grows_to : (within none : Bool) (k : Kind) (capacity less n all : ℕ) → all ≡ n → none ≡ true
    → (if within then capacity else by_kind k (if none then capacity + n else capacity - less + n) (round all))
    ≤ capacity + n + by_kind k 0 4095
grows_to true none k capacity less n all is empty = omega arith
grows_to false true Plain capacity less n all is empty = omega arith
grows_to false false Plain capacity less n all is empty = absurd (false≢true empty)
grows_to false none Ring capacity less n all is empty = omega (arith, is)

capacity_bound : (b : Block) (n : ℕ) → length b.bytes ≡ 0 → capacity_for b n ≤ b.capacity + n + by_kind b.kind 0 4095
capacity_bound b n none = grows_to (nat_le n (usable b)) (length b.bytes == 0) b.kind b.capacity (usable b) n
    (length b.bytes + n) (omega (arith, none)) (rw none refl)

module _ {W : Type 0} (tells : W → StreamLog) (trace : W → W → Type 0) (m : Buffered W StdPolicy) (empty : m.block.bytes ≡ [])
  where
    -- place that is made where nothing is buffered is no more
    place_bound : (count : ℕ) (answer : Result (Unit {0}) Error) (q : Buffered W StdPolicy)
        → MakesPlace tells trace count m answer q
        → q.block.capacity ≤ m.block.capacity + count + by_kind m.block.kind 0 4095
    place_bound count answer q place = by_sending place.sending place.left place.sent answer place.ended
      where
        by_sending : (sending : Result (Unit {0}) Error) (left : Buffered W StdPolicy) → WasSent tells trace m sending left
            → (answer : Result (Unit {0}) Error) → MatchResult sending
            (λ _. MatchResult answer (λ _. Reserves count left.block q.block × (q ≡ with_block left q.block))
            (λ e. GrowthFailed count left.block e × (q ≡ left)))
            (λ e. (answer ≡ Err e) × (q ≡ left))
            → q.block.capacity ≤ m.block.capacity + count + by_kind m.block.kind 0 4095
        by_sending (Ok _) left sent (Ok _) (grown, others) = omega (
          arith,
          grown.capacity,
          capacity_bound left.block count (ap length sent.ok.empty),
          sent.capacity,
          ap {B = ℕ} (λ k. by_kind k 0 4095) sent.sends.sent.dropped.kind,
        )
        by_sending (Ok _) left sent (Err e) (failed, same) = omega (arith, ap (λ x. x.block.capacity) same, sent.capacity)
        by_sending (Err e) left sent answer (is, same) = omega (arith, ap (λ x. x.block.capacity) same, sent.capacity)

    pub parts_bound : (bytes : List ℕ) (answer : Result (Unit {0}) Error) (t : Buffered W StdPolicy)
        → WritesParts tells trace m bytes answer t
        → t.block.capacity ≤ m.block.capacity + length bytes + by_kind m.block.kind 0 4095
    parts_bound bytes answer t p = elim (cases_lt (usable m.block) (length bytes)) [
      | inl few ↦ by_answer answer (p.full few)
      | inr fit ↦ omega (arith, (p.fits fit).1.added.capacity)
    ]
      where
        by_answer : (answer : Result (Unit {0}) Error) → MatchResult answer
            (λ _. (q : Buffered W StdPolicy) × MakesPlace tells trace (min (length bytes) (2 ^ 64 - 1)) m (Ok tt) q
            × JustAppends q bytes t)
            (λ e. MakesPlace tells trace (min (length bytes) (2 ^ 64 - 1)) m (Err e) t)
            → t.block.capacity ≤ m.block.capacity + length bytes + by_kind m.block.kind 0 4095
        by_answer (Ok _) (q, place, puts) = omega (
          arith,
          puts.added.capacity,
          place_bound (min (length bytes) (2 ^ 64 - 1)) (Ok tt) q place,
        )
        by_answer (Err e) place = omega (arith, place_bound (min (length bytes) (2 ^ 64 - 1)) (Err e) t place)

module _ {W : Type 0} (tells : W → StreamLog) (trace : W → W → Type 0) (s t : Buffered W StdPolicy) (bytes : List ℕ) where
  abbrev Refused : Error → Type 0
  Refused e = IsRoomRefused (length bytes) e t

  -- behind what took nothing in the parts were written
  module _ (m : Buffered W StdPolicy) (order : WritesInOrder s [] m) (same : m.block.capacity ≡ s.block.capacity)
      (answer : Result (Unit {0}) Error) (p : WritesParts tells trace m bytes answer t)
      (fits : length s.block.bytes + length bytes ≤ s.block.capacity → IsOk answer × (t.log ≡ s.log))
      (sends : s.block.capacity < length s.block.bytes + length bytes → SendsOnce Refused s answer t)
      (full : s.block.capacity < length s.block.bytes + length bytes → OnOk answer (t.block.bytes ≡ bytes))
      (kept : length bytes ≤ s.block.capacity → t.block.capacity ≡ s.block.capacity)
      (grown : t.block.capacity ≤ s.block.capacity + length bytes + by_kind s.block.kind 0 4095)
      (limit : t.block.limit ≡ s.block.limit) where
    taken : (answer : Result (Unit {0}) Error) → WritesParts tells trace m bytes answer t
        → MatchResult answer (λ _. WritesInOrder s bytes t) (λ _. WritesInOrder s [] t)
        × OnErr answer (t.block.capacity ≡ s.block.capacity)
    taken (Ok _) p = (WritesInOrder-joins s m t [] bytes order p.along.in_order, tt)
    taken (Err e) p = (WritesInOrder-joins s m t [] [] order p.along.in_order, parts_kept tells trace m t e bytes p ∙ same)

    puts : Puts s bytes answer t
    puts = record {
      takes = record { taken = (taken answer p).0; fits = fits; sends = sends };
      full = full;
      kept = kept;
      grown = grown;
      refused = (taken answer p).1;
      limit = limit;
      whole = p.whole;
    }

  -- room was made, and the parts were written where they fit
  pub puts_fitting : (m : Buffered W StdPolicy) → WritesInOrder s [] m → m ≡ with_block s m.block → MakesRoom s.block m.block
      → length s.block.bytes + length bytes ≤ s.block.capacity → (answer : Result (Unit {0}) Error)
      → WritesParts tells trace m bytes answer t → Puts s bytes answer t
  puts_fitting m order others room fits answer p =
      let fit : length bytes ≤ usable m.block = omega (arith, fits, room.usable) in
      let there = fit_in tells trace m bytes answer t p fit in
      let added = (p.fits fit).1.added in
      puts m order room.capacity answer p (λ _. (there.0, there.1 ∙ ap (λ x. x.log) others))
      (λ few. absurd (omega (arith, fits, few))) (λ few. absurd (omega (arith, fits, few)))
      (λ _. added.capacity ∙ room.capacity) (omega (arith, added.capacity, room.capacity)) (added.limit ∙ room.limit)

  -- all was sent, and room was made
  pub puts_sent : (u m : Buffered W StdPolicy) → WasSent tells trace s (Ok tt) u → WritesInOrder u [] m → m ≡ with_block u m.block
      → MakesRoom u.block m.block → s.block.capacity < length s.block.bytes + length bytes
      → (answer : Result (Unit {0}) Error) → WritesParts tells trace m bytes answer t → Puts s bytes answer t
  puts_sent u m sent order others room few answer p =
      puts m (WritesInOrder-joins s u m [] [] sent.in_order order) (room.capacity ∙ sent.capacity) answer p
      (λ fit. absurd (omega (arith, fit, few))) (λ _. once) (λ _. kept answer p)
      (λ small. (p.fits (space small)).1.added.capacity ∙ room.capacity ∙ sent.capacity)
      (omega (
        arith,
        parts_bound tells trace m empty bytes answer t p,
        room.capacity,
        sent.capacity,
        ap {B = ℕ} (λ k. by_kind k 0 4095) (room.kind ∙ sent.sends.sent.dropped.kind),
      ))
      (WritesParts-limit tells trace m t bytes answer p ∙ room.limit ∙ sent.sends.sent.dropped.limit)
    where
      empty : m.block.bytes ≡ []
      empty = room.bytes ∙ sent.ok.empty

      space : length bytes ≤ s.block.capacity → length bytes ≤ usable m.block
      space small = omega (arith, small, room.usable, sent.capacity, ap length sent.ok.empty)

      told : t.log ≡ m.log
      told = sends_none tells trace m bytes answer t p empty

      left : (taken : List ℕ) → WritesInOrder m taken t → t.block.bytes ≡ taken
      left taken order =
          let none : order.sent ≡ [] = append_cancel_left m.log.writes.received order.sent []
          (sym order.received ∙ ap (λ l. l.writes.received) told ∙ sym (append-nil m.log.writes.received)) in
          ap (λ l. l ++ t.block.bytes) (sym none) ∙ order.equal ∙ ap (λ l. l ++ taken) empty

      kept : (answer : Result (Unit {0}) Error) → WritesParts tells trace m bytes answer t → OnOk answer (t.block.bytes ≡ bytes)
      kept (Ok _) p = left bytes p.along.in_order
      kept (Err e) p = tt

      room_refused : (answer : Result (Unit {0}) Error) → WritesParts tells trace m bytes answer t → IfErr answer Refused
      room_refused (Ok _) p = tt
      room_refused (Err e) p = elim p.caused [
        | inl caused ↦ absurd (caused_none m.log.writes t.log.writes e (ap (λ l. l.writes) told) caused)
        | inr (more, few, failed) ↦ (more, few, left [] p.along.in_order, failed)
      ]

      once : SendsOnce Refused s answer t
      once = record {
        sending = Ok tt;
        left = u.block;
        sends = subst (λ l. Sends (length s.block.bytes) s.block s.log (Ok tt) u.block l)
            (sym (told ∙ ap (λ x. x.log) others)) sent.sends;
        ended = room_refused answer p;
      }

-- at Ok all went in, and else nothing did
pub puts_say : {W : Type 0} {s : Buffered W StdPolicy} {bytes : List ℕ} {t : Buffered W StdPolicy}
    (answer : Result (Unit {0}) Error) → Puts s bytes answer t → record {
      in_order : OnOk answer (WritesInOrder s bytes t);
      none : OnErr answer (WritesInOrder s [] t);
      puts : Puts s bytes answer t;
    }
puts_say (Ok _) puts = record { in_order = puts.takes.taken; none = tt; puts = puts }
puts_say (Err e) puts = record { in_order = tt; none = puts.takes.taken; puts = puts }
