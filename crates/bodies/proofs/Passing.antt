-- How far bytes that came within a body, and are no payload, lead on.
use Rattle.std.proofs.Common.{◌≡◌, ℕ, zero, suc, ◌+◌, ◌-◌, ◌^◌, ◌<◌, ◌≤◌, List, [], length, min, nat_lt, if◌then◌else◌, true, false, Option, ap, ◌∙◌, arith, length-append, length-drop, length-take-le, inl, inr}
use Rattle.bodies.specs.Words.{Buffered, BodyWent, Limits, StdPolicy, chunked, std_read_rules, taken_count, nat_tests, PassesMany, PassesOnce, TellsOnce, Place}
use Rattle.bodies.specs.Decoding.{ChunkedState, most_wanted}

module _ {R : Type 0} (remaining : R → Option (List ℕ)) (limits : Limits) where
  -- so many bytes were passed, from this place to that
  record Passed (s : Buffered R StdPolicy) (p : Place) (t : Buffered R StdPolicy) (q : Place) : Type 0 where
    count : ℕ
    few : (chunked limits).between q + count ≤ (chunked limits).between p
    none : count ≡ 0 → q ≡ p
    gone : count + length t.block.bytes + length s.log.reads.given ≡ length s.block.bytes + length t.log.reads.given

  pass_once : (s : Buffered R StdPolicy) (p : Place) (t : Buffered R StdPolicy) (q : Place)
      → PassesOnce remaining std_read_rules (chunked limits) s p t q → Passed s p t q
  pass_once s p t q (inl (n, looks, went)) = record {
    count = n;
    few = omega (arith, looks.2.few, length-take-le n s.block.bytes looks.1);
    none = λ none. absurd (omega (arith, looks.0, none));
    gone = grind (arith, looks.1, went.told_policy.allowed.1, went.dropped.bytes, went.told, length-drop);
  }
  pass_once s p t q (inr (along, policy, same)) = record {
    count = 0;
    few = omega (arith, ap (chunked limits).between same);
    none = λ none. same;
    gone = grind (arith, along.in_order, length-append);
  }

  pass_many : (k : ℕ) (s : Buffered R StdPolicy) (p : Place) (t : Buffered R StdPolicy) (q : Place)
      → PassesMany remaining std_read_rules (chunked limits) k s p t q → Passed s p t q
  pass_many zero s p t q (same, place) = record {
    count = 0;
    few = omega (arith, ap (chunked limits).between place);
    none = λ none. place;
    gone = omega (arith, ap (λ b. length b.block.bytes) same, ap (λ b. length b.log.reads.given) same);
  }
  pass_many (suc k) s p t q (m, r, once, more) =
      let first = pass_once s p m r once in
      let then' = pass_many k m r t q more in
      record {
        count = first.count + then'.count;
        few = omega (arith, first.few, then'.few);
        none = λ none. then'.none (omega (arith, none)) ∙ first.none (omega (arith, none));
        gone = omega (arith, first.gone, then'.gone);
      }

-- behind so many bytes, as far as they are counted, fewer may come where some more came, and as many where none did
fewer : (most a b j k n : ℕ) → b ≡ a + n → k + n ≤ j → true ≡ nat_lt (min a most) (min b most)
    → (if nat_lt b most then k else 0) < (if nat_lt a most then j else 0)
fewer most a b j k n more few came = grind (arith, nat_tests)

as_many : (most a b j k n : ℕ) → b ≡ a + n → (n ≡ 0 → k ≡ j) → false ≡ nat_lt (min a most) (min b most)
    → (if nat_lt b most then k else 0) ≡ (if nat_lt a most then j else 0)
as_many most a b j k n more same came = grind (arith, nat_tests)

-- where no payload was handed out, what was taken was passed
module _ {R : Type 0} (remaining : R → Option (List ℕ)) (s m : ChunkedState R)
    (went : BodyWent remaining std_read_rules (chunked s.coding.0) s [] m)
    (tells : TellsOnce remaining std_read_rules (chunked s.coding.0) s.reader s.place 0 m.reader m.place) where
  passed : Passed remaining s.coding.0 s.reader s.place m.reader m.place
  passed = elim tells.once [
    | inl (none, front, place) ↦ rw (front, place)
        (pass_many remaining s.coding.0 tells.passes.0 s.reader s.place tells.front tells.place tells.passes.1)
    | inr (some, told) ↦ absurd (omega (arith, some))
  ]

  wired : length went.wire ≡ passed.count
  wired =
      let order = went.along.in_order in
      omega (arith, passed.gone, ap length order.equal, ap length order.given, length-append {A = ℕ})

  longer : length m.taken ≡ length s.taken + length went.wire
  longer = ap length went.taken ∙ length-append s.taken went.wire

  pub passed_some : true ≡ nat_lt (taken_count s) (taken_count m) → most_wanted m < most_wanted s
  passed_some = rw went.coding (fewer (2 ^ 64 - 1) (length s.taken) (length m.taken) ((chunked s.coding.0).between s.place)
      ((chunked s.coding.0).between m.place) (length went.wire) longer (omega (arith, passed.few, wired)))

  pub passed_none : false ≡ nat_lt (taken_count s) (taken_count m) → most_wanted m ≡ most_wanted s
  passed_none = rw went.coding (as_many (2 ^ 64 - 1) (length s.taken) (length m.taken) ((chunked s.coding.0).between s.place)
      ((chunked s.coding.0).between m.place) (length went.wire) longer
      (λ none. ap (chunked s.coding.0).between (passed.none (omega (arith, none, wired)))))

-- where more was taken some bytes were
pub wire_some : {R : Type 0} (remaining : R → Option (List ℕ)) (s m : ChunkedState R) {payload : List ℕ}
    (went : BodyWent remaining std_read_rules (chunked s.coding.0) s payload m)
    → true ≡ nat_lt (taken_count s) (taken_count m) → 0 < length went.wire
wire_some remaining s m went came =
    let more : length m.taken ≡ length s.taken + length went.wire =
    ap length went.taken ∙ length-append s.taken went.wire in
    grind (arith, nat_tests)
