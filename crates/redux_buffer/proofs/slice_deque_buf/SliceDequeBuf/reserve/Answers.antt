-- What the growth adds to the tail is zeros: of a new block as it was made, of the old one as it was cleared.
use Rattle.std.proofs.Common.{◌≡◌, ◌+◌, ◌-◌, ◌*◌, ℕ, length, ◌++◌, take, drop, slice_range, replicate, refl, ap, ◌∙◌, arith, rules, length-append}
use Rattle.std.proofs.lemmas.Bool.{le-ltb}
use Rattle.std.proofs.lemmas.Grind.{common_steps}
use Rattle.std.proofs.lemmas.List.{length-replicate}
use Rattle.redux_buffer.proofs.Ranges.{drop_range, length_range, ring_tail, ring_tail_length, zeros_behind}
use Rattle.redux_buffer.proofs.Cleared.{cleared, length_cleared, cleared_keeps, cleared_zeros}
use Rattle.redux_buffer.proofs.slice_deque_buf.SliceDequeBuf.reserve.Goals as goal

pub returns-then-self-gt0-clause-grown : goal.returns-then-self-gt0-clause-grown
returns-then-self-gt0-clause-grown c =
    let b = c.self.inside in
    let cap = c.round_up-cap.result in
    let len = b.end - b.head in
    let storage = c.in_ok-self-inside.field-0 in
    let bytes = slice_range b.buf b.head b.end in
    let zeros = 2 * cap - len in
    let is : storage ≡ bytes ++ replicate zeros 0 = c.in_ok-self-inside.ensures.copied in
    let held : length bytes ≡ len = length_range b.buf b.head b.end (omega arith) (omega arith) in
    let long : length storage ≡ 2 * cap =
    omega (
      arith,
      ap length is,
      held,
      length-append bytes (replicate {A = ℕ} zeros 0),
      length-replicate {A = ℕ} zeros 0,
    ) in
    let tail = ring_tail b.buf b.head b.end b.stop in
    let old = ring_tail_length b.buf b.head b.end b.stop
    (omega arith) (omega arith) (omega arith) (omega arith) in
    let left : cap - len - length tail ≡ cap - 0 - (b.stop - b.head) = omega (arith, old) in
    let new = ring_tail_length storage 0 len cap
    (omega arith) (omega arith) (omega (arith, long)) (omega (arith, long)) in
    rw (← c.self.view_is) (record {
      bytes = grind (arith, common_steps);
      capacity = grind (arith, common_steps);
      added = rw (le-ltb (length storage) cap (omega (arith, long)))
          (zeros_behind storage bytes zeros len cap (length tail) is held (omega arith)
          ∙ ap (λ m. replicate m 0) left);
      usable = omega (arith, old, new);
      limit = search rules;
      kind = search rules;
      consumed = search rules;
      moved = search rules;
      idle = λ few. absurd (omega (arith, few, old));
    })

-- the storage once it grew in place
is_cleared : (c : goal.After-self-2-1)
    → let b = c.self.inside in let grown = 2 * (c.round_up-cap.result - b.stop) in
    c.clear_range.new.self ≡ cleared (b.buf ++ replicate grown 0) b.stop c.min.result
is_cleared c =
    c.clear_range.ensures ∙ ap (λ l. cleared l c.self.inside.stop c.min.result) c.in_ok-reserve.ensures.grown

is_long : (c : goal.After-self-2-1) → length c.clear_range.new.self ≡ 2 * c.round_up-cap.result
is_long c =
    let b = c.self.inside in
    let grown = 2 * (c.round_up-cap.result - b.stop) in
    let all = length-append b.buf (replicate {A = ℕ} grown 0) in
    let zeros = length-replicate {A = ℕ} grown 0 in
    let same = length_cleared (b.buf ++ replicate grown 0) b.stop c.min.result
    (omega arith) (omega (arith, all, zeros)) in
    omega (arith, ap length (is_cleared c), same, all, zeros)

pub returns-clause-grown : goal.returns-clause-grown
returns-clause-grown c =
    let b = c.self.inside in
    let cap = c.round_up-cap.result in
    let storage = c.clear_range.new.self in
    let grown = 2 * (cap - b.stop) in
    let long = is_long c in
    let at_front : b.head ≡ 0 = omega (arith, c.if-self-gt0.false) in
    let tail = ring_tail b.buf b.head b.end b.stop in
    let old = ring_tail_length b.buf b.head b.end b.stop
    (omega arith) (omega arith) (omega arith) (omega arith) in
    let new = ring_tail_length storage b.head b.end cap
    (omega arith) (omega arith) (omega (arith, long)) (omega (arith, long)) in
    rw (← c.self.view_is) (record {
      bytes = ap (λ l. slice_range l b.head b.end) (is_cleared c)
          ∙ cleared_keeps b.buf grown b.stop c.min.result b.head b.end (omega arith) (omega arith);
      capacity = grind (arith, common_steps);
      added =
          let there : b.end + length tail ≡ b.stop = omega (arith, old) in
          let left : cap - b.stop ≡ cap - b.head - (b.stop - b.head) = omega arith in
          rw (le-ltb (length storage) cap (omega (arith, long)))
          (drop_range storage b.end cap (length tail) (omega (arith, old))
          ∙ ap (λ n. slice_range storage n cap) there
          ∙ ap (λ l. take (cap - b.stop) (drop b.stop l)) (is_cleared c)
          ∙ cleared_zeros b.buf grown b.stop c.min.result cap (omega arith) (omega arith) refl c.min.ensures
          ∙ ap (λ m. replicate m 0) left);
      usable = omega (arith, old, new);
      limit = search rules;
      kind = search rules;
      consumed = search rules;
      moved = search rules;
      idle = λ few. absurd (omega (arith, few, old));
    })

pub returns-clause-whole : goal.returns-clause-whole
returns-clause-whole c =
    let b = c.self.inside in
    let long = is_long c in
    let behind = le-ltb (length c.clear_range.new.self) c.round_up-cap.result (omega (arith, long)) in
    grind (arith, common_steps, length_range)

pub returns-then-self-gt0-clause-whole : goal.returns-then-self-gt0-clause-whole
returns-then-self-gt0-clause-whole c = grind (arith, common_steps)
