-- The slice gets the front of what was left, and a buffer that is freed had nothing left.
use Rattle.std.proofs.Common.{◌≡◌, ◌<◌, ℕ, List, [], ◌++◌, length, take, drop, min, Option, Result, Ok, subst, sym, ap, ◌∙◌, arith, rules, append-nil, length-append, length-drop, length-take-le, take_at}
use Rattle.std.specs.declared.io.Error.{Error}
use Rattle.std.specs.Io.KnownBytes.{prepend_known, ReadConsumes}
use Rattle.std.proofs.lemmas.Grind.{common_steps}
use Rattle.std.proofs.lemmas.List.{take-append-drop, nil_from_length, drop_min}
use Rattle.redux_buffer.specs.GivesRemaining.{GivesRemaining, GivesRemaining-none, GivesRemaining-ahead}
use Rattle.redux_buffer.specs.StreamLog.{StreamLog, portion}
use Rattle.buffer_redux.specs.Unbuffer.{Unbuffered, HandsOutInOrder, bytes_in}
use Rattle.buffer_redux.proofs.unbuffer.UnbufferRead.read.Goals as goal
use Rattle.buffer_redux.proofs.unbuffer.UnbufferRead.read.Goals.{Joined-self-2, Else-is_empty}

-- the parts of an `Unbuffer` are all of it
same_parts : {R : Type 0} (s t : Unbuffered R) (left : List ℕ) → t.left ≡ left → t.inner ≡ s.inner → t.log ≡ s.log
    → t ≡ record s { left = left }
same_parts {R} s t left is inner told =
    let part : List ℕ → R → StreamLog → Unbuffered R = λ l i g. record { left = l; inner = i; log = g } in
    ap (λ l. part l t.inner t.log) is ∙ ap (λ i. part left i t.log) inner ∙ ap (λ g. part left s.inner g) told

-- the front of what was left was handed out
record Handed {R : Type 0} (remaining : R → Option (List ℕ)) (s t : Unbuffered R) (n : ℕ) (old out : List ℕ) : Type 0 where
  in_order : HandsOutInOrder s (take n out) t
  left : (◌≡◌ {A = Result ℕ Error} (Ok n) (Ok (min (length s.left) (length old))))
      × (t ≡ record s { left = drop (length old) s.left }) × (drop (length s.left) out ≡ drop (length s.left) old)
  bytes : ReadConsumes {E = Error} (prepend_known s.left (remaining s.inner)) (prepend_known t.left (remaining t.inner))
      (Ok n) out
  some : 0 < length s.left

handed : {R : Type 0} (remaining : R → Option (List ℕ)) (s t : Unbuffered R) (n : ℕ) (old out : List ℕ)
    → 0 < length s.left → n ≡ min (length s.left) (length old) → out ≡ take n s.left ++ drop n old
    → t.left ≡ drop n s.left → t.inner ≡ s.inner → t.log ≡ s.log → Handed remaining s t n old out
handed remaining s t n old out some count copied left inner told =
    let taken = length-take-le n s.left (omega (arith, count)) in
    let swapped : n ≡ min (length old) (length s.left) = omega (arith, count) in
    let size : length out ≡ length old =
    omega (arith, count, taken, ap length copied, length-append (take n s.left) (drop n old), length-drop n old) in
    let equal : take n out ++ t.left ≡ s.left ++ [] =
    ap (λ l. take n l ++ t.left) copied
    ∙ ap (λ l. l ++ t.left) (take_at (take n s.left) (drop n old) n taken)
    ∙ ap (λ l. take n s.left ++ l) left ∙ take-append-drop n s.left ∙ sym (append-nil s.left) in
    record {
      in_order = record {
        got = [];
        given = ap (λ l. l.reads.given) told ∙ sym (append-nil s.log.reads.given);
        equal = equal;
      };
      left = (
        ap Ok count,
        same_parts s t (drop (length old) s.left) (left ∙ ap (λ k. drop k s.left) swapped ∙ drop_min (length old) s.left)
            inner told,
        grind (arith, common_steps),
      );
      bytes = (
        GivesRemaining-ahead (remaining s.inner) (remaining t.inner) s.log.reads s.log.reads s.left t.left (take n out) []
            (subst (λ i. GivesRemaining (remaining s.inner) s.log.reads (remaining i) s.log.reads) (sym inner)
            (GivesRemaining-none (remaining s.inner) s.log.reads))
            (sym (append-nil s.log.reads.given)) equal,
        λ none room. absurd (omega (arith, some, none, room, size, count)),
      );
      some = some;
    }

pub returns-in_default-clause-in_order : goal.returns-in_default-clause-in_order
returns-in_default-clause-in_order g c =
    let given = portion c.read_told.new.buf c.read_told.result in
    let left : bytes_in c.self.inside.buf ≡ [] = ap bytes_in c.in_default.is in
    rw (← c.self.view_is) (record {
      got = given;
      given = ap (λ l. l.reads.given) c.read_told.ensures.told;
      equal = ap (λ l. given ++ l) left ∙ append-nil given ∙ sym (ap (λ l. l ++ given) left);
    })

then_handed : (g : _) (c : goal.Joined-self-2 g) → Handed g.R.TellRead.remaining c.args.self.now c.match-self-2.self
    c.copy_to_slice-n.result c.args.out.now c.copy_to_slice-n.new.out
then_handed g c =
    let s = c.args.self.now in
    let t = c.match-self-2.self in
    let copy = c.copy_to_slice-n in
    let had : s.left ≡ c.in-Some.buf.bytes =
    sym (ap (λ u. u.left) c.self.view_is) ∙ ap bytes_in c.in-Some.is in
    let none : copy.new.self.bytes ≡ [] = nil_from_length _ (c.is_empty.ensures.value.0 c.if-is_empty.true) in
    let freed : t.left ≡ [] = search rules in
    let inner : t.inner ≡ s.inner = search rules in
    let told : t.log ≡ s.log = search rules in
    handed _ s t copy.result c.args.out.now copy.new.out
    (omega (arith, rw c.in-Some.is at c.self.invariant, ap length had))
    (copy.ensures.count ∙ ap (λ l. min (length l) (length c.args.out.now)) (sym had))
    (copy.ensures.copied ∙ ap (λ l. take copy.result l ++ drop copy.result c.args.out.now) (sym had))
    (freed ∙ sym none ∙ copy.ensures.bytes.bytes ∙ ap (drop copy.result) (sym had)) inner told

else_handed : (g : _) (c : goal.Else-is_empty g) → Handed g.R.TellRead.remaining c.args.self.now
    (record { left = c.copy_to_slice-n.new.self.bytes; inner = c.self.inside.inner; log = g.R.Tell.log c.self.inside.inner })
    c.copy_to_slice-n.result c.args.out.now c.copy_to_slice-n.new.out
else_handed g c =
    let s = c.args.self.now in
    let copy = c.copy_to_slice-n in
    let had : s.left ≡ c.in-Some.buf.bytes =
    sym (ap (λ u. u.left) c.self.view_is) ∙ ap bytes_in c.in-Some.is in
    handed _ s _ copy.result c.args.out.now copy.new.out
    (omega (arith, rw c.in-Some.is at c.self.invariant, ap length had))
    (copy.ensures.count ∙ ap (λ l. min (length l) (length c.args.out.now)) (sym had))
    (copy.ensures.copied ∙ ap (λ l. take copy.result l ++ drop copy.result c.args.out.now) (sym had))
    (copy.ensures.bytes.bytes ∙ ap (drop copy.result) (sym had))
    (ap (λ u. u.inner) c.self.view_is) (ap (λ u. u.log) c.self.view_is)

pub returns-then-is_empty-clause-in_order : goal.returns-then-is_empty-clause-in_order
returns-then-is_empty-clause-in_order g c = (then_handed g c).in_order

pub returns-else-is_empty-clause-bytes : goal.returns-else-is_empty-clause-bytes
returns-else-is_empty-clause-bytes g c = (else_handed g c).bytes
