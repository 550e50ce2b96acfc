-- What readers, or writers, of one stream do, one after another.
use Rattle.std.specs.Prelude.{◌≡◌, ◌≤◌, ℕ, List, [], ◌++◌, Option, None, Some, Result}
use Rattle.std.proofs.Common.{sym, ap, ◌∙◌, refl, arith, append_assoc, append-nil}
use Rattle.std.proofs.lemmas.List.{append_cancel_left, append_cancel_right}
use Rattle.std.proofs.KnownBytes.{Consumes-nil, Consumes-trans}
use Rattle.std.specs.Io.KnownBytes.{Consumes}
use Rattle.std.specs.declared.io.Error.{Error}
use Rattle.redux_buffer.specs.GivesRemaining.{GivesRemaining-none, GivesRemaining-joins, GivesRemaining-ahead}
use Rattle.redux_buffer.specs.LogGrows.{ReadLogGrows-none, ReadLogGrows-joins}
use Rattle.buffer_redux.specs.Buffered.{Buffered}
use Rattle.buffer_redux.specs.BufReader.{ReadsAlong}
use Rattle.buffer_redux.specs.BufWriter.{WritesInOrder}
use Rattle.buffer_redux.specs.Policy.{ReadRules}
use Rattle.buffer_redux.specs.WriterLaws.{WritesInOrder-joins}
use Rattle.buffer_redux.specs.Unbuffer.{HandsOutInOrder, StreamWent, UnbufferHands, UnbufferReads, Unbuffered, unbuffer_remaining, unbuffered}
use Rattle.buffer_redux.specs.ReadAll.{SliceRead}

-- known bytes are those that went, and then what is left
pub left_then : (left left' : Option (List ℕ)) (bytes lost : List ℕ) → left ≡ Some bytes → Consumes left left' lost
    → (more : List ℕ) × (left' ≡ Some more) × (bytes ≡ lost ++ more)
left_then None left' bytes lost is went = cc
left_then (Some x) None bytes lost is went = absurd went
left_then (Some x) (Some y) bytes lost is went = (y, refl, (let same : x ≡ bytes = cc in sym same ∙ went))

module _ {R : Type 0} where
  pub HandsOutInOrder-none : (s : Unbuffered R) → HandsOutInOrder s [] s
  HandsOutInOrder-none s =
      record { got = []; given = sym (append-nil s.log.reads.given); equal = sym (append-nil s.left) }

  pub HandsOutInOrder-joins : (s m t : Unbuffered R) (h k : List ℕ) → HandsOutInOrder s h m → HandsOutInOrder m k t
      → HandsOutInOrder s (h ++ k) t
  HandsOutInOrder-joins s m t h k a b = record {
    got = a.got ++ b.got;
    given = b.given ∙ ap (λ l. l ++ b.got) a.given ∙ append_assoc s.log.reads.given a.got b.got;
    equal = append_assoc h k t.left ∙ ap (λ l. h ++ l) b.equal ∙ sym (append_assoc h m.left b.got)
        ∙ ap (λ l. l ++ b.got) a.equal ∙ append_assoc s.left a.got b.got;
  }

  -- it is one list of bytes
  pub HandsOutInOrder-same : (s t : Unbuffered R) (a b : List ℕ) → HandsOutInOrder s a t → HandsOutInOrder s b t → a ≡ b
  HandsOutInOrder-same s t a b h k =
      let got : h.got ≡ k.got = append_cancel_left s.log.reads.given h.got k.got (sym h.given ∙ k.given) in
      append_cancel_right a b t.left (h.equal ∙ ap (λ l. s.left ++ l) got ∙ sym k.equal)

module _ {R : Type 0} (remaining : R → Option (List ℕ)) where
  pub StreamWent-none : (s : Unbuffered R) → StreamWent remaining s [] s
  StreamWent-none s = record {
    order = HandsOutInOrder-none s;
    known = GivesRemaining-none (remaining s.inner) s.log.reads;
    grows = ReadLogGrows-none s.log.reads;
  }

  pub StreamWent-joins : (s m t : Unbuffered R) (h k : List ℕ) → StreamWent remaining s h m → StreamWent remaining m k t
      → StreamWent remaining s (h ++ k) t
  StreamWent-joins s m t h k a b = record {
    order = HandsOutInOrder-joins s m t h k a.order b.order;
    known = GivesRemaining-joins (remaining s.inner) s.log.reads (remaining m.inner) m.log.reads (remaining t.inner)
        t.log.reads a.known b.known;
    grows = ReadLogGrows-joins s.log.reads m.log.reads t.log.reads a.grows b.grows;
  }

  -- a stream that wasn't asked gave nothing
  pub StreamWent-unasked : (s t : Unbuffered R) (bytes : List ℕ) → StreamWent remaining s bytes t → t.log ≡ s.log
      → bytes ++ t.left ≡ s.left
  StreamWent-unasked s t bytes went same =
      let order = went.order in
      let none : order.got ≡ [] = append_cancel_left s.log.reads.given order.got []
      (sym order.given ∙ ap (λ l. l.reads.given) same ∙ sym (append-nil s.log.reads.given)) in
      order.equal ∙ ap (λ l. s.left ++ l) none ∙ append-nil s.left

  -- where what is left is known, these bytes are its front, and the others are left
  pub StreamWent-front : (s t : Unbuffered R) (bytes text : List ℕ) → StreamWent remaining s bytes t
      → unbuffer_remaining remaining s ≡ Some text
      → (more : List ℕ) × (unbuffer_remaining remaining t ≡ Some more) × (text ≡ bytes ++ more)
  StreamWent-front s t bytes text went known =
      left_then (unbuffer_remaining remaining s) (unbuffer_remaining remaining t) text bytes known
      (GivesRemaining-ahead (remaining s.inner) (remaining t.inner) s.log.reads t.log.reads s.left t.left bytes
      went.order.got went.known went.order.given went.order.equal)

  -- reads of one that gave its buffer up
  pub UnbufferHands-none : (s : Unbuffered R) → UnbufferHands remaining s [] s
  UnbufferHands-none s = record {
    order = HandsOutInOrder-none s;
    known = Consumes-nil (unbuffer_remaining remaining s);
    grows = ReadLogGrows-none s.log.reads;
  }

  pub UnbufferHands-joins : (s m t : Unbuffered R) (a b : List ℕ) → UnbufferHands remaining s a m → UnbufferHands remaining m b t
      → UnbufferHands remaining s (a ++ b) t
  UnbufferHands-joins s m t a b p q = record {
    order = HandsOutInOrder-joins s m t a b p.order q.order;
    known = Consumes-trans (unbuffer_remaining remaining s) (unbuffer_remaining remaining m) (unbuffer_remaining remaining t) a b
        p.known q.known;
    grows = ReadLogGrows-joins s.log.reads m.log.reads t.log.reads p.grows q.grows;
  }

  pub UnbufferReads-tells : (s : Unbuffered R) (was : List ℕ) (answer : Result ℕ Error) (slice : List ℕ) (t : Unbuffered R)
      → UnbufferReads remaining s was answer slice t → SliceRead (UnbufferHands remaining) s was answer slice t
  UnbufferReads-tells s was answer slice t r = record { bound = r.bound; size = r.size; front = r.handed }

  -- any calls of a buffered reader do so
  pub ReadsAlong-stream : {P : Type 0} (rules : ReadRules P) (s : Buffered R P) (bytes : List ℕ) (t : Buffered R P)
      → ReadsAlong remaining rules s bytes t → StreamWent remaining (unbuffered s) bytes (unbuffered t)
  ReadsAlong-stream rules s bytes t along = record {
    order = record { got = along.in_order.got; given = along.in_order.given; equal = along.in_order.equal };
    known = along.known;
    grows = along.grows;
  }

-- what two writers of one stream took, one after another, where the second was made of what the first left
pub WritesInOrder-over : {W P : Type 0} (s m n t : Buffered W P) (h k : List ℕ) → unbuffered n ≡ unbuffered m
    → n.block.consumed ≤ m.block.consumed → WritesInOrder s h m → WritesInOrder n k t → WritesInOrder s (h ++ k) t
WritesInOrder-over s m n t h k same fewer p q = WritesInOrder-joins s m t h k p (record {
  sent = q.sent;
  received = q.received ∙ ap (λ u. u.log.writes.received ++ q.sent) same;
  equal = q.equal ∙ ap (λ u. u.left ++ k) same;
  consumed = omega (arith, q.consumed, fewer);
})
