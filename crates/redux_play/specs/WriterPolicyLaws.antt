-- What a write leaves and sends by its policy, for the proofs of those who call one.
use Rattle.std.specs.Prelude.{◌≡◌, ℕ, ◌+◌, ◌<◌, ◌≤◌, ◌⊎◌, List, [], ◌++◌, length, take, max, slice_index, Result, Ok, Err, OnOk, IfOk}
use Rattle.std.proofs.Common.{refl, sym, ap, subst, ◌∙◌, arith, inl, inr, append-nil, length-drop, length-take-le}
use Rattle.std.proofs.lemmas.Bool.{cases_lt}
use Rattle.std.proofs.lemmas.List.{get_or-drop}
use Rattle.std.specs.declared.io.Error.{Error}
use Rattle.redux_buffer.specs.Block.{Block}
use Rattle.buffer_redux.specs.declared.policy.FlushAmt.{FlushAmt}
use Rattle.buffer_redux.specs.Policy.{WriteRules, std_write_rules}
use Rattle.buffer_redux.specs.Buffered.{Buffered, with_policy}
use Rattle.buffer_redux.specs.BufWriter.{FlushesAmount, TakesIn, Prepared, Wrote, Writes}
use Rattle.buffer_redux.specs.WriterPolicies.{at_least_rules, exact_rules, flush_on_rules}
use Rattle.buffer_redux.specs.WriterLaws.{flush_ways, ways_in}
use Rattle.redux_play.specs.WroteExactly.{EachTook, Wrote-left, Wrote-took}
use Rattle.std.proofs.lemmas.List.Elements.{All-from_get_or}
use Rattle.buffer_redux.specs.ReadUntil.{Lacks}

-- what a flush sent: so many of the first bytes that are buffered, or none
pub record SentAllOrNone {S P : Type 0} (n : ℕ) (s t : Buffered S P) : Type 0 where
  pub sent : List ℕ
  pub front : sent ≡ take (length sent) s.block.bytes
  pub received : t.log.writes.received ≡ s.log.writes.received ++ sent
  pub exact : (length sent ≡ n) ⊎ (length sent ≡ 0)

module _ {S P : Type 0} (amount : ℕ) where
  pub FlushesAmount-exact : (s t : Buffered S P) → FlushesAmount amount s (Ok tt) t → SentAllOrNone amount s t
  FlushesAmount-exact s t f = elim (flush_ways amount (length s.block.bytes)) [
    | inl none ↦ record {
      sent = [];
      front = refl;
      received = ap (λ l. l.writes.received) (f.idle none).told ∙ sym (append-nil s.log.writes.received);
      exact = inr refl;
    }
    | inr some ↦ (
        let sends = f.sends some.0 some.1 in
        let count = length-take-le sends.count s.block.bytes sends.sent.within in record {
          sent = take sends.count s.block.bytes;
          front = ap (λ k. take k s.block.bytes) (sym count);
          received = sends.sent.received;
          exact = inl (omega (arith, count, sends.whole, some.1));
        }
        )
  ]

std_stays : {P : Type 0} (p : P) (b : Block) (incoming : ℕ) (answer : Result FlushAmt Error) (p' : P) (b' : Block)
    → std_write_rules.before_write p b incoming answer p' b' → p' ≡ p
std_stays p b incoming (Ok amount) p' b' allowed = allowed.0
std_stays p b incoming (Err e) p' b' allowed = absurd allowed

-- up to its second question a write leaves a policy that the first one leaves
module _ {S P : Type 0} (rules : WriteRules P)
    (stays : (p : P) (b : Block) (incoming : ℕ) (answer : Result FlushAmt Error) (p' : P) (b' : Block)
    → rules.before_write p b incoming answer p' b' → p' ≡ p) where
  -- the write itself leaves the policy between its two questions
  took_in_policy : (s t : Buffered S P) (bs : List ℕ) (answer : Result ℕ Error) → TakesIn bs s answer t
      → t.policy ≡ s.policy
  took_in_policy s t bs answer took = elim (ways_in s.block (length bs)) [
    | inl past ↦ (took.past past).policy
    | inr inside ↦ (took.inside inside).policy
  ]

  prepared_policy : (s m : Buffered S P) (incoming : ℕ) (answer : Result (Unit {0}) Error)
      → Prepared rules incoming s answer m → m.policy ≡ s.policy
  prepared_policy s m incoming answer p =
      p.flush.policy ∙ stays s.policy s.block incoming (Ok p.amount) p.seen.policy p.seen.block p.asked.allowed

  asked_policy : (s t : Buffered S P) (bs : List ℕ) (n : ℕ) (wrote : Wrote rules s bs n t)
      → wrote.after.policy ≡ s.policy
  asked_policy s t bs n wrote =
      took_in_policy wrote.before wrote.after bs (Ok n) wrote.took_in
      ∙ prepared_policy s wrote.before (length bs) (Ok tt) wrote.prepared

  -- and one that the second leaves too, all of it
  pub Writes-policy : ((p : P) (b : Block) (amount : FlushAmt) (p' : P) → rules.after_write p b amount p' → p' ≡ p)
      → (s : Buffered S P) (bs : List ℕ) (answer : Result ℕ Error) (t : Buffered S P) → Writes rules s bs answer t
      → t.policy ≡ s.policy
  Writes-policy after s bs (Ok n) t wrote = after _ _ _ _ wrote.finished.asked.allowed ∙ asked_policy s t bs n wrote
  Writes-policy after s bs (Err e) t (inl refused) = stays _ _ _ _ _ _ refused.asked.allowed
  Writes-policy after s bs (Err e) t (inr (inl prepared)) = prepared_policy s t (length bs) (Err e) prepared
  Writes-policy after s bs (Err e) t (inr (inr faulted)) =
      took_in_policy faulted.before t bs (Err e) faulted.took_in
      ∙ prepared_policy s faulted.before (length bs) (Ok tt) faulted.prepared

-- a write under `FlushOn` leaves no such byte, where each write of the inner writer took something
module _ {S P : Type 0} (byte : P → ℕ) (s : Buffered S P) (bs : List ℕ) (n : ℕ) (t : Buffered S P)
    (wrote : Wrote (flush_on_rules byte) s bs n t) where
  pub Wrote-flush_on : EachTook s.log.writes t.log.writes → Lacks (byte s.policy) t.block.bytes
  Wrote-flush_on took =
      let same = asked_policy (flush_on_rules byte) std_stays s t bs n wrote in
      let through = wrote.finished.asked.allowed.1 in
      let amount = wrote.finished.amount.0 in
      let within : amount ≤ length wrote.after.block.bytes = elim (cases_lt 0 amount) [
        | inl some ↦ (through.last some).0
        | inr none ↦ omega (arith, none)
      ] in
      let left = (Wrote-left (flush_on_rules byte) s bs n t wrote took).enough within in
      All-from_get_or (λ b. ¬ (b ≡ byte s.policy)) t.block.bytes 0
      (λ k in_range is. through.none_after (amount + k) (omega arith)
      (omega (arith, in_range, ap length left, length-drop amount wrote.after.block.bytes))
      (sym (get_or-drop amount wrote.after.block.bytes k 0) ∙ ap (λ l. slice_index l k) (sym left) ∙ is
      ∙ ap byte (sym same)))

-- a write under `FlushAtLeast` leaves fewer bytes than its number, where each write of the inner writer took
-- something
module _ {S P : Type 0} (least : P → ℕ) (s : Buffered S P) (bs : List ℕ) (n : ℕ) (t : Buffered S P)
    (wrote : Wrote (at_least_rules least) s bs n t) where
  pub Wrote-at_least : EachTook s.log.writes t.log.writes → length t.block.bytes < max (least s.policy) 1
  Wrote-at_least took =
      let same = asked_policy (at_least_rules least) (λ _ _ _ _ _ _ allowed. allowed.0) s t bs n wrote in
      let amount : wrote.finished.amount.0 ≡ max (length wrote.after.block.bytes) (least s.policy) =
      wrote.finished.asked.allowed.1 ∙ ap (λ p. max (length wrote.after.block.bytes) (least p)) same in
      let left = Wrote-left (at_least_rules least) s bs n t wrote took in
      elim (cases_lt (length wrote.after.block.bytes) (least s.policy)) [
        | inl few ↦ omega (arith, few, ap length (left.fewer (omega (arith, few, amount))))
        | inr many ↦ omega (
          arith,
          many,
          amount,
          ap length (left.enough (omega (arith, many, amount))),
          length-drop (wrote.finished.amount.0) wrote.after.block.bytes,
        )
      ]

-- what the steps of a write under `FlushExact` sent: the flush before, the bytes that went past the buffer, and the flush
-- after, where that didn't fail, as it doesn't where each write of the inner writer took something
pub record SendsExactly {S P : Type 0} (rules : WriteRules P) (n : ℕ) (s : Buffered S P) (bs : List ℕ) (k : ℕ)
    (t : Buffered S P) : Type 0 where
  pub steps : Wrote rules s bs k t
  pub first : SentAllOrNone n s steps.before
  pub past : List ℕ
  pub went_past : steps.after.log.writes.received ≡ steps.before.log.writes.received ++ past
  pub past_input : (past ≡ []) ⊎ (past ≡ take k bs)
  pub last : OnOk steps.finished.flushed (SentAllOrNone n steps.after t)
  pub all_took : EachTook s.log.writes t.log.writes → steps.finished.flushed ≡ Ok tt

-- a flush that a write under `FlushExact` orders sends its number of bytes or none, where it doesn't fail
module _ {S P : Type 0} (exact : P → ℕ) (s : Buffered S P) (bs : List ℕ) (n : ℕ) (t : Buffered S P)
    (wrote : Wrote (exact_rules exact) s bs n t) where
  pub Wrote-exact-first : SentAllOrNone (exact s.policy) s wrote.before
  Wrote-exact-first =
      let p = wrote.prepared in
      let sent = FlushesAmount-exact (p.amount.0) p.seen wrote.before p.flush in
      record {
        sent = sent.sent;
        front = sent.front ∙ ap (take (length sent.sent)) p.asked.law.bytes;
        received = sent.received ∙ ap (λ l. l.writes.received ++ sent.sent) p.told;
        exact = subst (λ a. (length sent.sent ≡ a) ⊎ (length sent.sent ≡ 0)) p.asked.allowed.1.0 sent.exact;
      }

  exact_last : (answer : Result (Unit {0}) Error)
      → FlushesAmount (wrote.finished.amount.0) (with_policy wrote.after t.policy) answer t
      → OnOk answer (SentAllOrNone (exact s.policy) wrote.after t)
  exact_last (Ok u) flush =
      let same = asked_policy (exact_rules exact) (λ _ _ _ _ _ _ allowed. allowed.0) s t bs n wrote in
      let sent = FlushesAmount-exact (wrote.finished.amount.0) (with_policy wrote.after t.policy) t flush in
      record {
        sent = sent.sent;
        front = sent.front;
        received = sent.received;
        exact = subst (λ a. (length sent.sent ≡ a) ⊎ (length sent.sent ≡ 0)) (wrote.finished.asked.allowed.1 ∙ ap exact same)
            sent.exact;
      }
  exact_last (Err e) flush = tt

  pub Wrote-exact-last : OnOk wrote.finished.flushed (SentAllOrNone (exact s.policy) wrote.after t)
  Wrote-exact-last = exact_last wrote.finished.flushed wrote.finished.flush

  -- what went past the buffer: bytes of the write, or none
  went_past : (past : List ℕ) × (wrote.after.log.writes.received ≡ wrote.before.log.writes.received ++ past)
      × ((past ≡ []) ⊎ (past ≡ take n bs))
  went_past = elim (ways_in wrote.before.block (length bs)) [
    | inl past ↦ (take n bs, ap (λ l. l.writes.received) (wrote.took_in.past past).told, inr refl)
    | inr inside ↦ (
      [],
      ap (λ l. l.writes.received) (wrote.took_in.inside inside).told ∙ sym (append-nil wrote.before.log.writes.received),
      inl refl,
    )
  ]

  pub Wrote-exact : SendsExactly (exact_rules exact) (exact s.policy) s bs n t
  Wrote-exact = record {
    steps = wrote;
    first = Wrote-exact-first;
    past = went_past.0;
    went_past = went_past.1;
    past_input = went_past.2;
    last = Wrote-exact-last;
    all_took = Wrote-took (exact_rules exact) s bs n t wrote;
  }

-- the same of a write that may have failed
module _ {S P : Type 0} (s : Buffered S P) (bs : List ℕ) where
  pub Writes-flush_on : (byte : P → ℕ) (answer : Result ℕ Error) (t : Buffered S P)
      → Writes (flush_on_rules byte) s bs answer t
      → OnOk answer (EachTook s.log.writes t.log.writes → Lacks (byte s.policy) t.block.bytes)
  Writes-flush_on byte (Ok n) t wrote = Wrote-flush_on byte s bs n t wrote
  Writes-flush_on byte (Err e) t failed = tt

  pub Writes-at_least : (least : P → ℕ) (answer : Result ℕ Error) (t : Buffered S P)
      → Writes (at_least_rules least) s bs answer t
      → OnOk answer (EachTook s.log.writes t.log.writes → length t.block.bytes < max (least s.policy) 1)
  Writes-at_least least (Ok n) t wrote = Wrote-at_least least s bs n t wrote
  Writes-at_least least (Err e) t failed = tt

  pub Writes-exact : (exact : P → ℕ) (answer : Result ℕ Error) (t : Buffered S P)
      → Writes (exact_rules exact) s bs answer t
      → IfOk answer (λ k. SendsExactly (exact_rules exact) (exact s.policy) s bs k t)
  Writes-exact exact (Ok n) t wrote = Wrote-exact exact s bs n t wrote
  Writes-exact exact (Err e) t failed = tt
