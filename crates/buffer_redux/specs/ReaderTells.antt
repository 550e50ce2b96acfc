-- What a buffered reader tells of its own calls, and what any of them, one after another, may do to it.
use Rattle.std.specs.Prelude.{◌≡◌, ℕ, ◌+◌, ◌<◌, ◌≤◌, ◌⊎◌, List, [], ◌∷◌, ◌++◌, length, Option, Ok, Err, true}
use Rattle.std.proofs.Common.{inl, inr, refl, sym, ap, subst, ◌∙◌, arith, le_refl, le_trans, append-nil, append_assoc, length-append}
use Rattle.std.specs.declared.io.Error.{Error}
use Rattle.std.proofs.lemmas.List.{append_cancel_left}
use Rattle.redux_buffer.specs.Block.{IsBlock}
use Rattle.redux_buffer.specs.Faults.{OnlyInterrupts, FaultAfterInterrupts}
use Rattle.redux_buffer.specs.StreamLog.{StreamLog, Readies, with_shown}
use Rattle.redux_buffer.specs.LogGrows.{ReadLogGrows, ReadLogGrows-none, ReadLogGrows-joins, FillLogGrows, FillLogGrows-none, FillLogGrows-joins, FillsGoOn, FillsGoOn-of}
use Rattle.buffer_redux.specs.Policy.{ReadRules, ClaimsToSpare}
use Rattle.buffer_redux.specs.Buffered.{Buffered}
use Rattle.buffer_redux.specs.BufReader.{ReadsInOrder, InnerGives}
use Rattle.buffer_redux.specs.Sparing.{SparesClaimed, Spared-none, Spared-joins}
use Rattle.buffer_redux.specs.EmptyReads.{ReadsWhenEmpty, ReadsWhole}
use Rattle.buffer_redux.specs.ReaderLaws.{ReadsInOrder-none, ReadsInOrder-joins, InnerGives-none, InnerGives-joins, WantsBytes}

-- what it shows is what is buffered; the rest was noted call by call
abbrev pub reader_log : {S P : Type 0} → Buffered S P → StreamLog
reader_log b = with_shown b.own_calls b.block.bytes

-- a seek drops what is shown, and a failed one that or nothing
abbrev pub drops_shown : Readies
drops_shown before (Ok n) after = after ≡ with_shown before []
drops_shown before (Err e) after = (after ≡ before) ⊎ (after ≡ with_shown before [])

-- the same faults came to two lists
pub record FaultsAlike (old new old' new' : List Error) : Type 0 where
  pub more : List Error
  pub first : new ≡ old ++ more
  pub second : new' ≡ old' ++ more

-- the capacity stayed, and where the inner reader was asked, the last ask offered as much, and all that is buffered came in it
pub record OffersWhole {S P : Type 0} (s t : Buffered S P) : Type 0 where
  pub whole : IsBlock t.block
  pub capacity : t.block.capacity ≡ s.block.capacity
  pub offer : (t.log.reads ≡ s.log.reads)
      ⊎ ((t.log.reads.offer ≡ t.block.capacity) × (length t.block.bytes ≤ length t.log.reads.latest))

-- no byte is lost between the inner reader and what was consumed, and of what that is known to have left just what it
-- gave is gone; the kind and the claims stay, and what the policy claims to spare is spared. Under a steady policy its
-- faults are the inner reader's. Where the policy is steady or claims a minimum of at least 1, and there is capacity, it
-- ended only where the inner reader gave nothing; and where a read is ordered over an empty buffer alone, that gave nothing
-- only where it ended, and was offered all of a buffer that the policy leaves as it is, which was empty
pub record ReaderWent {S P : Type 0} (remaining : S → Option (List ℕ))
    (rules : ReadRules P) (s t : Buffered S P)
    : Type 0 where
  pub handed : List ℕ
  pub consumed : t.own_calls.fills.consumed ≡ s.own_calls.fills.consumed ++ handed
  pub in_order : ReadsInOrder s handed t
  pub known : InnerGives remaining s t
  pub grows : ReadLogGrows s.log.reads t.log.reads
  pub own_grows : FillLogGrows s.own_calls.fills t.own_calls.fills
  pub capacity : s.block.capacity ≤ t.block.capacity
  pub kind : t.block.kind ≡ s.block.kind
  pub claims : rules.claims t.policy ≡ rules.claims s.policy
  pub sparing : SparesClaimed rules s t
  pub faults : (rules.claims s.policy).steady ≡ true
      → FaultsAlike s.own_calls.fills.faults t.own_calls.fills.faults s.log.reads.faults t.log.reads.faults
  pub ends : WantsBytes (rules.claims s.policy) → 0 < s.block.capacity
      → t.own_calls.fills.zero_fills + s.log.reads.zero_reads ≤ s.own_calls.fills.zero_fills + t.log.reads.zero_reads
  pub once : ReadsWhenEmpty rules
      → s.own_calls.fills.zero_fills + t.log.reads.zero_reads ≤ t.own_calls.fills.zero_fills + s.log.reads.zero_reads
  pub offers : ReadsWhole rules → IsBlock s.block → OffersWhole s t

OffersWhole-joins : {S P : Type 0} (a b c : Buffered S P) (handed : List ℕ) → ReadsInOrder b handed c
    → OffersWhole a b → OffersWhole b c → OffersWhole a c
OffersWhole-joins a b c handed order p q = record {
  whole = q.whole;
  capacity = q.capacity ∙ p.capacity;
  offer = elim q.offer [
    | inl same ↦ elim p.offer [
      | inl before ↦ inl (same ∙ before)
      | inr asked ↦ inr (
        ap (λ l. l.offer) same ∙ asked.0 ∙ sym q.capacity,
        omega (
          arith,
          asked.1,
          ap (λ l. length l.latest) same,
          ap (λ l. length l.given) same,
          ap length order.given,
          length-append b.log.reads.given order.got,
          ap length order.equal,
          length-append handed c.block.bytes,
          length-append b.block.bytes order.got,
        ),
      )
    ]
    | inr asked ↦ inr asked
  ];
}

FaultsAlike-none : (xs ys : List Error) → FaultsAlike xs xs ys ys
FaultsAlike-none xs ys = record { more = []; first = sym (append-nil xs); second = sym (append-nil ys) }

FaultsAlike-joins : (a b c a' b' c' : List Error) → FaultsAlike a b a' b' → FaultsAlike b c b' c'
    → FaultsAlike a c a' c'
FaultsAlike-joins a b c a' b' c' p q = record {
  more = p.more ++ q.more;
  first = q.first ∙ ap (λ l. l ++ q.more) p.first ∙ append_assoc a p.more q.more;
  second = q.second ∙ ap (λ l. l ++ q.more) p.second ∙ append_assoc a' p.more q.more;
}

-- what interrupted calls are in one list, they are in the other
pub FaultsAlike-only : (a b a' b' : List Error)
    → FaultsAlike a b a' b' → OnlyInterrupts a b → OnlyInterrupts a' b'
FaultsAlike-only a b a' b' alike only = record {
  interrupts = only.interrupts;
  interrupted = only.interrupted;
  faults = alike.second ∙ ap (λ l. a' ++ l)
      (append_cancel_left a alike.more only.interrupts (sym alike.first ∙ only.faults));
}

pub FaultsAlike-fault : (a b a' b' : List Error) (e : Error) → FaultsAlike a b a' b'
    → FaultAfterInterrupts a b e → FaultAfterInterrupts a' b' e
FaultsAlike-fault a b a' b' e alike fault = record {
  interrupts = fault.interrupts;
  interrupted = fault.interrupted;
  faults = alike.second ∙ ap (λ l. a' ++ l) (append_cancel_left a alike.more
      (fault.interrupts ++ e ∷ [])
      (sym alike.first ∙ fault.faults ∙ append_assoc a fault.interrupts (e ∷ [])))
      ∙ sym (append_assoc a' fault.interrupts (e ∷ []));
}

module _ {S P : Type 0} (remaining : S → Option (List ℕ)) (rules : ReadRules P) where
  pub ReaderWent-none : (s : Buffered S P) → ReaderWent remaining rules s s
  ReaderWent-none s = record {
    handed = [];
    consumed = sym (append-nil s.own_calls.fills.consumed);
    in_order = ReadsInOrder-none s;
    known = InnerGives-none remaining s;
    grows = ReadLogGrows-none s.log.reads;
    own_grows = FillLogGrows-none s.own_calls.fills;
    capacity = le_refl _;
    kind = refl;
    claims = refl;
    sparing = λ keep claims. Spared-none keep s;
    faults = λ steady. FaultsAlike-none s.own_calls.fills.faults s.log.reads.faults;
    ends = λ wants room. le_refl _;
    once = λ orders. le_refl _;
    offers = λ leaves whole. record { whole = whole; capacity = refl; offer = inl refl };
  }

  pub ReaderWent-joins : (a b c : Buffered S P)
      → ReaderWent remaining rules a b → ReaderWent remaining rules b c → ReaderWent remaining rules a c
  ReaderWent-joins a b c p q =
      let still : (rules.claims a.policy).steady ≡ true → (rules.claims b.policy).steady ≡ true =
      λ steady. ap (λ x. x.steady) p.claims ∙ steady in
      record {
        handed = p.handed ++ q.handed;
        consumed = q.consumed ∙ ap (λ l. l ++ q.handed) p.consumed
            ∙ append_assoc a.own_calls.fills.consumed p.handed q.handed;
        in_order = ReadsInOrder-joins a b c p.handed q.handed p.in_order q.in_order;
        known = InnerGives-joins remaining a b c p.known q.known;
        grows = ReadLogGrows-joins a.log.reads b.log.reads c.log.reads p.grows q.grows;
        own_grows = FillLogGrows-joins a.own_calls.fills b.own_calls.fills c.own_calls.fills p.own_grows q.own_grows;
        capacity = le_trans p.capacity q.capacity;
        kind = q.kind ∙ p.kind;
        claims = q.claims ∙ p.claims;
        sparing = λ keep claims. Spared-joins keep a b c (p.sparing keep claims)
            (q.sparing keep (subst (λ x. ClaimsToSpare x.spares keep) (sym p.claims) claims));
        faults = λ steady. FaultsAlike-joins a.own_calls.fills.faults b.own_calls.fills.faults c.own_calls.fills.faults
            a.log.reads.faults b.log.reads.faults c.log.reads.faults
            (p.faults steady) (q.faults (still steady));
        ends = λ wants room. omega (
          arith,
          p.ends wants room,
          q.ends (subst WantsBytes (sym p.claims) wants) (omega (arith, room, p.capacity)),
        );
        once = λ orders. omega (arith, p.once orders, q.once orders);
        offers = λ leaves whole.
            let first = p.offers leaves whole in
            OffersWhole-joins a b c q.handed q.in_order first (q.offers leaves first.whole);
      }

  pub ReaderWent-grows : (s t : Buffered S P)
      → ReaderWent remaining rules s t → FillsGoOn (reader_log s) (reader_log t)
  ReaderWent-grows s t went = FillsGoOn-of (reader_log s) (reader_log t) (record {
    consumed = went.own_grows.consumed;
    asks = went.own_grows.asks;
    consumes = went.own_grows.consumes;
    ends = went.own_grows.ends;
    faults = went.own_grows.faults;
  })
