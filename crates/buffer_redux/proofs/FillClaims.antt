-- What filling promises under a policy that claims something, and all that it promises.
use Rattle.std.proofs.Common.{◌≡◌, ℕ, zero, suc, ◌+◌, ◌-◌, ◌<◌, ◌≤◌, Bool, true, false, List, [], ◌∷◌, ◌++◌, length, Result, Ok, Err, refl, sym, ap, subst, ◌∙◌, arith, inl, inr, ◌⊎◌, append-nil, length-append, Option, None, Some, is_ok, IsOkAnd, IfSome, MatchResult, IfOk, MatchBool, OnErr}
use Rattle.std.specs.declared.io.Error.{Error}
use Rattle.redux_buffer.specs.Block.{Block, IsBlock, usable}
use Rattle.redux_buffer.specs.Transfer.{ReadsOnce}
use Rattle.buffer_redux.specs.declared.policy.DoRead.{DoRead}
use Rattle.buffer_redux.specs.Policy.{ReadRules, BeforeRead, no_read, read_now, ClaimsToSpare}
use Rattle.buffer_redux.specs.Buffered.{Buffered}
use Rattle.buffer_redux.specs.Fill.{Turns, Ends, Filled}
use Rattle.buffer_redux.specs.BufReader.{FillsToMinimum, Fills, InnerGives, RanDry, ReaderKeeps}
use Rattle.buffer_redux.specs.Sparing.{Spared, Spared-none, Spared-joins}
use Rattle.buffer_redux.proofs.SparingFacts.{Spared-asked, Spared-read}
use Rattle.buffer_redux.proofs.FillFacts.{turns_facts, filled_facts, zero_rose, full_empty}
use Rattle.std.proofs.lemmas.Bool.{MatchBool-at_true}

module _ {S P : Type 0} (rules : ReadRules P) where
  -- the claims after some turns are those before them
  claimed : (k : ℕ) (s m : Buffered S P) → Turns rules k s m → rules.claims m.policy ≡ rules.claims s.policy
  claimed k s m h = (turns_facts rules k s m h).holds.claims

  module _ (n : ℕ) (s : Buffered S P) (wants : (rules.claims s.policy).minimum ≡ Some n) where
    at_minimum : (k : ℕ) (m : Buffered S P) (b : Block) (r : Result DoRead Error) (p : Buffered S P)
        → Turns rules k s m → BeforeRead rules m.policy m.block r p.policy b
        → record {
          ok : IfOk r (λ d. MatchBool d.0 ((length m.block.bytes < n) × (0 < usable b)) (n ≤ length m.block.bytes));
          err : OnErr r (length m.block.bytes < n);
          capacity : n ≤ m.block.capacity → b.capacity ≡ m.block.capacity;
          limit : b.limit ≡ m.block.limit;
        }
    at_minimum k m b r p h asked = rw (ap (λ c. c.minimum) (claimed k s m h) ∙ wants) at asked.minimum

    -- each turn found fewer bytes than the minimum
    few_turns : (k : ℕ) (t : Buffered S P) → Turns rules k s t → k ≤ n - length s.block.bytes
    few_turns zero t e = omega arith
    few_turns (suc k) t h =
        let m = h.0 in
        let turn = h.4 in
        let before = few_turns k m h.1 in
        let found = (at_minimum k m turn.seen read_now t h.1 turn.asked).ok in
        let facts = turns_facts rules k s m h.1 in
        omega (arith, before, facts.longer, found.0)

    -- there was no turn where so many bytes were there
    no_turns : (k : ℕ) (m : Buffered S P) → Turns rules k s m → n ≤ length s.block.bytes → m.log ≡ s.log
    no_turns zero m e enough = ap (λ x. x.log) (sym e)
    no_turns (suc k) m h enough = absurd (omega (arith, few_turns (suc k) m h, enough))

    -- no turn grew a buffer that can hold so many
    same_capacity : (k : ℕ) (m : Buffered S P) → Turns rules k s m → n ≤ s.block.capacity
        → m.block.capacity ≡ s.block.capacity
    same_capacity zero m e holds = ap (λ x. x.block.capacity) (sym e)
    same_capacity (suc k) t h holds =
        let m = h.0 in
        let turn = h.4 in
        let before = same_capacity k m h.1 holds in
        let found = at_minimum k m turn.seen read_now t h.1 turn.asked in
        turn.read.added.capacity ∙ found.capacity (omega (arith, before, holds)) ∙ before

    -- no turn changed the limit
    same_limit : (k : ℕ) (m : Buffered S P) → Turns rules k s m → m.block.limit ≡ s.block.limit
    same_limit zero m e = ap (λ x. x.block.limit) (sym e)
    same_limit (suc k) t h =
        let m = h.0 in
        let turn = h.4 in
        let found = at_minimum k m turn.seen read_now t h.1 turn.asked in
        turn.read.added.limit ∙ found.limit ∙ same_limit k m h.1

    -- the policy ended it, or failed
    by_policy : (k : ℕ) (m t : Buffered S P) (ok : Bool) (r : Result DoRead Error) → Turns rules k s m
        → BeforeRead rules m.policy m.block r t.policy t.block → t.log ≡ m.log
        → (ok ≡ true → (n ≤ length t.block.bytes) ⊎ RanDry s t) → (ok ≡ false → length t.block.bytes < n)
        → FillsToMinimum n s ok t
    by_policy k m t ok r h asked told enough few =
        let found = at_minimum k m t.block r t h asked in
        let asks : t.log.reads.asks ≡ m.log.reads.asks = ap (λ l. l.reads.asks) told in
        record {
          enough = enough;
          few = few;
          asks = omega (arith, asks, (turns_facts rules k s m h).asks, few_turns k m h);
          untouched = λ many. told ∙ no_turns k m h many;
          capacity = λ holds.
              let before = same_capacity k m h holds in found.capacity (omega (arith, before, holds)) ∙ before;
          limit = found.limit ∙ same_limit k m h;
        }

    -- a read did
    by_read : (k : ℕ) (m t : Buffered S P) (ok : Bool) (seen : Block) (answer : Result ℕ Error) → Turns rules k s m
        → BeforeRead rules m.policy m.block read_now t.policy seen → ReadsOnce seen m.log answer t.block t.log
        → (ok ≡ true → (n ≤ length t.block.bytes) ⊎ RanDry s t) → (ok ≡ false → length t.block.bytes < n)
        → FillsToMinimum n s ok t
    by_read k m t ok seen answer h asked read enough few =
        let found = at_minimum k m seen read_now t h asked in
        let facts = turns_facts rules k s m h in
        let once : t.log.reads.asks ≡ m.log.reads.asks + 1 = ap (λ l. l.reads.asks) read.told in
        record {
          enough = enough;
          few = few;
          asks = omega (arith, once, facts.asks, facts.longer, found.ok.0);
          untouched = λ many. absurd (omega (arith, facts.longer, found.ok.0, many));
          capacity = λ holds.
              let before = same_capacity k m h holds in
              read.added.capacity ∙ found.capacity (omega (arith, before, holds)) ∙ before;
          limit = read.added.limit ∙ found.limit ∙ same_limit k m h;
        }

    to_minimum_ok : {A : Type 0} (k : ℕ) (m t : Buffered S P) (a : A)
        → Turns rules k s m → Ends rules m (Ok a) t → FillsToMinimum n s true t
    to_minimum_ok k m t a h (inl end) =
        let found = at_minimum k m t.block no_read t h end.asked in
        by_policy k m t true no_read h end.asked end.told
        (λ _. inl (omega (arith, found.ok, ap length end.asked.law.bytes))) (λ no. cc)
    to_minimum_ok k m t a h (inr (inl (full, end))) =
        let found = at_minimum k m t.block read_now t h end.asked in
        absurd (omega (arith, found.ok.1, full))
    to_minimum_ok k m t a h (inr (inr end)) =
        let rose = zero_rose end.seen t.block m.log t.log end.read end.room in
        by_read k m t true end.seen (Ok 0) h end.asked end.read
        (λ _. inr (omega (arith, (turns_facts rules k s m h).zero_reads, rose))) (λ no. cc)

    to_minimum_err : (A : Type 0) (k : ℕ) (m t : Buffered S P) (e : Error)
        → Turns rules k s m → Ends {A = A} rules m (Err e) t → FillsToMinimum n s false t
    to_minimum_err A k m t e h (inl end) =
        let found = at_minimum k m t.block (Err e) t h end.asked in
        by_policy k m t false (Err e) h end.asked end.told (λ no. cc)
        (λ _. omega (arith, found.err, ap length end.asked.law.bytes))
    to_minimum_err A k m t e h (inr end) =
        let found = at_minimum k m end.seen read_now t h end.asked in
        let long : length t.block.bytes ≡ length m.block.bytes =
        ap length (end.read.added.bytes ∙ append-nil end.seen.bytes ∙ end.asked.law.bytes) in
        by_read k m t false end.seen (Err e) h end.asked end.read (λ no. cc) (λ _. omega (arith, long, found.ok.0))

    to_minimum : {A : Type 0} (r : Result A Error) (t : Buffered S P)
        → Filled rules s r t → FillsToMinimum n s (is_ok r) t
    to_minimum (Ok a) t f = to_minimum_ok f.count f.last t a f.turns f.ends
    to_minimum {A} (Err e) t f = to_minimum_err A f.count f.last t e f.turns f.ends

  looks_ahead : {A : Type 0} (o : Option ℕ) (s : Buffered S P) (r : Result A Error) (t : Buffered S P)
      → (rules.claims s.policy).minimum ≡ o → Filled rules s r t
      → IfSome o (λ n. FillsToMinimum n s (is_ok r) t)
  looks_ahead None s r t w f = tt
  looks_ahead (Some n) s r t w f = to_minimum n s w r t f

  module _ (s : Buffered S P) (steady : (rules.claims s.policy).steady ≡ true) where
    at_steady : (k : ℕ) (m : Buffered S P) (b : Block) (r : Result DoRead Error) (p : Buffered S P)
        → Turns rules k s m → BeforeRead rules m.policy m.block r p.policy b
        → IsOkAnd r (λ d. length m.block.bytes ≡ 0 → d.0 ≡ true)
    at_steady k m b r p h asked =
        MatchBool-at_true _ _ (ap (λ c. c.steady) (claimed k s m h) ∙ steady) asked.steady

    steady_ok : {A : Type 0} (k : ℕ) (m t : Buffered S P) (a : A)
        → IsBlock t.block → Turns rules k s m → Ends rules m (Ok a) t
        → 0 < s.block.capacity → length t.block.bytes ≡ 0 → RanDry s t
    steady_ok k m t a whole h (inl end) room none =
        let odd = at_steady k m t.block no_read t h end.asked (omega (arith, ap length end.asked.law.bytes)) in cc
    steady_ok k m t a whole h (inr (inl (full, end))) room none = absurd (omega (
      arith,
      full_empty t.block whole full none,
      (turns_facts rules k s m h).holds.capacity,
      end.asked.law.capacity,
    ))
    steady_ok k m t a whole h (inr (inr end)) room none = omega (
      arith,
      (turns_facts rules k s m h).zero_reads,
      zero_rose end.seen t.block m.log t.log end.read end.room,
    )

    steady_err : (A : Type 0) (k : ℕ) (m t : Buffered S P) (e : Error)
        → Turns rules k s m → Ends {A = A} rules m (Err e) t
        → length s.log.reads.faults < length t.log.reads.faults
    steady_err A k m t e h (inl end) = (let odd = at_steady k m t.block (Err e) t h end.asked in absurd odd)
    steady_err A k m t e h (inr end) =
        let facts = turns_facts rules k s m h in
        let more : t.log.reads.faults ≡ m.log.reads.faults ++ e ∷ [] =
        ap (λ l. l.reads.faults) end.read.told in
        omega (arith, ap length more, length-append m.log.reads.faults (e ∷ []), ap length facts.faults)

    steady_fill : {A : Type 0} (r : Result A Error) (t : Buffered S P)
        → IsBlock t.block → Filled rules s r t
        → MatchResult r (λ _. 0 < s.block.capacity → length t.block.bytes ≡ 0 → RanDry s t)
        (λ _. length s.log.reads.faults < length t.log.reads.faults)
    steady_fill (Ok a) t whole f = steady_ok f.count f.last t a whole f.turns f.ends
    steady_fill {A} (Err e) t whole f = steady_err A f.count f.last t e f.turns f.ends

  module _ (keep : ℕ) (s : Buffered S P) (claims : ClaimsToSpare (rules.claims s.policy).spares keep) where
    -- the policy alone
    spared_asked : (k : ℕ) (m t : Buffered S P) (r : Result DoRead Error) → Turns rules k s m
        → BeforeRead rules m.policy m.block r t.policy t.block → t.log ≡ m.log → Spared keep m t
    spared_asked k m t r h asked same =
        Spared-asked keep m t (rules.claims m.policy).spares
        (subst (λ c. ClaimsToSpare c.spares keep) (sym (claimed k s m h)) claims)
        asked.law asked.spares same

    -- the policy, and then one read
    spared_read : (k : ℕ) (m t : Buffered S P) (seen : Block) (answer : Result ℕ Error)
        → Turns rules k s m → BeforeRead rules m.policy m.block read_now t.policy seen
        → ReadsOnce seen m.log answer t.block t.log → Spared keep m t
    spared_read k m t seen answer h asked read =
        let ordered : Buffered S P = record {
          policy = t.policy;
          block = seen;
          inner = t.inner;
          log = m.log;
          own_calls = t.own_calls;
        } in
        Spared-joins keep m ordered t (spared_asked k m ordered read_now h asked refl)
        (Spared-read keep ordered t answer read)

    spared_turns : (k : ℕ) (t : Buffered S P) → Turns rules k s t → Spared keep s t
    spared_turns zero t e = subst (λ x. Spared keep s x) e (Spared-none keep s)
    spared_turns (suc k) t h =
        let m = h.0 in
        let turn = h.4 in
        Spared-joins keep s m t (spared_turns k m h.1)
        (spared_read k m t turn.seen (Ok h.2) h.1 turn.asked turn.read)

    spared_end : {A : Type 0} (k : ℕ) (m : Buffered S P) (r : Result A Error) (t : Buffered S P)
        → Turns rules k s m → Ends rules m r t → Spared keep m t
    spared_end k m (Ok a) t h (inl end) = spared_asked k m t no_read h end.asked end.told
    spared_end k m (Ok a) t h (inr (inl (full, end))) = spared_asked k m t read_now h end.asked end.told
    spared_end k m (Ok a) t h (inr (inr end)) = spared_read k m t end.seen (Ok 0) h end.asked end.read
    spared_end k m (Err e) t h (inl end) = spared_asked k m t (Err e) h end.asked end.told
    spared_end k m (Err e) t h (inr end) = spared_read k m t end.seen (Err e) h end.asked end.read

    spared_filled : {A : Type 0} (r : Result A Error) (t : Buffered S P)
        → Filled rules s r t → Spared keep s t
    spared_filled r t f = Spared-joins keep s f.last t (spared_turns f.count f.last f.turns)
        (spared_end f.count f.last r t f.turns f.ends)

  -- all that filling promises
  pub fills : {A : Type 0} (s : Buffered S P) (r : Result A Error) (t : Buffered S P)
      → IsBlock t.block → Filled rules s r t → Fills rules s r t
  fills s r t whole f =
      let facts = filled_facts rules s r t whole f in
      let holds = facts.holds in record {
        filled = f;
        in_order = holds.in_order;
        grows = holds.grows;
        kind = holds.kind;
        capacity = holds.capacity;
        consumed = holds.consumed;
        whole = whole;
        claims = holds.claims;
        caused = facts.caused;
        ended = facts.ended;
        empty = facts.empty;
        last = facts.last;
        ahead = looks_ahead (rules.claims s.policy).minimum s r t refl f;
        steadily = λ w. steady_fill s w r t whole f;
        sparing = λ keep claims. spared_filled keep s claims r t f;
      }

-- what a fill keeps
pub filled_keeps : {S P A : Type 0} (remaining : S → Option (List ℕ)) (rules : ReadRules P) (s : Buffered S P)
    (answer : Result A Error) (t : Buffered S P) → Fills rules s answer t → InnerGives remaining s t
    → t.own_calls ≡ s.own_calls → ReaderKeeps remaining rules s t
filled_keeps remaining rules s answer t f known noted = record {
  known = known;
  grows = f.grows;
  capacity = f.capacity;
  kind = f.kind;
  claims = f.claims;
  sparing = f.sparing;
  whole = f.whole;
  noted = noted;
}
