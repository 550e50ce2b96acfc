-- Laws of a buffered reader, for the proofs of those who call one.
use Rattle.std.specs.Prelude.{◌≡◌, ℕ, ◌<◌, ◌≤◌, ◌==◌, ◌||◌, ◌⊎◌, nat_lt, not, List, [], ◌++◌, length, take, drop, min, Result, Ok, Option, None, Some, IfSome, Bool, is_ok, true, false}
use Rattle.std.proofs.Common.{zero, suc, cond, sym, ap, subst, refl, ◌∙◌, arith, inl, inr, le_refl, le_trans, append_assoc, append-nil}
use Rattle.std.proofs.Math.Seq.{take-length}
use Rattle.std.proofs.KnownBytes.{Consumes-whole}
use Rattle.std.proofs.lemmas.List.{length-append, length-take, nil_from_length, take_min, take-append-le, take-append-drop}
use Rattle.std.specs.Borrow.{Bor}
use Rattle.std.specs.Io.KnownBytes.{Consumes, Keeps, IsAtEnd, prepend_known}
use Rattle.std.specs.declared.io.Error.{Error}
use Rattle.redux_buffer.specs.Block.{Kind}
use Rattle.redux_buffer.specs.GivesRemaining.{GivesRemaining, GivesRemaining-none, GivesRemaining-joins, GivesRemaining-ahead}
use Rattle.redux_buffer.specs.LogGrows.{ReadLogGrows, ReadLogGrows-none, ReadLogGrows-joins}
use Rattle.redux_buffer.specs.StreamLog.{StreamLog}
use Rattle.buffer_redux.specs.Policy.{ReadRules, ReadClaims, std_read_rules}
use Rattle.buffer_redux.specs.Buffered.{Buffered, Makes}
use Rattle.buffer_redux.specs.BufReader.{ReadsInOrder, InnerGives, RanDry, FillsToMinimum, Fills, FillBuf, ReaderConsumes, ReaderKeeps, ReadsAlong, ReadsToEnd}
use Rattle.buffer_redux.specs.Remaining.{ahead, may_stop, reader_remaining}
use Rattle.std.specs.Option.{IsSomeAnd, unwrap_or}

-- no call hands out nothing, and two traces of calls join
pub ReadsInOrder-none : {S P : Type 0} (s : Buffered S P) → ReadsInOrder s [] s
ReadsInOrder-none s = record {
  got = [];
  given = sym (append-nil s.log.reads.given);
  equal = sym (append-nil s.block.bytes);
  consumed = omega arith;
}

pub ReadsInOrder-joins : {S P : Type 0} (s m t : Buffered S P) (h k : List ℕ)
    → ReadsInOrder s h m → ReadsInOrder m k t → ReadsInOrder s (h ++ k) t
ReadsInOrder-joins s m t h k a b = record {
  got = a.got ++ b.got;
  given = b.given ∙ ap (λ l. l ++ b.got) a.given ∙ append_assoc s.log.reads.given a.got b.got;
  equal =
      append_assoc h k t.block.bytes ∙ ap (λ l. h ++ l) b.equal ∙ sym (append_assoc h m.block.bytes b.got)
      ∙ ap (λ l. l ++ b.got) a.equal ∙ append_assoc s.block.bytes a.got b.got;
  consumed = omega (arith, a.consumed, b.consumed, length-append h k);
}

-- from an empty buffer on, what was given is what was handed out, then what is buffered
pub ReadsInOrder-fresh : {S P : Type 0} (s t : Buffered S P) (handed : List ℕ) → s.block.bytes ≡ []
    → ReadsInOrder s handed t
    → t.log.reads.given ≡ s.log.reads.given ++ (handed ++ t.block.bytes)
ReadsInOrder-fresh s t handed none a =
    a.given ∙ ap (λ l. s.log.reads.given ++ l) (sym (a.equal ∙ ap (λ l. l ++ a.got) none))

-- what is known ahead of a reader loses just what is handed out
pub ReadsInOrder-ahead : {S P : Type 0} (remaining : S → Option (List ℕ)) (s t : Buffered S P) (handed : List ℕ)
    → ReadsInOrder s handed t → InnerGives remaining s t → Consumes (ahead remaining s) (ahead remaining t) handed
ReadsInOrder-ahead remaining s t handed order known =
    GivesRemaining-ahead (remaining s.inner) (remaining t.inner) s.log.reads t.log.reads s.block.bytes t.block.bytes
    handed order.got known order.given order.equal

-- of what the reader inside had left no call took anything, and two traces of calls join
pub InnerGives-none : {S P : Type 0} (remaining : S → Option (List ℕ)) (s : Buffered S P) → InnerGives remaining s s
InnerGives-none remaining s = GivesRemaining-none (remaining s.inner) s.log.reads

pub InnerGives-same : {S P : Type 0} (remaining : S → Option (List ℕ)) (s t : Buffered S P) → t.inner ≡ s.inner
    → t.log ≡ s.log → InnerGives remaining s t
InnerGives-same remaining s t inner told = rw (inner, told) (InnerGives-none remaining s)

pub InnerGives-joins : {S P : Type 0} (remaining : S → Option (List ℕ)) (s m t : Buffered S P)
    → InnerGives remaining s m → InnerGives remaining m t → InnerGives remaining s t
InnerGives-joins remaining s m t p q = GivesRemaining-joins (remaining s.inner) s.log.reads
    (remaining m.inner) m.log.reads (remaining t.inner) t.log.reads p q

-- a policy that doesn't leave an empty buffer empty where the reader has bytes: it is steady, or claims a minimum
-- of at least 1
abbrev pub WantsBytes : ReadClaims → Type 0
WantsBytes claims = (claims.steady ≡ true) ⊎ IsSomeAnd claims.minimum (λ n. 0 < n)

-- `StdPolicy` wants bytes
pub WantsBytes-std : {P : Type 0} (p : P) → WantsBytes ((std_read_rules {P = P}).claims p)
WantsBytes-std p = inl refl

ahead_dry : {S P : Type 0} (s t : Buffered S P) (o : Option ℕ) → IsSomeAnd o (λ n. 0 < n)
    → IfSome o (λ n. FillsToMinimum n s true t)
    → length t.block.bytes ≡ 0 → RanDry s t
ahead_dry s t None wants ahead none = absurd wants
ahead_dry s t (Some n) wants ahead none = elim (ahead.enough refl) [
  | inl enough ↦ absurd (omega (arith, enough, wants, none))
  | inr dry ↦ dry
]

-- under such a policy a fill that shows nothing means that the reader ran dry
pub Fills-empty : {S P A : Type 0} (rules : ReadRules P) (s : Buffered S P) (a : A) (t : Buffered S P)
    → Fills rules s (Ok a) t
    → WantsBytes (rules.claims s.policy) → 0 < s.block.capacity → length t.block.bytes ≡ 0 → RanDry s t
Fills-empty rules s a t fills wants room none = elim wants [
  | inl steady ↦ fills.steadily steady room none
  | inr some ↦ ahead_dry s t (rules.claims s.policy).minimum some fills.ahead none
]

-- under a policy that claims a minimum of n, an Ok fill shows n bytes, or the reader ran dry in it; and whatever it
-- returns, it asked no more often than bytes were missing
pub Fills-ahead : {S P A : Type 0} (rules : ReadRules P) (n : ℕ) (s : Buffered S P) (answer : Result A Error)
    (t : Buffered S P) → Fills rules s answer t → (rules.claims s.policy).minimum ≡ Some n
    → FillsToMinimum n s (is_ok answer) t
Fills-ahead rules n s answer t fills claimed =
    subst (λ o. IfSome o (λ n. FillsToMinimum n s (is_ok answer) t)) claimed fills.ahead

-- what is known of one reader, and of another after it
pub Keeps-of : (a b : Option (List ℕ)) → Consumes a b [] → Keeps a b
Keeps-of None b p = tt
Keeps-of (Some x) None p = absurd p
Keeps-of (Some x) (Some y) p = sym p

pub IfSome-any : (o : Option (List ℕ)) (P : List ℕ → Type 0) → ((xs : List ℕ) → P xs) → IfSome o P
IfSome-any None P h = tt
IfSome-any (Some xs) P h = h xs

pub IfSome-unless : (b : Bool) (a : Option (List ℕ)) (P : List ℕ → Type 0)
    → (b ≡ false → IfSome a P) → IfSome (cond b None a) P
IfSome-unless true a P h = tt
IfSome-unless false a P h = h refl

Consumes-unless : (b b' : Bool) (a c : Option (List ℕ)) (bs : List ℕ) → (b ≡ false → b' ≡ false) → Consumes a c bs
    → Consumes (cond b None a) (cond b' None c) bs
Consumes-unless true b' a c bs h k = tt
Consumes-unless false true a c bs h k = let odd = h refl in cc
Consumes-unless false false a c bs h k = k

goes_on_if : (b : Bool) (c c' : ℕ) → c ≤ c' → (b || (c == 0)) ≡ false → (b || (c' == 0)) ≡ false
goes_on_if true c c' grown e = cc
goes_on_if false zero c' grown e = cc
goes_on_if false (suc c) zero grown e = absurd (omega (arith, grown))
goes_on_if false (suc c) (suc c') grown e = grind arith

-- of all that a reader is known to have left just what is handed out is gone
module _ {S P : Type 0} (remaining : S → Option (List ℕ)) (rules : ReadRules P) (s t : Buffered S P)
    (handed : List ℕ) (order : ReadsInOrder s handed t) (known : InnerGives remaining s t) where
  pub remaining_gives : rules.claims t.policy ≡ rules.claims s.policy → s.block.capacity ≤ t.block.capacity
      → Consumes (reader_remaining remaining rules s) (reader_remaining remaining rules t) handed
  remaining_gives claims grown =
      Consumes-unless (may_stop rules s) (may_stop rules t) (ahead remaining s) (ahead remaining t) handed
      (λ is. subst (λ c. (not (c.steady || nat_lt 0 (unwrap_or c.minimum 0)) || (t.block.capacity == 0)) ≡ false)
      (sym claims)
      (goes_on_if (not ((rules.claims s.policy).steady || nat_lt 0 (unwrap_or (rules.claims s.policy).minimum 0)))
      s.block.capacity t.block.capacity grown is))
      (ReadsInOrder-ahead remaining s t handed order known)

pub at_nothing : (a : Option (List ℕ)) (bs : List ℕ) → bs ≡ [] → IsAtEnd a → IsAtEnd (prepend_known bs a)
at_nothing None bs none e = tt
at_nothing (Some y) bs none e = ap (λ l. l ++ y) none ∙ e

-- where nothing is left, what was handed out is all that there was
pub handed_all : (a b : Option (List ℕ)) (bs bs' handed : List ℕ) (P : List ℕ → Type 0)
    → Consumes (prepend_known bs a) (prepend_known bs' b) handed → bs' ≡ [] → IfSome a (λ _. IsAtEnd b)
    → P handed → IfSome (prepend_known bs a) P
handed_all None b bs bs' handed P went none ended holds = tt
handed_all (Some x) b bs bs' handed P went none ended holds =
    Consumes-whole (prepend_known bs (Some x)) (prepend_known bs' b) handed P went
    (at_nothing b bs' none ended) holds

-- a consume dropped the first n bytes, so those were handed out
consumed_bytes : (n : ℕ) (bs left left' : List ℕ) → left ≡ drop (min n (length bs)) bs → left' ≡ left
    → take n bs ++ left' ≡ bs ++ []
consumed_bytes n bs left left' dropped same =
    ap (λ l. take n bs ++ l) (same ∙ dropped) ∙ ap (λ l. l ++ drop (min n (length bs)) bs) (sym (take_min n bs))
    ∙ take-append-drop (min n (length bs)) bs ∙ sym (append-nil bs)

-- the first bytes of what is shown are those of all that there is, where that many are shown or no more is there
same_front : (m : ℕ) (a a' : Option (List ℕ)) (bs shown : List ℕ)
    → Keeps (prepend_known bs a) (prepend_known shown a') → (m ≤ length shown) ⊎ IfSome a (λ _. IsAtEnd a')
    → IfSome (prepend_known bs a) (λ xs. take m shown ≡ take m xs)
same_front m None a' bs shown kept enough = tt
same_front m (Some x) None bs shown kept enough = absurd kept
same_front m (Some x) (Some y) bs shown kept (inl enough) =
    sym (take-append-le m shown y enough) ∙ ap (take m) kept
same_front m (Some x) (Some y) bs shown kept (inr ended) =
    ap (take m) (sym (append-nil shown) ∙ ap (λ l. shown ++ l) (sym ended) ∙ kept)

-- a policy that wants bytes, and some capacity, make known what is left
never_stops : (st : Bool) (o : Option ℕ) (c : ℕ) → (st ≡ true) ⊎ IsSomeAnd o (λ n. 0 < n) → 0 < c
    → (not (st || nat_lt 0 (unwrap_or o 0)) || (c == 0)) ≡ false
never_stops true o c wants some = grind (arith, some)
never_stops false o c (inl odd) some = cc
never_stops false None c (inr none) some = absurd none
never_stops false (Some n) c (inr wants) some = grind (arith, wants, some)

nothing_before : (a : Option (List ℕ)) → prepend_known [] a ≡ a
nothing_before None = refl
nothing_before (Some x) = refl

module _ {S P : Type 0} (remaining : S → Option (List ℕ)) (rules : ReadRules P) where
  -- a reader that was just made has left what its stream has
  pub Makes-left : (tells : S → StreamLog) (kind : Kind) (cap limit : ℕ) (stream : S) (r : Buffered S P)
      → Makes tells kind cap limit stream (Ok r) → WantsBytes (rules.claims r.policy) → 0 < cap
      → reader_remaining remaining rules r ≡ remaining stream
  Makes-left tells kind cap limit stream r makes wants some =
      let made = makes.made in
      let goes = never_stops (rules.claims r.policy).steady (rules.claims r.policy).minimum r.block.capacity wants
      (omega (arith, some, made.new.capacity)) in
      ap (λ b. cond b None (ahead remaining r)) goes
      ∙ ap (λ bs. prepend_known bs (remaining r.inner)) made.new.bytes
      ∙ nothing_before (remaining r.inner) ∙ ap remaining made.inner

  -- no call hands out nothing, and two traces of calls join
  pub ReadsAlong-none : (s : Buffered S P) → ReadsAlong remaining rules s [] s
  ReadsAlong-none s = record {
    in_order = ReadsInOrder-none s;
    known = InnerGives-none remaining s;
    grows = ReadLogGrows-none s.log.reads;
    capacity = le_refl _;
    claims = refl;
  }

  pub ReadsAlong-joins : (a b c : Buffered S P) (h k : List ℕ) → ReadsAlong remaining rules a h b
      → ReadsAlong remaining rules b k c → ReadsAlong remaining rules a (h ++ k) c
  ReadsAlong-joins a b c h k p q = record {
    in_order = ReadsInOrder-joins a b c h k p.in_order q.in_order;
    known = InnerGives-joins remaining a b c p.known q.known;
    grows = ReadLogGrows-joins a.log.reads b.log.reads c.log.reads p.grows q.grows;
    capacity = le_trans p.capacity q.capacity;
    claims = q.claims ∙ p.claims;
  }

  -- a trace that hands out nothing more
  pub ReadsAlong-then : (a b c : Buffered S P) (h : List ℕ) → ReadsAlong remaining rules a h b
      → ReadsAlong remaining rules b [] c → ReadsAlong remaining rules a h c
  ReadsAlong-then a b c h p q =
      subst (λ l. ReadsAlong remaining rules a l c) (append-nil h) (ReadsAlong-joins a b c h [] p q)

  -- a call that says what it handed out and what it keeps, as `read` does, whatever it answers
  pub ReaderKeeps-along : (s : Buffered S P) (handed : List ℕ) (t : Buffered S P) → ReadsInOrder s handed t
      → ReaderKeeps remaining rules s t → ReadsAlong remaining rules s handed t
  ReaderKeeps-along s handed t order keeps = record {
    in_order = order;
    known = keeps.known;
    grows = keeps.grows;
    capacity = keeps.capacity;
    claims = keeps.claims;
  }

  -- a fill hands out nothing, whatever it answers
  pub FillBuf-along : (s : Buffered S P) (answer : Result (Bor (List ℕ)) Error) (t : Buffered S P)
      → FillBuf remaining rules s answer t → ReadsAlong remaining rules s [] t
  FillBuf-along s answer t f = record {
    in_order = f.fills.in_order;
    known = f.known;
    grows = f.fills.grows;
    capacity = f.fills.capacity;
    claims = f.fills.claims;
  }

  -- a consume hands out what it drops
  pub ReaderConsumes-along : (s : Buffered S P) (n : ℕ) (t : Buffered S P) → t.inner ≡ s.inner
      → ReaderConsumes rules n s t → ReadsAlong remaining rules s (take n s.block.bytes) t
  ReaderConsumes-along s n t inner gone = record {
    in_order = record {
      got = [];
      given = ap (λ l. l.reads.given) gone.told ∙ sym (append-nil s.log.reads.given);
      equal = consumed_bytes n s.block.bytes gone.left.bytes t.block.bytes gone.dropped.bytes gone.told_policy.law.bytes;
      consumed = omega (arith, gone.told_policy.law.consumed, gone.dropped.consumed, length-take n s.block.bytes);
    };
    known = subst (λ i. GivesRemaining (remaining s.inner) s.log.reads (remaining i) t.log.reads) (sym inner)
        (subst (λ l. GivesRemaining (remaining s.inner) s.log.reads (remaining s.inner) l.reads) (sym gone.told)
        (GivesRemaining-none (remaining s.inner) s.log.reads));
    grows = subst (λ l. ReadLogGrows s.log.reads l.reads) (sym gone.told) (ReadLogGrows-none s.log.reads);
    capacity = omega (arith, gone.told_policy.law.capacity, gone.dropped.capacity);
    claims = gone.told_policy.claims;
  }

  -- what is known to be left loses just what is handed out; a fill keeps it
  pub ReadsAlong-left : (s : Buffered S P) (h : List ℕ) (t : Buffered S P) → ReadsAlong remaining rules s h t
      → Consumes (reader_remaining remaining rules s) (reader_remaining remaining rules t) h
  ReadsAlong-left s h t went = remaining_gives remaining rules s t h went.in_order went.known went.claims went.capacity

  pub FillBuf-keeps : (s : Buffered S P) (answer : Result (Bor (List ℕ)) Error) (t : Buffered S P)
      → FillBuf remaining rules s answer t
      → Keeps (reader_remaining remaining rules s) (reader_remaining remaining rules t)
  FillBuf-keeps s answer t f = Keeps-of (reader_remaining remaining rules s) (reader_remaining remaining rules t)
      (ReadsAlong-left s [] t (FillBuf-along s answer t f))

  -- under a minimum of n, an Ok fill shows the first n of the bytes that are known to be left, or all of them
  pub FillBuf-first : (m n : ℕ) (s : Buffered S P) (shown : Bor (List ℕ)) (t : Buffered S P) → m ≤ n
      → (rules.claims s.policy).minimum ≡ Some n → FillBuf remaining rules s (Ok shown) t
      → IfSome (reader_remaining remaining rules s) (λ xs. take m shown.now ≡ take m xs)
  FillBuf-first m n s shown t few claimed f =
      IfSome-unless (may_stop rules s) (ahead remaining s) (λ xs. take m shown.now ≡ take m xs)
      (λ _. subst (λ l. IfSome (ahead remaining s) (λ xs. take m l ≡ take m xs)) (sym f.shown)
      (same_front m (remaining s.inner) (remaining t.inner) s.block.bytes t.block.bytes
      (Keeps-of (ahead remaining s) (ahead remaining t) (ReadsInOrder-ahead remaining s t [] f.fills.in_order f.known))
      (elim ((Fills-ahead rules n s (Ok shown) t f.fills claimed).enough refl) [
        | inl enough ↦ inl (omega (arith, enough, few))
        | inr dry ↦ inr (f.known.dry dry)
      ])))

  -- a turn of a loop that reads: a fill, and a consume of the first n bytes that it showed, or of all of them
  module _ (s m : Buffered S P) (h : List ℕ) (shown : Bor (List ℕ)) (f : Buffered S P)
      (before : ReadsAlong remaining rules s h m) (filled : FillBuf remaining rules m (Ok shown) f) where
    filled_along : ReadsAlong remaining rules s h f
    filled_along = ReadsAlong-then s m f h before (FillBuf-along m (Ok shown) f filled)

    pub ReadsAlong-turn : (n : ℕ) (t : Buffered S P) → t.inner ≡ f.inner → ReaderConsumes rules n f t
        → ReadsAlong remaining rules s (h ++ take n shown.now) t
    ReadsAlong-turn n t inner gone = subst (λ l. ReadsAlong remaining rules s (h ++ take n l) t) (sym filled.shown)
        (ReadsAlong-joins s f t h (take n f.block.bytes) filled_along (ReaderConsumes-along f n t inner gone))

    pub ReadsAlong-shown : (t : Buffered S P) → t.inner ≡ f.inner → ReaderConsumes rules (length shown.now) f t
        → ReadsAlong remaining rules s (h ++ shown.now) t
    ReadsAlong-shown t inner gone = subst (λ l. ReadsAlong remaining rules s (h ++ l) t) (take-length shown.now)
        (ReadsAlong-turn (length shown.now) t inner gone)

    -- where the fill showed nothing, that was the end
    pub ReadsToEnd-of : WantsBytes (rules.claims s.policy) → 0 < s.block.capacity → length shown.now ≡ 0
        → ReadsToEnd remaining rules s h f
    ReadsToEnd-of wants some none =
        let empty : length f.block.bytes ≡ 0 = sym (ap length filled.shown) ∙ none in
        let dry = Fills-empty rules m shown f filled.fills (subst WantsBytes (sym before.claims) wants)
        (omega (arith, some, before.capacity)) empty in
        record {
          along = filled_along;
          none = nil_from_length f.block.bytes empty;
          dry = omega (arith, before.grows.zero_reads, dry);
        }

  -- what was handed out up to the end is all that was known to be left
  pub ReadsToEnd-known : (s : Buffered S P) (handed : List ℕ) (t : Buffered S P) (Q : List ℕ → Type 0)
      → ReadsToEnd remaining rules s handed t → Q handed → IfSome (reader_remaining remaining rules s) Q
  ReadsToEnd-known s handed t Q end holds = IfSome-unless (may_stop rules s) (ahead remaining s) Q
      (λ _. handed_all (remaining s.inner) (remaining t.inner) s.block.bytes t.block.bytes handed Q
      (ReadsInOrder-ahead remaining s t handed end.along.in_order end.along.known)
      end.none (end.along.known.dry end.dry) holds)
