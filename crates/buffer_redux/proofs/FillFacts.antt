-- What follows from the turns of filling.
use Rattle.std.proofs.Common.{◌≡◌, ◌⊎◌, ℕ, zero, suc, ◌+◌, ◌<◌, ◌≤◌, true, List, [], ◌∷◌, ◌++◌, length, take, Result, Ok, Err, refl, sym, ap, subst, ◌∙◌, arith, inl, inr, append-nil, length-append, length-take-le, le_refl, le_trans, is_ok, OnOk}
use Rattle.std.proofs.lemmas.Bool.{cases_lt}
use Rattle.std.proofs.lemmas.List.{nil_from_length}
use Rattle.std.specs.declared.io.Error.{Error}
use Rattle.redux_buffer.specs.Block.{Block, Kind, Plain, Ring, OnKind, IsBlock, usable}
use Rattle.redux_buffer.specs.LogGrows.{ReadLogGrows, ReadLogGrows-none, ReadLogGrows-joins, ReadLogGrows-read}
use Rattle.redux_buffer.specs.StreamLog.{StreamLog, portion, after_read}
use Rattle.redux_buffer.specs.Transfer.{ReadsOnce, ReadsFrom}
use Rattle.buffer_redux.specs.Policy.{no_read, read_now, ReadRules, BeforeRead}
use Rattle.buffer_redux.specs.declared.policy.DoRead.{DoRead}
use Rattle.buffer_redux.specs.Buffered.{Buffered, GoesDirect, StaysInside}
use Rattle.buffer_redux.specs.Fill.{Answered, Ordered, Turns, Ends, Filled}
use Rattle.buffer_redux.specs.BufReader.{PolicyGave, RanDry, ReadsInOrder, ReaderConsumes, ReadErrorCaused, LastAsk, EmptyFillCaused, EmptyReadCaused}
use Rattle.buffer_redux.specs.ReaderLaws.{ReadsInOrder-none, ReadsInOrder-joins}

-- one read that gave n bytes
module _ (b b' : Block) (log log' : StreamLog) (n : ℕ) (read : ReadsOnce b log (Ok n) b' log') where
  zero_kept : 0 < n → log'.reads.zero_reads ≡ log.reads.zero_reads
  zero_kept some = ap (λ l. l.reads.zero_reads) read.told ∙ grind arith

  pub asked_once : log'.reads.asks ≡ log.reads.asks + 1
  asked_once = ap (λ l. l.reads.asks) read.told

  got_length : length (take n read.out) ≡ n
  got_length = length-take-le n read.out read.bound.0

  length_after_read : length b'.bytes ≡ length b.bytes + n
  length_after_read =
      ap length read.added.bytes ∙ length-append b.bytes (take n read.out)
      ∙ ap (λ k. length b.bytes + k) got_length

full_empty_at : (b : Block) (k : Kind)
    → OnKind k (length b.bytes ≡ 0 → usable b ≡ b.capacity) (length b.bytes + usable b ≡ b.capacity)
    → usable b ≡ 0 → length b.bytes ≡ 0 → b.capacity ≡ 0
full_empty_at b Plain space full none = omega (arith, space none)
full_empty_at b Ring space full none = omega (arith, space)

-- an empty block without usable space has no capacity, plain or ring
pub full_empty : (b : Block) → IsBlock b → usable b ≡ 0 → length b.bytes ≡ 0 → b.capacity ≡ 0
full_empty b whole full none = full_empty_at b b.kind whole.space full none

pub zero_rose : (b b' : Block) (log log' : StreamLog)
    → ReadsOnce b log (Ok 0) b' log' → 0 < usable b → log'.reads.zero_reads ≡ log.reads.zero_reads + 1
zero_rose b b' log log' read room = ap (λ l. l.reads.zero_reads) read.told ∙ grind (arith, read.offered)

-- a read lets its log go on
read_grows : (b b' : Block) (log log' : StreamLog) (answer : Result ℕ Error)
    → ReadsOnce b log answer b' log' → ReadLogGrows log.reads log'.reads
read_grows b b' log log' answer read =
    subst (λ l. ReadLogGrows log.reads l.reads) (sym read.told) (ReadLogGrows-read log read.out answer)

-- one read, or none where nothing can be written
pub ReadsInOrder-read_from : {S P : Type 0} (s t : Buffered S P) (answer : Result ℕ Error)
    → ReadsFrom s.block s.log answer t.block t.log → ReadsInOrder s [] t
ReadsInOrder-read_from s t answer read = elim (cases_lt 0 (usable s.block)) [
  | inl room ↦
      (let once = read.read room in record {
        got = portion once.out answer;
        given = ap (λ l. l.reads.given) once.told;
        equal = once.added.bytes;
        consumed = omega (arith, once.added.consumed);
      })
  | inr full ↦ (
      let nothing = read.no_room (omega (arith, full)) in
      record {
        got = [];
        given = ap (λ l. l.reads.given) nothing.told ∙ sym (append-nil s.log.reads.given);
        equal = ap (λ b. b.bytes) nothing.buffer ∙ sym (append-nil s.block.bytes);
        consumed = omega (arith, ap (λ b. b.consumed) nothing.buffer);
      }
      )
]

-- one read past an empty buffer
pub ReadsInOrder-direct : {S P : Type 0} (s t : Buffered S P) (out : List ℕ) (answer : Result ℕ Error)
    → GoesDirect after_read s out answer t → length s.block.bytes ≡ 0 → ReadsInOrder s (portion out answer) t
ReadsInOrder-direct s t out answer direct none =
    let empty = nil_from_length s.block.bytes none in record {
      got = portion out answer;
      given = ap (λ l. l.reads.given) direct.told;
      equal =
          ap (λ b. portion out answer ++ b.bytes) direct.block ∙ ap (λ l. portion out answer ++ l) empty
          ∙ append-nil (portion out answer)
          ∙ ap (λ l. l ++ portion out answer) (sym empty);
      consumed = omega (arith, ap (λ b. b.consumed) direct.block);
    }

-- a read through the buffer that hands out nothing though there is room has found some capacity
pub inside_room : {S P : Type 0} (s m : Buffered S P) (room : ℕ)
    → StaysInside s.block room → ReadsInOrder s [] m → length m.block.bytes ≡ 0 → 0 < s.block.capacity
inside_room s m room inside order none = elim inside [
  | inl some ↦
      (let grown = ap length order.equal in
      absurd (omega (arith, grown, length-append s.block.bytes order.got, some, none)))
  | inr less ↦ omega (arith, less)
]

module _ {S P : Type 0} (rules : ReadRules P) where
  -- what every turn and every end of filling keep
  pub record Holds (s t : Buffered S P) : Type 0 where
    pub in_order : ReadsInOrder s [] t
    pub grows : ReadLogGrows s.log.reads t.log.reads
    pub kind : t.block.kind ≡ s.block.kind
    pub capacity : s.block.capacity ≤ t.block.capacity
    pub consumed : t.block.consumed ≡ s.block.consumed
    pub claims : rules.claims t.policy ≡ rules.claims s.policy

  Holds-none : (s : Buffered S P) → Holds s s
  Holds-none s = record {
    in_order = ReadsInOrder-none s;
    grows = ReadLogGrows-none s.log.reads;
    kind = refl;
    capacity = le_refl _;
    consumed = refl;
    claims = refl;
  }

  Holds-joins : (s m t : Buffered S P) → Holds s m → Holds m t → Holds s t
  Holds-joins s m t p q = record {
    in_order = ReadsInOrder-joins s m t [] [] p.in_order q.in_order;
    grows = ReadLogGrows-joins s.log.reads m.log.reads t.log.reads p.grows q.grows;
    kind = q.kind ∙ p.kind;
    capacity = le_trans p.capacity q.capacity;
    consumed = q.consumed ∙ p.consumed;
    claims = q.claims ∙ p.claims;
  }

  -- the policy alone, and the policy and then one read
  Holds-asked : (s t : Buffered S P) (answer : Result DoRead Error)
      → BeforeRead rules s.policy s.block answer t.policy t.block → t.log ≡ s.log → Holds s t
  Holds-asked s t answer asked told = record {
    in_order = record {
      got = [];
      given = ap (λ l. l.reads.given) told ∙ sym (append-nil s.log.reads.given);
      equal = asked.law.bytes ∙ sym (append-nil s.block.bytes);
      consumed = omega (arith, asked.law.consumed);
    };
    grows = subst (λ l. ReadLogGrows s.log.reads l.reads) (sym told) (ReadLogGrows-none s.log.reads);
    kind = asked.law.kind;
    capacity = asked.law.capacity;
    consumed = asked.law.consumed;
    claims = asked.claims;
  }

  Holds-read : (s t : Buffered S P) (seen : Block) (order : Result DoRead Error) (answer : Result ℕ Error)
      → BeforeRead rules s.policy s.block order t.policy seen
      → ReadsOnce seen s.log answer t.block t.log → Holds s t
  Holds-read s t seen order answer asked read = record {
    in_order = record {
      got = portion read.out answer;
      given = ap (λ l. l.reads.given) read.told;
      equal = read.added.bytes ∙ ap (λ l. l ++ portion read.out answer) asked.law.bytes;
      consumed = omega (arith, read.added.consumed, asked.law.consumed);
    };
    grows = read_grows seen t.block s.log t.log answer read;
    kind = read.added.kind ∙ asked.law.kind;
    capacity = omega (arith, asked.law.capacity, read.added.capacity);
    consumed = read.added.consumed ∙ asked.law.consumed;
    claims = asked.claims;
  }

  -- what filled nothing hands out nothing for the same cause, where there is capacity
  pub empty_read : (s m t : Buffered S P) → EmptyFillCaused rules s m → 0 < m.block.capacity
      → ReaderConsumes rules 0 m t → EmptyReadCaused rules s t
  empty_read s m t (inl said) room handed = inl (m, said.0, said.1, handed)
  empty_read s m t (inr (inl none)) room handed = absurd (omega (arith, none, room))
  empty_read s m t (inr (inr rose)) room handed =
      inr (omega (arith, ap (λ l. l.reads.zero_reads) handed.told, rose))

  pub record TurnsFacts (k : ℕ) (s t : Buffered S P) : Type 0 where
    pub holds : Holds s t
    pub faults : t.log.reads.faults ≡ s.log.reads.faults
    pub zero_reads : t.log.reads.zero_reads ≡ s.log.reads.zero_reads
    pub asks : t.log.reads.asks ≡ s.log.reads.asks + k
    pub longer : length s.block.bytes + k ≤ length t.block.bytes

  same_facts : (s : Buffered S P) → TurnsFacts 0 s s
  same_facts s = record {
    holds = Holds-none s;
    faults = refl;
    zero_reads = refl;
    asks = omega arith;
    longer = omega arith;
  }

  pub turns_facts : (k : ℕ) (s t : Buffered S P) → Turns rules k s t → TurnsFacts k s t
  turns_facts zero s t e = subst (TurnsFacts 0 s) e (same_facts s)
  turns_facts (suc k) s t h =
      let m = h.0 in
      let before = turns_facts k s m h.1 in
      let turn = h.4 in
      let read = turn.read in
      let asked = turn.asked in
      let once = asked_once turn.seen t.block m.log t.log h.2 read in
      let more = length_after_read turn.seen t.block m.log t.log h.2 read in
      record {
        holds = Holds-joins s m t before.holds (Holds-read m t turn.seen _ (Ok h.2) asked read);
        faults = ap (λ l. l.reads.faults) read.told ∙ before.faults;
        zero_reads =
            zero_kept turn.seen t.block m.log t.log h.2 read h.3 ∙ before.zero_reads;
        asks = omega (arith, once, before.asks);
        longer = omega (arith, more, before.longer, h.3, ap length asked.law.bytes);
      }

  -- the ask that this answer was given to, after these turns, where nothing was asked since
  asked_last : (k : ℕ) (s m after t : Buffered S P) (answer : Result ℕ Error)
      → Turns rules k s m → Ordered rules answer m after → t.log ≡ after.log → LastAsk rules s t
  asked_last k s m after t answer turns ordered same =
      let before = turns_facts k s m turns in
      let told : t.log ≡ after_read m.log ordered.read.out answer = same ∙ ordered.read.told in record {
        count = k;
        before = m;
        after = after;
        answer = answer;
        turns = turns;
        ordered = ordered;
        saw = before.longer;
        asks = ap (λ l. l.reads.asks) told ∙ ap (λ n. n + 1) before.asks;
        told = same;
        offer = ap (λ l. l.reads.offer) told ∙ ordered.read.offered;
      }

  -- that of the last turn
  last_kept : (k : ℕ) (s m t : Buffered S P)
      → Turns rules k s m → t.log ≡ m.log → s.log.reads.asks < t.log.reads.asks → LastAsk rules s t
  last_kept zero s m t e same some = absurd (omega (arith, some, ap (λ l. l.reads.asks) same, ap (λ x. x.log.reads.asks) e))
  last_kept (suc k) s m t h same some = asked_last k s h.0 m t (Ok h.2) h.1 h.4 same

  -- the facts of a whole filling
  pub record FilledFacts {A : Type 0} (s : Buffered S P) (answer : Result A Error)
      (t : Buffered S P) : Type 0 where
    pub holds : Holds s t
    pub caused : ReadErrorCaused rules s answer t
    pub ended : OnOk answer
        (PolicyGave rules no_read s t ⊎ ((usable t.block ≡ 0) × PolicyGave rules read_now s t) ⊎ RanDry s t)
    pub empty : is_ok answer ≡ true → length t.block.bytes ≡ 0 → EmptyFillCaused rules s t
    pub last : s.log.reads.asks < t.log.reads.asks → LastAsk rules s t

  -- what the policy gave after these turns
  gave_last : (k : ℕ) (s m t : Buffered S P) (answer : Result DoRead Error) → Turns rules k s m
      → BeforeRead rules m.policy m.block answer t.policy t.block → t.log ≡ m.log → PolicyGave rules answer s t
  gave_last k s m t answer turns asked told = record { count = k; last = m; turns = turns; gave = asked; told = told }

  -- where nothing is buffered, there was no turn
  said_first : (k : ℕ) (s m t : Buffered S P) → Turns rules k s m → TurnsFacts k s m
      → Answered rules no_read m t → length t.block.bytes ≡ 0 → (s.block.bytes ≡ []) × Answered rules no_read s t
  said_first zero s m t e facts end none = subst (λ x. (x.block.bytes ≡ []) × Answered rules no_read x t) (sym e)
      (nil_from_length m.block.bytes (omega (arith, ap length end.asked.law.bytes, none)), end)
  said_first (suc k) s m t h facts end none =
      absurd (omega (arith, facts.longer, ap length end.asked.law.bytes, none))

  ok_facts : {A : Type 0} (k : ℕ) (s m t : Buffered S P) (a : A) → IsBlock t.block → TurnsFacts k s m
      → Turns rules k s m → Ends rules m (Ok a) t → FilledFacts s (Ok a) t
  ok_facts k s m t a whole before turns (inl end) = record {
    holds = Holds-joins s m t before.holds (Holds-asked m t _ end.asked end.told);
    caused = ap (λ l. l.reads.faults) end.told ∙ before.faults;
    ended = inl (gave_last k s m t no_read turns end.asked end.told);
    empty = λ _ none. inl (said_first k s m t turns before end none);
    last = last_kept k s m t turns end.told;
  }
  ok_facts k s m t a whole before turns (inr (inl (full, end))) = record {
    holds = Holds-joins s m t before.holds (Holds-asked m t _ end.asked end.told);
    caused = ap (λ l. l.reads.faults) end.told ∙ before.faults;
    ended = inr (inl (full, gave_last k s m t read_now turns end.asked end.told));
    empty = λ _ none. inr (inl (full_empty t.block whole full none));
    last = last_kept k s m t turns end.told;
  }
  ok_facts k s m t a whole before turns (inr (inr end)) =
      let rose = zero_rose end.seen t.block m.log t.log end.read end.room in record {
        holds = Holds-joins s m t before.holds (Holds-read m t end.seen _ (Ok 0) end.asked end.read);
        caused = ap (λ l. l.reads.faults) end.read.told ∙ before.faults;
        ended = inr (inr (omega (arith, before.zero_reads, rose)));
        empty = λ _ none. inr (inr (omega (arith, before.zero_reads, rose)));
        last = λ some. asked_last k s m t t (Ok 0) turns end refl;
      }

  err_facts : {A : Type 0} (k : ℕ) (s m t : Buffered S P) (e : Error) → TurnsFacts k s m → Turns rules k s m
      → Ends {A = A} rules m (Err e) t → FilledFacts {A = A} s (Err e) t
  err_facts k s m t e before turns (inl end) = record {
    holds = Holds-joins s m t before.holds (Holds-asked m t _ end.asked end.told);
    caused = inr (gave_last k s m t (Err e) turns end.asked end.told);
    ended = tt;
    empty = λ no. cc;
    last = last_kept k s m t turns end.told;
  }
  err_facts k s m t e before turns (inr end) = record {
    holds = Holds-joins s m t before.holds (Holds-read m t end.seen _ (Err e) end.asked end.read);
    caused = inl (ap (λ l. l.reads.faults) end.read.told ∙ ap (λ l. l ++ e ∷ []) before.faults);
    ended = tt;
    empty = λ no. cc;
    last = λ some. asked_last k s m t t (Err e) turns end refl;
  }

  pub filled_facts : {A : Type 0} (s : Buffered S P) (answer : Result A Error) (t : Buffered S P)
      → IsBlock t.block → Filled rules s answer t → FilledFacts s answer t
  filled_facts s (Ok a) t whole f =
      ok_facts f.count s f.last t a whole (turns_facts f.count s f.last f.turns) f.turns f.ends
  filled_facts s (Err e) t whole f =
      err_facts f.count s f.last t e (turns_facts f.count s f.last f.turns) f.turns f.ends
