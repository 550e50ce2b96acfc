-- What follows from the fill of a read and from what is handed out after it.
use Rattle.std.proofs.Common.{◌≡◌, ℕ, zero, suc, ◌<◌, ◌≤◌, List, [], length, min, take, drop, Bool, true, false, Result, Ok, Err, MatchResult, Option, refl, sym, ap, subst, ◌∙◌, arith, inl, inr, take_at, drop_at, length-take-le, length-append, length-drop}
use Rattle.std.proofs.lemmas.List.{nil_from_length}
use Rattle.std.specs.Io.{ReadsAtMost}
use Rattle.std.specs.Io.KnownBytes.{IsAtEnd, ReadConsumes}
use Rattle.std.specs.declared.io.Error.{Error}
use Rattle.redux_buffer.specs.Block.{IsBlock, usable}
use Rattle.redux_buffer.specs.StreamLog.{portion}
use Rattle.redux_buffer.specs.Transfer.{ReadsFrom}
use Rattle.buffer_redux.specs.declared.policy.DoRead.{DoRead}
use Rattle.buffer_redux.specs.Policy.{ReadRules, read_now}
use Rattle.buffer_redux.specs.Buffered.{Buffered, StaysInside}
use Rattle.buffer_redux.specs.Fill.{Ordered, Turns, Filled}
use Rattle.buffer_redux.specs.BufReader.{ReadsInOrder, ReadErrorCaused, EmptyReadCaused, RanDry, InnerGives, ReaderConsumes, ReaderKeeps, Fills, Reads, ReadsBuffered, ReadsIntoBuf}
use Rattle.buffer_redux.specs.ReaderLaws.{ReadsInOrder-joins, InnerGives-same, InnerGives-joins, Fills-empty, WantsBytes, Keeps-of, remaining_gives}
use Rattle.buffer_redux.specs.Remaining.{reader_remaining}
use Rattle.buffer_redux.specs.ReadInside.{AskedRead, FillDone, ReadsInside}
use Rattle.buffer_redux.specs.ReadAll.{OneRead}
use Rattle.buffer_redux.specs.ReadAllLaws.{ReaderKeeps-joins}
use Rattle.buffer_redux.proofs.ReadAll.{one_read}
use Rattle.buffer_redux.proofs.FillFacts.{turns_facts, empty_read, inside_room}
use Rattle.buffer_redux.proofs.FillClaims.{filled_keeps, fills}
use Rattle.buffer_redux.proofs.KnownAhead.{err_counts_none, remaining_ends}
use Rattle.buffer_redux.proofs.Turning.{declined_made, full_made, ordered_made}

-- a turn before others
turn_first : {S P : Type 0} (rules : ReadRules P) (k : ℕ) (s m t : Buffered S P) → Turns rules 1 s m → Turns rules k m t
    → Turns rules (suc k) s t
turn_first rules zero s m t turn none = subst (Turns rules 1 s) none turn
turn_first rules (suc k) s m t turn (v, turns, count, some, last) =
    (v, turn_first rules k s m v turn turns, count, some, last)

filled_after : {S P A : Type 0} (rules : ReadRules P) (s m t : Buffered S P) (answer : Result A Error) → Turns rules 1 s m
    → Filled rules m answer t → Filled rules s answer t
filled_after rules s m t answer turn f = record {
  count = suc f.count;
  last = f.last;
  turns = turn_first rules f.count s m f.last turn f.turns;
  ends = f.ends;
}

-- the answer as the rules name it
pub asked_so : {S P : Type 0} (rules : ReadRules P) (s m : Buffered S P) (d : DoRead) (v : Bool) → d.0 ≡ v
    → AskedRead rules (Ok d) s m → AskedRead rules (Ok (record { 0 = v })) s m
asked_so rules s m d v is a = subst (λ w. AskedRead rules (Ok (record { 0 = w })) s m) is a

module _ {S P : Type 0} (remaining : S → Option (List ℕ)) (rules : ReadRules P) (s m : Buffered S P) where
  -- where the policy said no, or left no room, or returned an error, nothing was read
  module _ (d : DoRead) (asked : AskedRead rules (Ok d) s m) where
    quietly : {A : Type 0} (a : A) → Filled rules s (Ok a) m → FillDone remaining rules s (Ok a) m
    quietly a f = record {
      filled = f;
      known = InnerGives-same remaining s m asked.inner asked.told;
      ended = λ rose. absurd (omega (arith, rose, ap (λ l. l.reads.zero_reads) asked.told));
      noted = asked.noted;
      whole = asked.asked.law.whole asked.whole;
    }

    pub declined_did : {A : Type 0} (a : A) → d.0 ≡ false → FillDone remaining rules s (Ok a) m
    declined_did a is_no = quietly a (record {
      count = 0;
      last = s;
      turns = refl;
      ends = inl (declined_made rules s d m asked.asked is_no asked.told);
    })

    pub full_did : {A : Type 0} (a : A) → d.0 ≡ true → usable m.block ≡ 0 → FillDone remaining rules s (Ok a) m
    full_did a is_yes full = quietly a (record {
      count = 0;
      last = s;
      turns = refl;
      ends = inr (inl (full_made rules s d m asked.asked is_yes full asked.told));
    })

  pub refused_did : {A : Type 0} (e : Error) → AskedRead rules (Err e) s m → FillDone {A = A} remaining rules s (Err e) m
  refused_did e asked = record {
    filled = record { count = 0; last = s; turns = refl; ends = inl (record { asked = asked.asked; told = asked.told }) };
    known = InnerGives-same remaining s m asked.inner asked.told;
    ended = λ rose. absurd (omega (arith, rose, ap (λ l. l.reads.zero_reads) asked.told));
    noted = asked.noted;
    whole = asked.asked.law.whole asked.whole;
  }

  -- where it ordered a read and left room
  module _ (asked : AskedRead rules read_now s m) (room : 0 < usable m.block) (t : Buffered S P) where
    known_since : InnerGives remaining m t → InnerGives remaining s t
    known_since known = InnerGives-joins remaining s m t (InnerGives-same remaining s m asked.inner asked.told) known

    since : (answer : Result ℕ Error) → ReadsFrom m.block m.log answer t.block t.log
        → ReadsFrom m.block s.log answer t.block t.log
    since answer read = subst (λ l. ReadsFrom m.block l answer t.block t.log) asked.told read

    pub fault_did : {A : Type 0} (e : Error) → ReadsIntoBuf remaining m (Err e) t → FillDone {A = A} remaining rules s (Err e) t
    fault_did e r = record {
      filled = record {
        count = 0;
        last = s;
        turns = refl;
        ends = inr (ordered_made rules s t (record { 0 = true }) m.policy m.block asked.asked refl room r.policy (Err e)
            (since (Err e) r.read));
      };
      known = known_since r.known;
      ended = λ rose. absurd (omega (
        arith,
        rose,
        err_counts_none m.block t.block m.log t.log e r.read room,
        ap (λ l. l.reads.zero_reads) asked.told,
      ));
      noted = r.noted ∙ asked.noted;
      whole = r.whole;
    }

    pub dry_did : {A : Type 0} (a : A) (n : ℕ) → n ≡ 0 → ReadsIntoBuf remaining m (Ok n) t → IsAtEnd (remaining t.inner)
        → FillDone remaining rules s (Ok a) t
    dry_did a n none r ended = record {
      filled = record {
        count = 0;
        last = s;
        turns = refl;
        ends = inr (inr (subst (λ k. Ordered rules (Ok k) s t) none (ordered_made rules s t (record { 0 = true }) m.policy
            m.block asked.asked refl room r.policy (Ok n) (since (Ok n) r.read))));
      };
      known = known_since r.known;
      ended = λ rose. ended;
      noted = r.noted ∙ asked.noted;
      whole = r.whole;
    }

    pub more_did : {A : Type 0} (n : ℕ) → (n ≡ 0 → ⊥) → ReadsIntoBuf remaining m (Ok n) t
        → (answer : Result A Error) (u : Buffered S P) → FillDone remaining rules t answer u
        → FillDone remaining rules s answer u
    more_did n some r answer u f =
        let turn : Turns rules 1 s t = (
          s,
          refl,
          n,
          omega (arith, some),
          ordered_made rules s t (record { 0 = true })
              m.policy m.block asked.asked refl room r.policy (Ok n) (since (Ok n) r.read),
        ) in
        let facts = turns_facts rules 1 s t turn in
        record {
          filled = filled_after rules s t u answer turn f.filled;
          known = InnerGives-joins remaining s t u (known_since r.known) f.known;
          ended = λ rose. f.ended (omega (arith, rose, facts.zero_reads));
          noted = f.noted ∙ r.noted ∙ asked.noted;
          whole = f.whole;
        }

-- all that a read through the buffer promises, as the clauses of `read` say it
abbrev pub ReadSays : {S P : Type 0} → (S → Option (List ℕ)) → ReadRules P → Buffered S P → List ℕ
    → Result ℕ Error → List ℕ → Buffered S P → Type 0
ReadSays remaining rules s out answer out' t = record {
  bound : ReadsAtMost answer out';
  bytes : ReadConsumes (reader_remaining remaining rules s) (reader_remaining remaining rules t) answer out';
  in_order : ReadsInOrder s (portion out' answer) t;
  caused : ReadErrorCaused rules s answer t;
  empty : answer ≡ Ok 0 → 0 < length out → EmptyReadCaused rules s t;
  ran_dry : answer ≡ Ok 0 → 0 < length out → WantsBytes (rules.claims s.policy) → RanDry s t;
  steps : Reads rules s out answer out' t;
  keeps : ReaderKeeps remaining rules s t;
}

module _ {S P : Type 0} (remaining : S → Option (List ℕ)) (rules : ReadRules P) (s : Buffered S P) (out : List ℕ) where
  module _ (n : ℕ) (out' : List ℕ) (t : Buffered S P) (r : ReadsInside remaining rules s out (Ok n) out' t)
      (inside : StaysInside s.block (length out)) where
    filled : Fills rules s (Ok n) r.0
    filled = fills rules s (Ok n) r.0 r.1.whole r.1.filled

    -- where nothing is handed out, the fill showed nothing, and there was capacity
    showed_nothing : n ≡ 0 → 0 < length out → length r.0.block.bytes ≡ 0
    showed_nothing none some = omega (arith, r.2.count, none, some)

    had_capacity : length r.0.block.bytes ≡ 0 → 0 < s.block.capacity
    had_capacity none = inside_room s r.0 (length out) inside filled.in_order none

    front_length : length (take n r.0.block.bytes) ≡ n
    front_length = length-take-le n r.0.block.bytes (omega (arith, r.2.count))

    front_same : take n r.0.block.bytes ≡ take n out'
    front_same = sym (ap (take n) r.2.copied ∙ take_at (take n r.0.block.bytes) (drop n out) n front_length)

    same_length : length out' ≡ length out
    same_length = omega (
      arith,
      ap length r.2.copied,
      length-append (take n r.0.block.bytes) (drop n out),
      front_length,
      length-drop n out,
      r.2.count,
    )

    inside_order : ReadsInOrder s (take n out') t
    inside_order = ReadsInOrder-joins s r.0 t [] (take n out') filled.in_order
        (subst (λ l. ReadsInOrder r.0 l t) front_same r.2.in_order)

    inside_keeps : ReaderKeeps remaining rules s t
    inside_keeps = ReaderKeeps-joins remaining rules s r.0 t
        (filled_keeps remaining rules s (Ok n) r.0 filled r.1.known r.1.noted) r.2.keeps

    inside_dry : n ≡ 0 → 0 < length out → WantsBytes (rules.claims s.policy) → RanDry s r.0
    inside_dry is some wants =
        let none = showed_nothing is some in
        Fills-empty rules s n r.0 filled wants (had_capacity none) none

    inside_bytes : ReadConsumes {E = Error} (reader_remaining remaining rules s) (reader_remaining remaining rules t)
        (Ok n) out'
    inside_bytes = (
      remaining_gives remaining rules s t (take n out') inside_order inside_keeps.known inside_keeps.claims
          inside_keeps.capacity,
      λ none some.
          let empty = showed_nothing none (omega (arith, some, same_length)) in
          remaining_ends remaining rules t
          (λ wants room. subst (λ i. IsAtEnd (remaining i)) (sym r.2.inner)
          (r.1.ended (inside_dry none (omega (arith, some, same_length)) (subst WantsBytes inside_keeps.claims wants))))
          (nil_from_length t.block.bytes
          (omega (
            arith,
            ap length r.2.consumed.told_policy.law.bytes,
            ap length r.2.consumed.dropped.bytes,
            length-drop (min n (length r.0.block.bytes)) r.0.block.bytes,
            empty,
          ))),
    )

  -- a read inside goes through the buffer alone
  through_buffer : {answer : Result ℕ Error} {out' : List ℕ} {t : Buffered S P} → length out' ≡ length out
      → StaysInside s.block (length out)
      → ReadsBuffered rules s (length out) answer t → MatchResult answer (λ n. drop n out' ≡ drop n out) (λ _. out' ≡ out)
      → Reads rules s out answer out' t
  through_buffer size inside buffered rest = record {
    size = size;
    direct = λ past. absurd (elim inside [ inl some ↦ omega (arith, past.0, some) | inr less ↦ omega (arith, past.1, less) ]);
    buffered = λ _. buffered;
    rest = λ _. rest;
  }

  pub says : (answer : Result ℕ Error) (out' : List ℕ) (t : Buffered S P) → ReadsInside remaining rules s out answer out' t
      → StaysInside s.block (length out) → ReadSays remaining rules s out answer out' t
  says (Ok n) out' t r inside =
      let f = filled n out' t r inside in
      let short : n ≤ length out' = omega (arith, r.2.count, same_length n out' t r inside) in
      record {
        bound = (short, sym (length-take-le n out' short));
        bytes = inside_bytes n out' t r inside;
        in_order = inside_order n out' t r inside;
        caused = ap (λ l. l.reads.faults) r.2.consumed.told ∙ f.caused;
        empty = λ is some.
            let none = showed_nothing n out' t r inside (cc) some in
            let room = had_capacity n out' t r inside none in
            empty_read rules s r.0 t (f.empty refl none) (omega (arith, room, f.capacity))
            (subst (λ k. ReaderConsumes rules k r.0 t) (cc) r.2.consumed);
        ran_dry = λ is some wants.
            let dry = inside_dry n out' t r inside (cc) some wants in
            omega (arith, dry, ap (λ l. l.reads.zero_reads) r.2.consumed.told);
        steps = through_buffer (same_length n out' t r inside) inside (record {
          filled = r.0;
          fills = f;
          handed = (omega (arith, r.2.count), r.2.consumed);
        })
            (ap (drop n) r.2.copied
            ∙ drop_at (take n r.0.block.bytes) (drop n out) n (front_length n out' t r inside));
        keeps = inside_keeps n out' t r inside;
      }
  says (Err e) out' t r inside =
      let f : Fills rules s (Err e) t = fills rules s (Err e) t r.0.whole r.0.filled in
      record {
        bound = tt;
        bytes = Keeps-of (reader_remaining remaining rules s) (reader_remaining remaining rules t)
            (remaining_gives remaining rules s t [] f.in_order r.0.known f.claims f.capacity);
        in_order = f.in_order;
        caused = f.caused;
        empty = λ is some. cc;
        ran_dry = λ is some wants. cc;
        steps = through_buffer (ap length r.1) inside (record { filled = t; fills = f; handed = refl }) r.1;
        keeps = filled_keeps remaining rules s (Err e) t f r.0.known r.0.noted;
      }

  -- the slice keeps its length
  pub keeps_length : (answer : Result ℕ Error) (out' : List ℕ) (t : Buffered S P)
      → ReadsInside remaining rules s out answer out' t → StaysInside s.block (length out) → length out' ≡ length out
  keeps_length (Ok n) out' t r inside = same_length n out' t r inside
  keeps_length (Err e) out' t r inside = ap length r.1

  pub one_read_says : (answer : Result ℕ Error) (out' : List ℕ) (t : Buffered S P) → IsBlock s.block
      → ReadsInside remaining rules s out answer out' t → StaysInside s.block (length out)
      → OneRead remaining rules s out answer out' t
  one_read_says answer out' t whole r inside =
      let a = says answer out' t r inside in
      one_read remaining rules s out answer out' t whole a.bound a.steps a.in_order a.keeps a.caused a.empty
