-- The payload of each read joins what came before, which wasn't too large before the last read; one that was interrupted is made
-- again, unless as many were in a row as the limit.
use Rattle.std.proofs.Common.{◌≡◌, ◌∙◌, Bool, false, true, ℕ, zero, suc, ◌+◌, ◌-◌, ◌*◌, ◌<◌, ◌≤◌, ◌⊎◌, List, [], ◌∷◌, ◌++◌, length, take, Option, ap, append-nil, arith, inl, inr, length-append, refl, subst, sym, Err, IfOk, Ok, Result}
use Rattle.messages.specs.declared.head.ParsedHead.{ParsedHead}
use Rattle.redux_buffer.specs.Faults.{IsInterrupt}
use Rattle.requests.proofs.Names.{AwaitsMore, body_rules, Buffered, cases_lt, Enters, Error, FailsInRead, FailsInRow, FailsOnce, faults_of, handed_of, InBody, InsideGoes, InsideGoes-joins, InsideGoes-none, Io, is_large, IsAwaited, length-take-le, max_payload, nil_from_length, OnlyInterrupts-one, Prompt, ReadsSteadily, sent_till, StdPolicy, stream_in, StreamLog, TookWholeBody, Unbuffered, Untaken, usual}
use Rattle.codec.specs.AskedAgain.{InARow}
use Rattle.requests.specs.Answers.{unless_large}
use Rattle.requests.specs.declared.taking.Untaken.TheVariants.{Body, Large, Unsent}
use Rattle.messages.specs.declared.error.BodyError.TheVariants.{Truncated, Wrong}
use Rattle.requests.proofs.Interrupted.{again, body_came, body_none, calm, row_on}
use Rattle.requests.proofs.Large.{awaited, few_counted, few_taken, newly_large, tested}
use Rattle.requests.proofs.Reading.{AsksFew-after, AsksFew-upto, failed_behind, inside_went, steady_same, unless_too_large, WhyUntaken-after}
use Rattle.requests.proofs.Sending.{Prompt-held, Prompt-none, Prompt-on}
use Rattle.requests.proofs.taking.payload_len.Goals as goal
use Rattle.requests.proofs.taking.payload_len.Goals.{After-taken-in-reads}

-- a read handed out what it noted, or nothing
latest_of : {latest : List ℕ} (count : ℕ) (out : List ℕ) → count ≤ length out → count ≤ 4096
    → (0 < count → latest ≡ take count out)
    → (take count out ≡ []) ⊎ ((take count out ≡ latest) × (length (take count out) ≤ 4096))
latest_of zero out bound few noted = inl refl
latest_of (suc n) out bound few noted =
    inr (sym (noted (omega arith)), omega (arith, length-take-le (suc n) out bound, few))

-- and it was asked for as more of the body is
asks_on : {R W : Type 0} {remaining : R → Option (List ℕ)} {tells : W → StreamLog} {trace : W → W → Type 0} {b m : InBody R}
    {t : Unbuffered R} {payload : List ℕ} {len : ℕ} {w u v : Buffered W StdPolicy}
    (sending : Result (Unit {0}) Error) → Enters usual b → InsideGoes remaining b payload m
    → len ≡ length (handed_of m.body) → is_large m.said.extent (length m.body.taken) len ≡ false
    → Prompt tells trace (IsAwaited b.said.extent) (stream_in b, w) (Ok tt) (stream_in m, u)
    → Prompt tells trace (AwaitsMore m) (stream_in m, u) sending (t, v)
    → Prompt tells trace (IsAwaited b.said.extent) (stream_in b, w) sending (t, v)
asks_on {b = b} {m = m} {t = t} {w = w} {u = u} {v = v} sending enters goes many small =
    Prompt-on (AwaitsMore m) (IsAwaited b.said.extent) (stream_in b, w) (stream_in m, u) (t, v) sending
    (inside_went goes).order (awaited enters goes
    (subst (λ x. is_large x.extent (length m.body.taken) (length (handed_of m.body)) ≡ false) goes.said
    (subst (λ n. is_large m.said.extent (length m.body.taken) n ≡ false) many small)))

-- what the head says of the extent still stands
same_extent : {R : Type 0} {remaining : R → Option (List ℕ)} {b m : InBody R} {h : List ℕ} {said : ParsedHead}
    → said ≡ b.said → InsideGoes remaining b h m → said.extent ≡ m.said.extent
same_extent same goes = ap (λ x. x.extent) (same ∙ sym goes.said)

-- a read handed out no more than fits
bounded : (count row had has after most : ℕ) (answer : Result ℕ Untaken)
    → ((answer ≡ Ok count) × (after ≡ 0)) ⊎ ((count ≡ 0) × (after ≤ 64) × InARow row had has after × (e : Error)
    × (answer ≡ Err (Body (Io e))) × IsInterrupt e) → IfOk answer (λ n. n ≤ most) → count ≤ most
bounded count row had has after most answer (inl (is, ends)) few = subst (λ a. IfOk a (λ n. n ≤ most)) is few
bounded count row had has after most answer (inr again) few = omega (arith, again.0)

-- more was taken of it, or it was interrupted once more
shrinks : (x y row more : ℕ) → (y < x) ⊎ ((y ≤ x) × (row < more)) → row ≤ 64 → more ≤ 64
    → y * 65 + (64 - more) < x * 65 + (64 - row)
shrinks x y row more (inl less) few most = omega (arith, less, few, most)
shrinks x y row more (inr (still, up)) few most = omega (arith, still, up, few, most)

-- what is too large was sent for as what is torn
sent_alike : (large : Bool) (e : Untaken) → sent_till (unless_large e large) ≡ sent_till e
sent_alike large (Body (Io e)) = refl
sent_alike true (Body (Wrong why)) = refl
sent_alike true (Body (Truncated due)) = refl
sent_alike false (Body (Wrong why)) = refl
sent_alike false (Body (Truncated due)) = refl
sent_alike large Large = refl
sent_alike large (Unsent e) = refl

-- what was taken so far isn't too large
small : (g : _) (c : After-taken-in-reads g)
    → is_large c.reads.body.said.extent (length c.reads.body.body.taken) c.reads.len ≡ false
small g c = tested _ _ _ _ c.reads.body.body.taken _ c.is_large.ensures
    (same_extent c.said-extent.ensures.value c.reads.invariant.goes) c.taken.ensures ∙ c.if-is_large.false

-- where a read failed, one fault more was met
one_fault : (g : _) (c : After-taken-in-reads g) (e : Error)
    → FailsOnce (stream_in c.reads.body) e c.read_on-answer.new.body
    → length (faults_of (stream_in c.read_on-answer.new.body)) ≡ length (faults_of (stream_in c.reads.body)) + 1
one_fault g c e once = omega (arith, ap length once.fault, length-append (faults_of (stream_in c.reads.body)) (e ∷ []))

-- and it is one more of its row
one_more : (g : _) (c : After-taken-in-reads g) (e : Error) → FailsOnce (stream_in c.reads.body) e c.read_on-answer.new.body
    → InsideGoes g.R.TellRead.remaining c.reads.body [] c.read_on-answer.new.body → {more : ℕ}
    → InARow c.reads.row c.taken-had.result c.taken-in-reads.result more
    → FailsInRow g.R.Tell.log more (stream_in c.args.body.now) (stream_in c.read_on-answer.new.body)
one_more g c e once goes row =
    let before = c.reads.invariant in
    row_on before.reads (one_fault g c e once) row before.rows
    (sym c.get_ref.ensures.log ∙ ap g.R.Tell.log c.get_ref.ensures.inner) (λ some less.
    body_none goes (before.none some).0 once.none c.taken-had.ensures c.taken-in-reads.ensures
    (omega (arith, few_taken c.reads.len c.requires.enters before.goes (small g c))) less)

pub reads-init : goal.reads-init
reads-init g c =
    let b = c.args.body.now in
    record {
      payload = [];
      goes = InsideGoes-none g.R.TellRead.remaining b c.requires.enters.whole;
      many = sym (ap (λ x. length (handed_of x.body)) c.requires.enters.is);
      reads = steady_same _ _ refl;
      rows = λ some. absurd (omega (arith, some));
      most = omega arith;
      none = λ some. absurd (omega (arith, some));
      fresh = inl (ap (λ x. x.body.taken) c.requires.enters.is, ap (λ x. handed_of x.body) c.requires.enters.is);
      writes = Prompt-none (IsAwaited b.said.extent) (stream_in b, c.args.writer.now);
      held = c.requires.held;
    }

pub returns-then-is_large-clause-fails : goal.returns-then-is_large-clause-fails
returns-then-is_large-clause-fails g c =
    let before = c.reads.invariant in
    let m = c.reads.body in (
      AsksFew-upto before.reads.asks (omega (arith, before.most)),
      (
        before.reads.faults,
        record {
          large = ap (is_large m.said.extent (length m.body.taken)) (sym before.many)
              ∙ tested _ _ _ _ m.body.taken _ c.is_large.ensures (same_extent c.said-extent.ensures.value before.goes)
              c.taken.ensures ∙ c.if-is_large.true;
          fresh = before.fresh;
        },
      ),
    )

pub returns-then-is_done-clause-small : goal.returns-then-is_done-clause-small
returns-then-is_done-clause-small g c = tested _ _ _ _ c.reads.body.body.taken _ c.is_large.ensures
    (same_extent c.said-extent.ensures.value c.reads.invariant.goes) c.taken.ensures ∙ c.if-is_large.false

pub returns-then-is_done-clause-steady : goal.returns-then-is_done-clause-steady
returns-then-is_done-clause-steady g c =
    let before = c.reads.invariant in
    elim (cases_lt 0 c.reads.row) [
      | inl some ↦ absurd ((before.none some).1 (c.is_done.ensures.ended.0 c.if-is_done.true))
      | inr few ↦ (let none : c.reads.row ≡ 0 = omega (arith, few) in
          subst (λ n. ReadsSteadily n (stream_in c.args.body.now) (stream_in c.reads.body)) none before.reads)
    ]

-- what a loop knows of a body that isn't too large
module _ {R : Type 0} {remaining : R → Option (List ℕ)} {b m t : InBody R} {payload : List ℕ} (enters : Enters usual b)
    (before : InsideGoes remaining b payload m) {len : ℕ} (many : len ≡ length (handed_of m.body))
    (small : is_large m.said.extent (length m.body.taken) len ≡ false)
    (open' : ¬ (TookWholeBody (body_rules m.body.coding) m.body))
  where
    -- a read that found payload, or the end, took some of the body
    took_some : (count : ℕ) (out : List ℕ) → (goes : InsideGoes remaining m (take count out) t)
        → TookWholeBody (body_rules t.body.coding) t.body ⊎ (0 < count)
        → (0 < count) ⊎ (length m.body.taken < length t.body.taken)
    took_some zero out goes (inl ended) = elim (cases_lt (length m.body.taken) (length t.body.taken)) [
      | inl more ↦ inr more
      | inr less ↦
          (let none : goes.went.wire ≡ [] = nil_from_length goes.went.wire
          (omega (arith, less, ap length goes.went.taken, length-append m.body.taken goes.went.wire)) in
          let taken : t.body.taken ≡ m.body.taken =
          goes.went.taken ∙ ap (λ l. m.body.taken ++ l) none ∙ append-nil m.body.taken in
          let handed : handed_of t.body ≡ handed_of m.body = goes.went.handed ∙ append-nil (handed_of m.body) in
          absurd (open' (rw (taken, handed, goes.went.coding) at ended)))
    ]
    took_some zero out goes (inr some) = absurd (omega (arith, some))
    took_some (suc n) out goes more = inl (omega arith)

    -- so that less of it is to be taken
    less_left : {count : ℕ} (out : List ℕ) → count ≤ 4096 → (goes : InsideGoes remaining m (take count out) t)
        → TookWholeBody (body_rules t.body.coding) t.body ⊎ (0 < count)
        → 2 * max_payload - (len + count) + (8 * max_payload - length t.body.taken)
        < 2 * max_payload - len + (8 * max_payload - length m.body.taken)
    less_left out bound goes more =
        let taken = few_taken len enters before small in
        let counted = few_counted m.said.extent (length m.body.taken) len small in
        let grows = length-append m.body.taken goes.went.wire in
        elim (took_some _ out goes more) [
          | inl some ↦ omega (arith, some, bound, counted, taken, grows, ap length goes.went.taken)
          | inr some ↦ omega (arith, some, bound, counted, taken)
        ]

pub overflow_add-len : goal.overflow_add-len
overflow_add-len g c = omega (
  arith,
  few_counted c.reads.body.said.extent (length c.reads.body.body.taken) c.reads.len
      (small g (goal.at.overflow_add-len g c).After-taken-in-reads),
  bounded _ _ _ _ _ _ _ c.in-Ok.ensures.goes_on c.read_on-answer.ensures.bound,
  c.read_on-answer.auto.out,
)

pub reads-preserved : goal.reads-preserved
reads-preserved g c =
    let at = (goal.at.reads-preserved g c).After-taken-in-reads in
    let before = c.reads.invariant in
    let b = c.args.body.now in
    let m = c.reads.body in
    let t = c.read_on-answer.new.body in
    let out = c.read_on-answer.new.out in
    let counted = subst (λ n. is_large m.said.extent (length m.body.taken) n ≡ false) before.many (small g at) in
    elim c.in-Ok.ensures.goes_on [
      | inl (is, ends) ↦
          (let read = rw is at c.read_on-answer.ensures in
          record {
            payload = before.payload ++ take c.in-Ok.count out;
            goes = InsideGoes-joins g.R.TellRead.remaining b m t before.payload (take c.in-Ok.count out) before.goes read.goes;
            many = omega (
              arith,
              before.many,
              ap length read.goes.went.handed,
              length-append (handed_of m.body) (take c.in-Ok.count out),
              length-take-le c.in-Ok.count out read.bound,
            );
            reads = subst (λ n. ReadsSteadily n (stream_in b) (stream_in t)) (sym ends)
                (calm before.reads before.most read.reads.steady read.reads.same (λ pos.
                (let there = before.none pos in
                let steady = read.reads.steady in
                omega (arith, read.asks there.0 there.1, steady.asks.told, steady.ends, ap length read.reads.same))));
            rows = λ pos. absurd (omega (arith, pos, ends));
            most = omega (arith, ends);
            none = λ pos. absurd (omega (arith, pos, ends));
            fresh = newly_large before.goes.whole read.goes (latest_of c.in-Ok.count out read.bound
                (omega (arith, read.bound, c.read_on-answer.auto.out)) read.noted) counted;
            writes = asks_on (Ok tt) c.requires.enters before.goes before.many (small g at) before.writes read.writes;
            held = Prompt-held (Ok tt) read.writes before.held;
          })
      | inr (none, few, row, e, is, interrupted) ↦
          (let read = rw is at c.read_on-answer.ensures in
          let once = read.fails.1 in
          record {
            payload = before.payload ++ [];
            goes = InsideGoes-joins g.R.TellRead.remaining b m t before.payload [] before.goes read.goes;
            many = omega (arith, before.many, none, ap length read.goes.went.handed, length-append (handed_of m.body) []);
            reads = again before.reads (one_fault g at e once) row before.most (record {
              faults = OnlyInterrupts-one (faults_of (stream_in m)) (faults_of (stream_in t)) e interrupted once.fault;
              ends = once.ends;
              asks = read.fails.0;
            }) (λ pos more.
                body_came read.goes (before.none pos).0 once.none c.taken-had.ensures c.taken-in-reads.ensures more);
            rows = λ pos. one_more g at e once read.goes row;
            most = few;
            none = λ pos. (once.none, once.goes_on);
            fresh = newly_large before.goes.whole read.goes (inl refl) counted;
            writes = asks_on (Ok tt) c.requires.enters before.goes before.many (small g at) before.writes read.writes;
            held = Prompt-held (Ok tt) read.writes before.held;
          })
    ]

pub reads-smaller : goal.reads-smaller
reads-smaller g c =
    let at = (goal.at.reads-smaller g c).After-taken-in-reads in
    let before = c.reads.invariant in
    let m = c.reads.body in
    let out = c.read_on-answer.new.out in
    let open' : ¬ (TookWholeBody (body_rules m.body.coding) m.body) =
    λ done. let odd = c.is_done.ensures.ended.1 done in absurd (cc) in
    elim c.in-Ok.ensures.goes_on [
      | inl (is, ends) ↦
          (let read = rw is at c.read_on-answer.ensures in
          shrinks _ _ c.reads.row c.in-Ok.with (inl (less_left c.requires.enters before.goes before.many (small g at)
          open' out (omega (arith, read.bound, c.read_on-answer.auto.out)) read.goes read.reads.more)) before.most
          (omega (arith, ends)))
      | inr (none, few, row, e, is, interrupted) ↦
          (let read = rw is at c.read_on-answer.ensures in
          let grows = length-append m.body.taken read.goes.went.wire in
          let more = ap length read.goes.went.taken in
          let few_now = few_taken c.reads.len c.requires.enters before.goes (small g at) in
          shrinks _ _ c.reads.row c.in-Ok.with (elim row [
            | inl on ↦ inr (omega (arith, none, grows, more), omega (arith, on.1))
            | inr anew ↦ inl (omega (arith, none, few_now, c.taken-had.ensures, c.taken-in-reads.ensures, anew.0))
          ]) before.most few)
    ]

pub returns-in-Err-clause-goes : goal.returns-in-Err-clause-goes
returns-in-Err-clause-goes g c =
    let before = c.reads.invariant in
    let read = rw c.in-Err.ensures.ends.0 at c.read_on-answer.ensures in
    (before.payload ++ [], InsideGoes-joins _ _ _ _ before.payload [] before.goes read.goes)

pub returns-in-Err-clause-fails : goal.returns-in-Err-clause-fails
returns-in-Err-clause-fails g c =
    let at = (goal.at.returns-in-Err-clause-fails g c).After-taken-in-reads in
    let before = c.reads.invariant in
    let ends = c.in-Err.ensures.ends in
    let t = c.read_on-answer.new.body in
    let read = rw ends.0 at c.read_on-answer.ensures in
    rw c.unless_large.ensures (
      AsksFew-after before.reads read.fails.0 (omega (arith, before.most)),
      unless_too_large (λ e. FailsInRead g.R.Tell.log (stream_in c.args.body.now) e (stream_in t)) (stream_in c.args.body.now) t
          c.is_large-in-Err.result
          (ap (is_large t.said.extent (length t.body.taken)) (ap length read.goes.went.handed
          ∙ ap length (append-nil (handed_of c.reads.body.body)) ∙ sym before.many)
          ∙ tested _ _ _ _ t.body.taken _ c.is_large-in-Err.ensures
          (same_extent c.said-extent.ensures.value before.goes ∙ ap (λ s. s.extent) (sym read.goes.said)) c.taken-in-Err.ensures)
          (newly_large before.goes.whole read.goes (inl refl) (subst (λ n. is_large c.reads.body.said.extent
          (length c.reads.body.body.taken) n ≡ false) before.many (small g at)))
          c.in-Err.e (WhyUntaken-after (Unit {0}) before.reads c.in-Err.e t (λ e same once. (
            failed_behind (faults_of (stream_in c.args.body.now)) (faults_of (stream_in c.reads.body)) _ e before.reads.faults
                once.fault,
            λ interrupted. one_more g at e once read.goes (ends.1 e same interrupted),
          )) read.fails.1),
    )

pub returns-in-Err-clause-writes : goal.returns-in-Err-clause-writes
returns-in-Err-clause-writes g c =
    let before = c.reads.invariant in
    let read = rw c.in-Err.ensures.ends.0 at c.read_on-answer.ensures in
    rw (c.unless_large.ensures, sent_alike c.is_large-in-Err.result c.in-Err.e)
    (asks_on (sent_till c.in-Err.e) c.requires.enters before.goes before.many
    (small g (goal.at.returns-in-Err-clause-writes g c).After-taken-in-reads) before.writes read.writes)
