-- What follows from the steps of a write, whatever it returned.
use Rattle.std.proofs.Common.{◌≡◌, ℕ, ◌<◌, ◌⊎◌, List, [], ◌++◌, length, take, Result, Ok, Err, refl, sym, ap, subst, ◌∙◌, arith, inl, inr, append-nil}
use Rattle.std.proofs.Math.Seq.{take-length}
use Rattle.std.specs.Io.{WritesAtMost}
use Rattle.std.specs.Io.KnownBytes.{WriteAppends}
use Rattle.std.specs.declared.io.Error.{Error}
use Rattle.redux_buffer.specs.Block.{Block, IsBlock, Extends, usable}
use Rattle.redux_buffer.specs.StreamLog.{StreamLog, portion}
use Rattle.redux_buffer.specs.Transfer.{FailedRow}
use Rattle.buffer_redux.specs.Policy.{WriteRules}
use Rattle.buffer_redux.specs.Buffered.{Buffered, InnerWent, with_block}
use Rattle.buffer_redux.specs.BufWriter.{writer_contents, EmptyWriteCaused, FailsPast, FinishedInRow, FlushesAmount, TakesIn, Prepared, WriteErrorCaused, WriteRows, WriterKeeps, Writes, WritesInOrder, WritesSteadily, Wrote}
use Rattle.buffer_redux.specs.WriteAll.{AskedFirst}
use Rattle.buffer_redux.specs.WriterLaws.{Writes-caused, WritesInOrder-contents}
use Rattle.buffer_redux.proofs.WriteAll.{writer_keeps}
use Rattle.buffer_redux.proofs.WriterFacts.{writes_keep, writes_nothing, writes_steadily}

-- what a write does once the policy has answered the amount, with the rows of its flushes that failed; at an `Err` the first
-- flush did, or the write past the buffer
abbrev pub WritesOn : {S P : Type 0} → (S → StreamLog) → (S → S → Type 0) → WriteRules P → ℕ → Buffered S P → List ℕ
    → Result ℕ Error → Buffered S P → Type 0
WritesOn {S} {P} tells trace rules amount m bs (Ok n) t = (before : Buffered S P) × (after : Buffered S P)
    × FlushesAmount amount m (Ok tt) before × TakesIn bs before (Ok n) after × InnerWent tells trace m after
    × FinishedInRow tells trace rules after t
WritesOn {S} {P} tells trace rules amount m bs (Err e) t =
    (FlushesAmount amount m (Err e) t × FailedRow tells trace e m.inner t.inner)
    ⊎ ((before : Buffered S P) × FlushesAmount amount m (Ok tt) before × TakesIn bs before (Err e) t)

-- with the first question these are the steps of a write, and its rows
module _ {S P : Type 0} (tells : S → StreamLog) (trace : S → S → Type 0) (rules : WriteRules P) (amount : ℕ)
    (s m : Buffered S P) (bs : List ℕ) (first : AskedFirst tells rules (length bs) amount s m) where
  prepared : (answer : Result (Unit {0}) Error) (before : Buffered S P)
      → FlushesAmount amount m answer before → Prepared rules (length bs) s answer before
  prepared answer before flush = record {
    seen = m;
    amount = first.answer;
    asked = first.asked;
    whole = first.asked.law.whole first.whole;
    told = first.told;
    flush = rw first.is flush;
  }

  pub went_first : (after : Buffered S P) → InnerWent tells trace m after → InnerWent tells trace s after
  went_first after went = record {
    calls = subst (λ w. trace w after.inner) first.inner went.calls;
    told_before = first.told_before;
    told_after = went.told_after;
    noted = went.noted ∙ first.noted;
  }

  pub asked_on : (answer : Result ℕ Error) (t : Buffered S P) → WritesOn tells trace rules amount m bs answer t
      → Writes rules s bs answer t × WriteRows tells trace rules s bs answer t
  asked_on (Ok n) t (before, after, flush, took_in, went, (finished, row)) =
      let wrote : Wrote rules s bs n t = record {
        before = before;
        after = after;
        prepared = prepared (Ok tt) before flush;
        took_in = took_in;
        finished = finished;
      } in
      (wrote, (wrote, went_first after went, row))
  asked_on (Err e) t (inl (unsent, row)) =
      (inr (inl (prepared (Err e) t unsent)), inr (inl (subst (λ w. FailedRow tells trace e w t.inner) first.inner row)))
  asked_on (Err e) t (inr (before, flush, took_in)) =
      let past : FailsPast rules s bs e t =
      record { before = before; prepared = prepared (Ok tt) before flush; took_in = took_in } in
      (inr (inr past), inr (inr past))

-- where nothing is sent first, and where bytes fit with room to spare
flushes_none : {S P : Type 0} (m : Buffered S P) (amount : ℕ)
    → amount ≡ 0 → FlushesAmount amount m (Ok tt) m
flushes_none m amount none = record {
  policy = refl;
  idle = λ _. record { answered = refl; buffer = refl; told = refl };
  sends = λ some. absurd (omega (arith, none, some));
}

takes_in_all : {S P : Type 0} (m t : Buffered S P) (bs : List ℕ) → IsBlock m.block → length bs < usable m.block
    → Extends bs m.block t.block → t.policy ≡ m.policy → t.log ≡ m.log → TakesIn bs m (Ok (length bs)) t
takes_in_all m t bs whole room added policy told = record {
  past = λ past. absurd (omega (arith, past.1, whole.fits, room));
  inside = λ inside. record {
    policy = policy;
    settled = m.block;
    roomy = λ _. refl;
    tight = λ none. absurd (omega (arith, none, room));
    answered = ap Ok (omega (arith, room));
    added = subst (λ l. Extends l m.block t.block) (sym (take-length bs)) added;
    told = told;
  };
}

-- a write before which nothing is sent, and that fits
pub writes_in : {S P : Type 0} (tells : S → StreamLog) (trace : S → S → Type 0) (rules : WriteRules P) (s m t : Buffered S P)
    (bs : List ℕ) (b : Block) → AskedFirst tells rules (length bs) 0 s m → length bs < usable m.block → Extends bs m.block b
    → InnerWent tells trace m (with_block m b) → FinishedInRow tells trace rules (with_block m b) t
    → Writes rules s bs (Ok (length bs)) t × WriteRows tells trace rules s bs (Ok (length bs)) t
writes_in tells trace rules s m t bs b first room added went finished =
    let after = with_block m b in
    asked_on tells trace rules 0 s m bs first (Ok (length bs)) t (
      m,
      after,
      flushes_none m 0 refl,
      takes_in_all m after bs (first.asked.law.whole first.whole) room added refl refl,
      went,
      finished,
    )

-- all that `write` promises, as its clauses say it
module _ {S P : Type 0} (tells : S → StreamLog) (trace : S → S → Type 0) (rules : WriteRules P)
    (s : Buffered S P) (bs : List ℕ) where
  contents : (answer : Result ℕ Error) (t : Buffered S P) → Writes rules s bs answer t
      → WriteAppends (writer_contents s) (writer_contents t) answer bs
  contents (Ok n) t w =
      WritesInOrder-contents s t (take n bs) (writes_keep rules s bs (Ok n) t w).in_order
  contents (Err e) t w =
      WritesInOrder-contents s t [] (writes_keep rules s bs (Err e) t w).in_order
      ∙ append-nil (s.log.writes.received ++ s.block.bytes)

  pub write_says : (answer : Result ℕ Error) (t : Buffered S P) → WritesAtMost answer bs → IsBlock t.block
      → InnerWent tells trace s t → Writes rules s bs answer t × WriteRows tells trace rules s bs answer t → record {
        bound : WritesAtMost answer bs;
        bytes : WriteAppends (writer_contents s) (writer_contents t) answer bs;
        in_order : WritesInOrder s (portion bs answer) t;
        caused : WriteErrorCaused rules s bs answer t;
        empty : answer ≡ Ok 0 → 0 < length bs → EmptyWriteCaused rules s bs t;
        steadily : WritesSteadily rules s (length bs) answer t;
        steps : Writes rules s bs answer t;
        rows : WriteRows tells trace rules s bs answer t;
        keeps : WriterKeeps tells trace rules s t;
      }
  write_says answer t bound whole went (w, rows) = record {
    bound = bound;
    bytes = contents answer t w;
    in_order = (writes_keep rules s bs answer t w).in_order;
    caused = Writes-caused rules s bs answer t w;
    empty = writes_nothing rules s bs answer t w;
    steadily = writes_steadily rules s bs answer t w;
    steps = w;
    rows = rows;
    keeps = writer_keeps tells trace rules s bs answer t whole w went;
  }
