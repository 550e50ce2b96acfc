-- How runs that hold nothing back go on.
use Rattle.std.proofs.Common.{◌≡◌, ℕ, ◌⊎◌, inl, inr, List, ◌++◌, length, refl, sym, ap, subst, ◌∙◌, arith, append_assoc, length-append}
use Rattle.redux_buffer.specs.GoesOn.{GoesOn, GoesOn-none, GoesOn-joins}
use Rattle.redux_buffer.specs.LogGrows.{WriteLogGrows}
use Rattle.redux_buffer.specs.StreamLog.{StreamLog, WriteLog}
use Rattle.forward.specs.Prompt.{AskedLast, AsksGiveOrFail, HoldsNothingBack, RunsPromptly, WasDelivered, WritesOn}

pub WritesOn-none : (l : WriteLog) → WritesOn l l
WritesOn-none l = record { received = GoesOn-none l.received; flushed = inl refl }

pub WritesOn-joins : (a b c : WriteLog) → WritesOn a b → WritesOn b c → WritesOn a c
WritesOn-joins a b c p q = record {
  received = GoesOn-joins a.received b.received c.received p.received q.received;
  flushed = elim q.flushed [
    | inl same ↦ subst (λ l. (l ≡ a.flushed) ⊎ GoesOn a.received l) (sym same) p.flushed
    | inr since ↦ inr (GoesOn-joins a.received b.received c.flushed p.received since)
  ];
}

-- a flush, or none
pub WritesOn-grows : (old new : WriteLog) → WriteLogGrows old new → WritesOn old new
WritesOn-grows old new grows = record {
  received = grows.received;
  flushed = elim grows.flushed [ inl same ↦ inl same | inr since ↦ inr since.0 ];
}

-- what was sent stays so
pub WasDelivered-on : (bytes : List ℕ) (old new : WriteLog) → WasDelivered bytes old → WritesOn old new → WasDelivered bytes new
WasDelivered-on bytes old new sent more = record {
  received = GoesOn-joins bytes old.received new.received sent.received more.received;
  flushed = elim more.flushed [
    | inl same ↦ subst (λ l. GoesOn bytes l) (sym same) sent.flushed
    | inr since ↦ GoesOn-joins bytes old.received new.flushed sent.received since
  ];
}

-- the writer was called, and the reader wasn't asked
pub HoldsNothingBack-on : (IsDue : List ℕ → List ℕ → Type 0) (a b c k l m : StreamLog) → HoldsNothingBack IsDue a b k l
    → c ≡ b → WritesOn l.writes m.writes → HoldsNothingBack IsDue a c k m
HoldsNothingBack-on IsDue a b c k l m held same more = elim held [
  | inl none ↦ inl (same ∙ none)
  | inr sent ↦ subst (λ x. HoldsNothingBack IsDue a x k m) (sym same) (inr (record {
    before = sent.before;
    asked = sent.asked;
    due = sent.due;
    is_due = sent.is_due;
    sent = WasDelivered-on (k.writes.received ++ sent.due) l.writes m.writes sent.sent more;
  }))
]

-- bytes had come, each ask gave a byte or failed, and then it was asked again
pub AskedLast-after : (a b c : StreamLog) (had came : List ℕ) → b.reads.given ≡ a.reads.given ++ had → AsksGiveOrFail a b
    → AskedLast came b c → AskedLast (had ++ came) a c
AskedLast-after a b c had came given give asked =
    let last = c.reads.latest in
    record {
      given = asked.given ∙ ap (λ l. l ++ (came ++ last)) given ∙ append_assoc a.reads.given had (came ++ last)
          ∙ ap (λ l. a.reads.given ++ l) (sym (append_assoc had came last));
      asks = omega (
        arith,
        asked.asks,
        give,
        ap length given,
        length-append a.reads.given had,
        length-append had came,
      );
    }

-- each ask gave a byte, or failed, and so on
pub AsksGiveOrFail-none : (a : StreamLog) → AsksGiveOrFail a a
AsksGiveOrFail-none a = omega arith

pub AsksGiveOrFail-joins : (a b c : StreamLog) → AsksGiveOrFail a b → AsksGiveOrFail b c → AsksGiveOrFail a c
AsksGiveOrFail-joins a b c first second = omega (arith, first, second)

-- where what is due is also such
HoldsNothingBack-such : (P Q : List ℕ → List ℕ → Type 0) (a b k l : StreamLog)
    → ((bytes due : List ℕ) → P bytes due → Q bytes due) → HoldsNothingBack P a b k l → HoldsNothingBack Q a b k l
HoldsNothingBack-such P Q a b k l so (inl none) = inl none
HoldsNothingBack-such P Q a b k l so (inr sent) = inr (record {
  before = sent.before;
  asked = sent.asked;
  due = sent.due;
  is_due = so sent.before sent.due sent.is_due;
  sent = sent.sent;
})

-- neither stream was called
pub RunsPromptly-none : (IsDue : List ℕ → List ℕ → Type 0) (failed : ℕ) (read written : StreamLog)
    → RunsPromptly IsDue failed read read written written
RunsPromptly-none IsDue failed read written = record {
  prompt = inl refl;
  once = omega arith;
  reads = omega arith;
  few = omega arith;
  flushes = omega arith;
  per_ask = omega arith;
}

pub RunsPromptly-such : (P Q : List ℕ → List ℕ → Type 0) {failed : ℕ} {a b k l : StreamLog}
    → ((bytes due : List ℕ) → P bytes due → Q bytes due) → RunsPromptly P failed a b k l → RunsPromptly Q failed a b k l
RunsPromptly-such P Q {a = a} {b} {k} {l} so runs = record {
  prompt = HoldsNothingBack-such P Q a b k l so runs.prompt;
  once = runs.once;
  reads = runs.reads;
  few = runs.few;
  flushes = runs.flushes;
  per_ask = runs.per_ask;
}
