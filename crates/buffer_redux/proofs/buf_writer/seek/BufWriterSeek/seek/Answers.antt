-- Behind an Ok flush all is received and flushed, and just one seek was asked for: the flush makes none.
use Rattle.std.proofs.Common.{◌≡◌, ℕ, List, [], ◌∷◌, ◌++◌, Result, Ok, Err, inl, inr, refl, sym, ap, ◌∙◌, rules}
use Rattle.std.specs.Prelude.{MatchResult}
use Rattle.std.proofs.lemmas.Result.{err_from_is_err_and}
use Rattle.std.specs.declared.io.Error.{Error}
use Rattle.std.specs.declared.io.traits.SeekFrom.{SeekFrom}
use Rattle.redux_buffer.specs.StreamLog.{StreamLog, SeekLog, Readies, SeekTells, after_flush}
use Rattle.buffer_redux.specs.Buffered.{Buffered}
use Rattle.buffer_redux.specs.BufWriter.{Flushes, IsFlushed}
use Rattle.buffer_redux.proofs.LineSends.{on_ok}
use Rattle.buffer_redux.proofs.buf_writer.seek.BufWriterSeek.seek.Goals as goal

-- a flush makes no seek
flush_seeks : (sending answer : Result (Unit {0}) Error) (old sent new : StreamLog) → sent.seeks ≡ old.seeks
    → MatchResult sending (λ _. new ≡ after_flush sent answer) (λ e. (answer ≡ Err e) × (new ≡ sent))
    → new.seeks ≡ old.seeks
flush_seeks (Ok _) answer old sent new same told = ap (λ l. l.seeks) told ∙ same
flush_seeks (Err e) answer old sent new same told = ap (λ l. l.seeks) told.1 ∙ same

-- behind an Ok flush a seek leaves all received and flushed
keeps_all : (readies : Readies) (old new : StreamLog) (to : SeekFrom) (answer : Result ℕ Error) (received : List ℕ)
    → SeekTells readies old to answer new → old.writes.received ≡ received → old.writes.flushed ≡ old.writes.received
    → (new.writes.received ≡ received) × (new.writes.flushed ≡ new.writes.received)
keeps_all readies old new to answer received tells got flushed =
    let all : tells.flushed ≡ old.writes.received = elim tells.flushes [
      | inl same ↦ same ∙ flushed
      | inr all ↦ all
    ] in
    let same = ap (λ l. l.writes.received) tells.told in
    (same ∙ got, ap (λ l. l.writes.flushed) tells.told ∙ all ∙ sym same)

-- behind an Ok flush one seek was asked for, and gave this answer
sought : {S P : Type 0} (readies : Readies) (s m t : Buffered S P) (to : SeekFrom) (answer : Result ℕ Error)
    → IsFlushed s m → Flushes s (Ok tt) m → t.block ≡ m.block → SeekTells readies m.log to answer t.log
    → IsFlushed s t × (t.log.seeks.calls ≡ s.log.seeks.calls ++ (to, answer) ∷ [])
sought readies s m t to answer flushed steps block tells =
    let kept = keeps_all readies m.log t.log to answer _ tells flushed.received flushed.flushed in
    let asked : SeekLog → List (SeekFrom × Result ℕ Error) = λ log. log.calls ++ (to, answer) ∷ [] in (
      record {
        empty = ap (λ b. b.bytes) block ∙ flushed.empty;
        received = kept.0;
        flushed = kept.1;
        met = record {
          interrupts = flushed.met.interrupts;
          only = record {
            interrupted = flushed.met.only.interrupted;
            faults = ap (λ l. l.writes.faults) tells.told ∙ flushed.met.only.faults;
            zero_writes = ap (λ l. l.writes.zero_writes) tells.told ∙ flushed.met.only.zero_writes;
          };
        };
      },
      ap (λ l. l.seeks.calls) tells.told ∙ ap asked
          (flush_seeks steps.sending (Ok tt) s.log steps.sent_log m.log (ap (λ l. l.seeks) steps.sends.sent.others) steps.ended),
    )

pub returns-in_err-flush-clause-sought : goal.returns-in_err-flush-clause-sought
returns-in_err-flush-clause-sought g c =
    let p = err_from_is_err_and c.from_residual.result c.from_residual.ensures.1 in
    let f = c.in_err-flush.ensures in
    rw (p.1, p.2) (record {
      flushing = Err c.in_err-flush.field-0.0;
      left = c.flush.new.self;
      flushed = f.flushed;
      ended = (refl, refl);
      policy = f.flushed.steps.policy;
      block = refl;
      told = f.flushed.went.told_after;
      noted = f.flushed.went.noted;
      in_order = f.flushed.in_order;
      grows = f.flushed.grows;
      asked = inr (
        f.flushed.caused,
        ap (λ l. l.calls)
            (flush_seeks f.flushed.steps.sending (Err c.in_err-flush.field-0.0) c.args.self.now.log f.flushed.steps.sent_log
            c.flush.new.self.log (ap (λ l. l.seeks) f.flushed.steps.sends.sent.others) f.flushed.steps.ended),
      );
      capacity = search rules;
      whole = search rules;
    })

pub returns-clause-sought : goal.returns-clause-sought
returns-clause-sought g c =
    let f = c.in_ok-flush.ensures in
    let block = ap (λ b. b.block) c.self.view_is in
    let told = rw (ap (λ b. b.log) c.self.view_is) at c.seek_told.ensures.told in
    record {
      flushing = Ok tt;
      left = c.flush.new.self;
      flushed = f.flushed;
      ended = told;
      policy = ap (λ b. b.policy) c.self.view_is ∙ f.flushed.steps.policy;
      block = block;
      told = refl;
      noted = ap (λ b. b.own_calls) c.self.view_is ∙ f.flushed.went.noted;
      in_order = search rules;
      grows = search rules;
      asked = inl (sought g.W.TellSeek.readies c.args.self.now c.flush.new.self _ c.args.to c.seek_told.result f.flushed.ok
          f.flushed.steps block told);
      capacity = search rules;
      whole = search rules;
    }

pub returns-clause-all : goal.returns-clause-all
returns-clause-all g c =
    let all = c.in_ok-flush.ensures.all in
    let told = rw (ap (λ b. b.log) c.self.view_is) at c.seek_told.ensures.told in
    let kept = keeps_all g.W.TellSeek.readies c.flush.new.self.log _ c.args.to c.seek_told.result _ told all.1 all.2 in
    on_ok c.seek_told.result _ (ap (λ b. b.block.bytes) c.self.view_is ∙ all.0, kept.0, kept.1)
