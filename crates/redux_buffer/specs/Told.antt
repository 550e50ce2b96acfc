-- What contracts see of a `Told`.
use Rattle.std.specs.Prelude.{◌≡◌, ℕ, List, [], ◌++◌, Option, Result}
use Rattle.std.proofs.Common.{sym, ap, subst, ◌∙◌, append-nil, append_assoc}
use Rattle.std.proofs.KnownBytes.{Appends-nil, Appends-trans, Appends-kept}
use Rattle.std.specs.Io.KnownBytes.{Appends, Keeps}
use Rattle.std.specs.declared.io.Error.{Error}
use Rattle.redux_buffer.specs.LogGrows.{WriteLogGrows, WriteLogGrows-none, WriteLogGrows-joins, WriteLogGrows-flush}
use Rattle.redux_buffer.specs.StreamLog.{StreamLog, after_flush}
use Rattle.redux_buffer.specs.declared.tell.told.Told.{Told}

-- the stream that it passes its calls on to
abbrev pub told_stream : {S : Type 0} → Told S → S
told_stream t = t.stream

-- what it tells of those calls
abbrev pub told_log : {S : Type 0} → Told S → StreamLog
told_log t = t.calls.log

-- with another stream, and the calls that were told before
abbrev pub with_stream : {S : Type 0} → Told S → S → Told S
with_stream t stream = record t { stream = stream }

-- the log went on, and what the stream is known to hold gained just the bytes that were received since
pub record ToldWrites {S : Type 0} (contents : S → Option (List ℕ)) (s t : Told S) : Type 0 where
  pub more : List ℕ
  pub received : t.calls.log.writes.received ≡ s.calls.log.writes.received ++ more
  pub held : Appends (contents s.stream) (contents t.stream) more
  pub grows : WriteLogGrows s.calls.log.writes t.calls.log.writes

module _ {S : Type 0} (contents : S → Option (List ℕ)) where
  pub ToldWrites-none : (s : Told S) → ToldWrites contents s s
  ToldWrites-none s = record {
    more = [];
    received = sym (append-nil s.calls.log.writes.received);
    held = Appends-nil (contents s.stream);
    grows = WriteLogGrows-none s.calls.log.writes;
  }

  pub ToldWrites-joins : (a b c : Told S) → ToldWrites contents a b → ToldWrites contents b c → ToldWrites contents a c
  ToldWrites-joins a b c p q = record {
    more = p.more ++ q.more;
    received = q.received ∙ ap (λ l. l ++ q.more) p.received ∙ append_assoc a.calls.log.writes.received p.more q.more;
    held = Appends-trans (contents a.stream) (contents b.stream) (contents c.stream) p.more q.more p.held q.held;
    grows = WriteLogGrows-joins a.calls.log.writes b.calls.log.writes c.calls.log.writes p.grows q.grows;
  }

  pub ToldWrites-flush : (s t : Told S) (answer : Result (Unit {0}) Error)
      → t.calls.log ≡ after_flush s.calls.log answer
      → Keeps (contents s.stream) (contents t.stream) → ToldWrites contents s t
  ToldWrites-flush s t answer told kept = record {
    more = [];
    received = ap (λ l. l.writes.received) told ∙ sym (append-nil s.calls.log.writes.received);
    held = Appends-kept (contents s.stream) (contents s.stream) (contents t.stream) [] (Appends-nil (contents s.stream)) kept;
    grows = subst (λ l. WriteLogGrows s.calls.log.writes l.writes) (sym told) (WriteLogGrows-flush s.calls.log answer);
  }
