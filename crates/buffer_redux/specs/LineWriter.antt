-- The rules under which a line writer flushes, and lines whose send is told of.
use Rattle.std.specs.Prelude.{◌≡◌, Result, Ok, Err, MatchResult}
use Rattle.std.specs.declared.io.Error.{Error}
use Rattle.redux_buffer.specs.StreamLog.{StreamLog}
use Rattle.buffer_redux.specs.Buffered.{Buffered}
use Rattle.buffer_redux.specs.BufWriter.{WasSent}
use Rattle.buffer_redux.specs.Policy.{WriteRules}
use Rattle.buffer_redux.specs.ReadUntil.{Lacks}
use Rattle.buffer_redux.specs.WriterPolicies.{flush_on_rules}

-- those of `FlushOnNewline`
abbrev pub line_rules : {P : Type 0} → WriteRules P
line_rules = flush_on_rules (λ p. 10)

module _ {S P : Type 0} (tells : S → StreamLog) (trace : S → S → Type 0) where
  -- all that is buffered was sent where a line feed is among it, and else nothing was done
  pub record SendsLines (s : Buffered S P) (answer : Result (Unit {0}) Error) (t : Buffered S P) : Type 0 where
    pub some : ¬ (Lacks 10 s.block.bytes) → WasSent tells trace s answer t
    pub none : Lacks 10 s.block.bytes → (answer ≡ Ok tt) × (t ≡ s)

  -- a call that wrote so, and behind an Ok of it a send of lines
  pub record ThenSendsLines (Wrote : Result (Unit {0}) Error → Buffered S P → Type 0)
      (answer : Result (Unit {0}) Error) (t : Buffered S P) : Type 0 where
    pub writing : Result (Unit {0}) Error
    pub written : Buffered S P
    pub wrote : Wrote writing written
    pub ended : MatchResult writing (λ _. SendsLines written answer t) (λ e. (answer ≡ Err e) × (t ≡ written))
