-- What a fill did doesn't hang on what the call that made it carries in its Ok; and what its turns gave.
use Rattle.std.proofs.Common.{◌≡◌, ℕ, zero, suc, Ok, Err, inl, sym, ap, ◌∙◌}
use Rattle.std.specs.declared.io.Error.{Error}
use Rattle.buffer_redux.specs.Policy.{ReadRules}
use Rattle.buffer_redux.specs.Buffered.{Buffered}
use Rattle.redux_buffer.specs.StreamLog.{zero_of_some}
use Rattle.buffer_redux.specs.Fill.{Filled, Turns}
use Rattle.buffer_redux.specs.BufReader.{Fills}

-- each turn gave some bytes
pub Turns-gave : {S P : Type 0} (rules : ReadRules P) (k : ℕ) (s t : Buffered S P) → Turns rules k s t
    → t.log.reads.zero_reads ≡ s.log.reads.zero_reads
Turns-gave rules zero s t same = ap (λ x. x.log.reads.zero_reads) (sym same)
Turns-gave rules (suc k) s t (m, run, count, some, turn) =
    ap (λ l. l.reads.zero_reads) turn.read.told
    ∙ zero_of_some count turn.read.out m.log.reads.zero_reads (inl some) ∙ Turns-gave rules k s m run

pub Filled-ok : {S P A B : Type 0} (rules : ReadRules P) (s : Buffered S P) (a : A) (b : B) (t : Buffered S P)
    → Filled rules s (Ok a) t → Filled rules s (Ok b) t
Filled-ok rules s a b t f = record { count = f.count; last = f.last; turns = f.turns; ends = f.ends }

pub Filled-err : {S P A B : Type 0} (rules : ReadRules P) (s : Buffered S P) (e : Error) (t : Buffered S P)
    → Filled {A = A} rules s (Err e) t → Filled {A = B} rules s (Err e) t
Filled-err rules s e t f = record { count = f.count; last = f.last; turns = f.turns; ends = f.ends }

pub Fills-ok : {S P A B : Type 0} (rules : ReadRules P) (s : Buffered S P) (a : A) (b : B) (t : Buffered S P)
    → Fills rules s (Ok a) t → Fills rules s (Ok b) t
Fills-ok rules s a b t f = record {
  filled = Filled-ok rules s a b t f.filled;
  in_order = f.in_order;
  grows = f.grows;
  kind = f.kind;
  capacity = f.capacity;
  consumed = f.consumed;
  whole = f.whole;
  claims = f.claims;
  caused = f.caused;
  ended = f.ended;
  empty = f.empty;
  last = f.last;
  ahead = f.ahead;
  steadily = f.steadily;
  sparing = f.sparing;
}

pub Fills-err : {S P A B : Type 0} (rules : ReadRules P) (s : Buffered S P) (e : Error) (t : Buffered S P)
    → Fills {A = A} rules s (Err e) t → Fills {A = B} rules s (Err e) t
Fills-err rules s e t f = record {
  filled = Filled-err rules s e t f.filled;
  in_order = f.in_order;
  grows = f.grows;
  kind = f.kind;
  capacity = f.capacity;
  consumed = f.consumed;
  whole = f.whole;
  claims = f.claims;
  caused = f.caused;
  ended = f.ended;
  empty = f.empty;
  last = f.last;
  ahead = f.ahead;
  steadily = f.steadily;
  sparing = f.sparing;
}
