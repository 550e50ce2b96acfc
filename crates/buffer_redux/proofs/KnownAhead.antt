-- What is known of the bytes ahead of a buffered reader, call after call.
use Rattle.std.proofs.Common.{◌≡◌, ℕ, ◌<◌, ◌≤◌, cond, List, [], Bool, true, false, length, take, Result, Ok, Err, Option, None, Some, IfSome, IfOk, le_of_eq, le_refl, refl, sym, ap, subst, ◌∙◌, arith}
use Rattle.std.proofs.lemmas.List.{nil_from_length, take-append-le}
use lib.Seq.{take-length}
use Rattle.std.proofs.KnownBytes.{prepend_known-front, prepend_known-end}
use Rattle.std.specs.Io.{StartsWith}
use Rattle.std.specs.Io.KnownBytes.{Keeps, IsAtEnd, prepend_known}
use Rattle.std.specs.Borrow.{Bor}
use Rattle.std.specs.Io.BufRead.{FillKeeps}
use Rattle.std.specs.declared.io.Error.{Error}
use Rattle.buffer_redux.specs.Policy.{ReadRules}
use Rattle.buffer_redux.specs.Buffered.{Buffered}
use Rattle.redux_buffer.specs.Block.{Block, usable}
use Rattle.redux_buffer.specs.StreamLog.{StreamLog}
use Rattle.redux_buffer.specs.Transfer.{ReadsFrom}
use Rattle.buffer_redux.specs.BufReader.{ReadsInOrder, InnerGives, FillBuf}
use Rattle.buffer_redux.specs.Fill.{Turns}
use Rattle.buffer_redux.specs.ReaderLaws.{ReadsInOrder-ahead, WantsBytes, Keeps-of, IfSome-any, IfSome-unless, remaining_gives, at_nothing}
use Rattle.buffer_redux.proofs.FillFacts.{turns_facts}
use Rattle.buffer_redux.specs.Remaining.{ahead, may_stop, reader_remaining}
use Rattle.buffer_redux.specs.RemainingLaws.{may_stop-false}

-- in a turn the reader didn't run dry, nor in a read that failed
pub dry_never : {S P : Type 0} (rules : ReadRules P) (k : ℕ) (s m : Buffered S P)
    → Turns rules k s m → s.log.reads.zero_reads < m.log.reads.zero_reads → ⊥
dry_never rules k s m turns rose = omega (arith, rose, (turns_facts rules k s m turns).zero_reads)

pub err_counts_none : (b b' : Block) (log log' : StreamLog) (e : Error)
    → ReadsFrom b log (Err e) b' log' → 0 < usable b → log'.reads.zero_reads ≡ log.reads.zero_reads
err_counts_none b b' log log' e read room = ap (λ l. l.reads.zero_reads) (read.read room).told

at_end : (o : Option (List ℕ)) (P : Type 0) → (P → IsAtEnd o) → IfSome o (λ xs. P → xs ≡ [])
at_end None P h = tt
at_end (Some xs) P h = h

IsAtEnd_if : (b : Bool) (a : Option (List ℕ)) → (b ≡ false → IsAtEnd a) → IsAtEnd (cond b None a)
IsAtEnd_if true a h = tt
IsAtEnd_if false a h = h refl

module _ {S P : Type 0} (remaining : S → Option (List ℕ)) (rules : ReadRules P) (s : Buffered S P) where
  -- where nothing is buffered and the reader inside has nothing left, nothing is ahead
  pub remaining_ends : (WantsBytes (rules.claims s.policy) → 0 < s.block.capacity
      → IsAtEnd (remaining s.inner)) → s.block.bytes ≡ [] → IsAtEnd (reader_remaining remaining rules s)
  remaining_ends ended none = IsAtEnd_if (may_stop rules s) (ahead remaining s)
      (λ is. at_nothing (remaining s.inner) s.block.bytes none
      (ended (may_stop-false rules s is).0 (may_stop-false rules s is).1))

  module _ (t : Buffered S P) (order : ReadsInOrder s [] t)
      (known : InnerGives remaining s t) where
    kept : Keeps (ahead remaining s) (ahead remaining t)
    kept = Keeps-of (ahead remaining s) (ahead remaining t) (ReadsInOrder-ahead remaining s t [] order known)

    module _ (shown : List ℕ) (same : shown ≡ t.block.bytes) where
      lent : Keeps (ahead remaining s) (prepend_known shown (remaining t.inner))
      lent = subst (λ l. Keeps (ahead remaining s) (prepend_known l (remaining t.inner))) (sym same) kept

      -- what a fill shows is the front of what is ahead
      pub fill_front : IfSome (reader_remaining remaining rules s) (λ xs. StartsWith xs shown)
      fill_front = IfSome-unless (may_stop rules s) (ahead remaining s) (λ xs. StartsWith xs shown)
          (λ _. prepend_known-front (ahead remaining s) (remaining t.inner) shown lent)

      -- and goes on what was buffered
      pub fill_begins : StartsWith shown s.block.bytes
      fill_begins = ap (take (length s.block.bytes)) (same ∙ order.equal)
          ∙ take-append-le (length s.block.bytes) s.block.bytes order.got (le_refl _) ∙ take-length s.block.bytes

      -- nothing is ahead where a fill shows nothing
      pub fill_end : (WantsBytes (rules.claims s.policy) → 0 < s.block.capacity → length t.block.bytes ≡ 0
          → IsAtEnd (remaining t.inner))
          → IfSome (reader_remaining remaining rules s) (λ xs. length shown ≡ 0 → xs ≡ [])
      fill_end ended = IfSome-unless (may_stop rules s) (ahead remaining s) (λ xs. length shown ≡ 0 → xs ≡ [])
          (λ is. at_end (ahead remaining s) (length shown ≡ 0)
          (λ none. prepend_known-end (ahead remaining s) (remaining t.inner) shown lent
          (nil_from_length shown none)
          (ended (may_stop-false rules s is).0 (may_stop-false rules s is).1 (ap length (sym same) ∙ none))))

shows_at_most : (answer : Result (Bor (List ℕ)) Error) (bytes : List ℕ)
    → IfOk answer (λ shown. shown.now ≡ bytes) → IfOk answer (λ shown. length shown.now ≤ length bytes)
shows_at_most (Ok shown) bytes same = le_of_eq (ap length same)
shows_at_most (Err e) bytes same = tt

-- std's clause on a fill
pub fill_keeps : {S P : Type 0} (remaining : S → Option (List ℕ)) (rules : ReadRules P) (s : Buffered S P)
    (answer : Result (Bor (List ℕ)) Error)
    (t : Buffered S P) → FillBuf remaining rules s answer t
    → FillKeeps (reader_remaining remaining rules s) (reader_remaining remaining rules t)
    (Some (length t.block.bytes)) answer
fill_keeps remaining rules s answer t f = (
  Keeps-of (reader_remaining remaining rules s) (reader_remaining remaining rules t)
      (remaining_gives remaining rules s t [] f.fills.in_order f.known f.fills.claims f.fills.capacity),
  IfSome-any (reader_remaining remaining rules s) _ (λ _. shows_at_most answer t.block.bytes f.shown),
)
