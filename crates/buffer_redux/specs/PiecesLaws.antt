-- What the iterators over pieces, and over lines, give of the bytes that are known to be left.
use Rattle.std.specs.Prelude.{◌≡◌, ℕ, List, [], ◌++◌, length, ◌⊎◌, Ok, Option, Some, None, IfSome}
use Rattle.std.proofs.Common.{ap, inl, inr, subst, sym}
use Rattle.std.proofs.BufReadLemmas.{take_through-nil}
use Rattle.std.specs.Io.BufRead.{take_through, DropsThrough}
use Rattle.std.specs.Io.KnownBytes.{IsAtEnd}
use Rattle.buffer_redux.specs.Policy.{ReadRules}
use Rattle.buffer_redux.specs.Pieces.{Ended, GivesWhole, GoesOnWith, Splitting}
use Rattle.buffer_redux.specs.Remaining.{reader_remaining}
use Rattle.buffer_redux.specs.UntilLaws.{ReadsUntil-drops, ReadsUntil-known}

none_known : (byte : ℕ) (a : Option (List ℕ)) → IfSome a (λ xs. [] ≡ take_through byte xs) → IsAtEnd a
none_known byte None known = tt
none_known byte (Some xs) known = take_through-nil byte xs (ap length (sym known))

module _ {S P : Type 0} (remaining : S → Option (List ℕ)) (rules : ReadRules P) (s t : Splitting S P)
    (fresh : s.begun ≡ []) where
  went_known : (count : ℕ) (piece : List ℕ) → GoesOnWith remaining rules s (Ok count) piece t
      → IfSome (reader_remaining remaining rules s.reader) (λ xs. piece ≡ take_through s.byte xs)
  went_known count piece went =
      subst (λ l. IfSome (reader_remaining remaining rules s.reader) (λ xs. piece ≡ l ++ take_through s.byte xs)) fresh
      (ReadsUntil-known remaining rules s.byte s.reader s.begun (Ok count) piece t.reader went.reads)

  -- what is known to be left loses the piece with its byte
  pub GivesWhole-drops : (piece : List ℕ) → GivesWhole remaining rules s piece t
      → DropsThrough (reader_remaining remaining rules s.reader) (reader_remaining remaining rules t.reader) s.byte
  GivesWhole-drops piece whole =
      ReadsUntil-drops remaining rules s.byte s.reader s.begun whole.count piece t.reader whole.went.reads

  -- no further piece comes where nothing is known to be left
  pub Ended-known : Ended remaining rules s t → (s.left ≡ 0) ⊎ IsAtEnd (reader_remaining remaining rules s.reader)
  Ended-known (inl (last, same)) = inl last
  Ended-known (inr (count, went, none)) =
      inr (none_known s.byte (reader_remaining remaining rules s.reader) (went_known count [] went))
