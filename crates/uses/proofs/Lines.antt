-- Lines that are handed out, one after another, and those of a text that is known.
use Rattle.std.proofs.Common.{◌≡◌, ℕ, ◌<◌, List, [], ◌∷◌, ◌++◌, length, Ok, Option, None, Some, IfSome, refl, subst, sym}
use Rattle.std.proofs.BufReadLemmas.{take_through_nonempty}
use Rattle.std.specs.Io.BufRead.{take_through, DropsThrough}
use Rattle.std.specs.List.{concat}
use Rattle.buffer_redux.specs.Buffered.{Buffered}
use Rattle.buffer_redux.specs.BufReader.{ReadsAlong}
use Rattle.buffer_redux.specs.Policy.{ReadRules}
use Rattle.buffer_redux.specs.ReaderLaws.{ReadsAlong-joins, ReadsAlong-none}
use Rattle.buffer_redux.specs.Remaining.{reader_remaining}
use Rattle.buffer_redux.specs.UntilLaws.{ReadsUntil-along, ReadsUntil-drops, ReadsUntil-known}
use Rattle.uses.specs.Tally.{AreFirstLines, HandsLine, HandsLines}

-- of a text that is known these are the first lines, and just the rest is known to be left
abbrev pub FirstKnown : List (List ℕ) → Option (List ℕ) → Option (List ℕ) → Type 0
FirstKnown lines a b = IfSome a (λ text. (rest : List ℕ) × (b ≡ Some rest) × AreFirstLines lines text rest)

none_known : (a : Option (List ℕ)) → FirstKnown [] a a
none_known None = tt
none_known (Some text) = (text, refl, refl)

line_known : (a b c : Option (List ℕ)) (line : List ℕ) (lines : List (List ℕ)) → IfSome a (λ xs. line ≡ take_through 10 xs)
    → DropsThrough a b 10 → 0 < length line → FirstKnown lines b c → FirstKnown (line ∷ lines) a c
line_known None b c line lines took drops some known = tt
line_known (Some text) b c line lines took drops some known =
    let (rest, is, are) = rw drops at known in
    (rest, is, (take_through_nonempty 10 text (subst (λ l. 0 < length l) took some), took, are))

module _ {S P : Type 0} (remaining : S → Option (List ℕ)) (rules : ReadRules P) where
  -- one more
  pub HandsLines-more : (lines : List (List ℕ)) (line : List ℕ) (s m t : Buffered S P) → HandsLines remaining rules lines s m
      → HandsLine remaining rules m line t → 0 < length line → HandsLines remaining rules (lines ++ line ∷ []) s t
  HandsLines-more [] line s m t same reads some =
      (t, subst (λ x. HandsLine remaining rules x line t) (sym same) reads, some, refl)
  HandsLines-more (first ∷ lines) line s m t (next, read, some', run) reads some =
      (next, read, some', HandsLines-more lines line next m t run reads some)

  pub HandsLines-along : (lines : List (List ℕ)) (s t : Buffered S P) → HandsLines remaining rules lines s t
      → ReadsAlong remaining rules s (concat lines) t
  HandsLines-along [] s t same = subst (ReadsAlong remaining rules s []) same (ReadsAlong-none remaining rules s)
  HandsLines-along (line ∷ lines) s t (m, (n, reads), some, run) =
      subst (λ l. ReadsAlong remaining rules s (l ++ concat lines) t) (sym reads.appended)
      (ReadsAlong-joins remaining rules s m t reads.handed (concat lines)
      (ReadsUntil-along remaining rules 10 s [] (Ok n) line m reads) (HandsLines-along lines m t run))

  pub HandsLines-known : (lines : List (List ℕ)) (s t : Buffered S P) → HandsLines remaining rules lines s t
      → FirstKnown lines (reader_remaining remaining rules s) (reader_remaining remaining rules t)
  HandsLines-known [] s t same =
      subst (λ x. FirstKnown [] (reader_remaining remaining rules s) (reader_remaining remaining rules x)) same (none_known _)
  HandsLines-known (line ∷ lines) s t (m, (n, reads), some, run) =
      line_known _ _ _ line lines (ReadsUntil-known remaining rules 10 s [] (Ok n) line m reads)
      (ReadsUntil-drops remaining rules 10 s [] n line m reads) some (HandsLines-known lines m t run)
