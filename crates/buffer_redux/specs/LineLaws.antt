-- What a call that appends a line does to the bytes that are known to be left.
use Rattle.std.specs.Prelude.{◌≡◌, ℕ, ◌<◌, ◌==◌, ◌⊎◌, Bool, false, true, cond, List, [], ◌∷◌, ◌++◌, Result, Ok, Err, Option, None, Some, IfErr, IfSome, OnOk, IsUtf8, length, take}
use Rattle.std.proofs.Common.{◌∙◌, ap, append-nil, arith, drop_at, inl, inr, length-append, refl, subst, sym}
use Rattle.std.proofs.BufReadLemmas.{take_through-append}
use Rattle.std.proofs.lemmas.List.{take_at}
use Rattle.std.proofs.lemmas.Str.{IsCharBoundary-from_take, IsUtf8-drop}
use Rattle.std.specs.Io.BufRead.{take_through}
use Rattle.std.specs.Io.KnownBytes.{Consumes, IsAtEnd, prepend_known}
use Rattle.std.specs.IoError.{error_kind}
use Rattle.std.specs.declared.io.Error.{Error}
use Rattle.std.specs.declared.io.ErrorKind.TheVariants.{InvalidData}
use Rattle.buffer_redux.specs.Policy.{ReadRules}
use Rattle.buffer_redux.specs.Buffered.{Buffered}
use Rattle.buffer_redux.specs.ReaderLaws.{IfSome-unless, ReadsInOrder-ahead}
use Rattle.buffer_redux.specs.ReadBehind.{FillsOn}
use Rattle.buffer_redux.specs.ReadLine.{IsPart, NeverUtf8, ReadsLine, no_text}
use Rattle.buffer_redux.specs.ReadUntil.{Lacks, PassesAndFills}
use Rattle.buffer_redux.specs.Remaining.{ahead, may_stop, reader_remaining}
use Rattle.buffer_redux.specs.UntilLaws.{EndsUntil-known, appended_known, lacking_through}

-- a text behind a text
text_behind : (xs ys : List ℕ) → IsUtf8 xs → IsUtf8 (xs ++ ys) → IsUtf8 ys
text_behind xs ys front whole =
    let seam = IsCharBoundary-from_take (xs ++ ys) (length xs) whole (omega (arith, length-append xs ys))
    (subst IsUtf8 (sym (take_at xs ys (length xs) refl)) front) in
    subst IsUtf8 (drop_at xs ys (length xs) refl) (IsUtf8-drop (xs ++ ys) (length xs) whole seam)

-- what is taken through a byte begins with what is taken of the first bytes
through_begins : (byte : ℕ) (bytes rest : List ℕ)
    → (more : List ℕ) × (take_through byte (bytes ++ rest) ≡ take_through byte bytes ++ more)
through_begins byte [] rest = (take_through byte rest, refl)
through_begins byte (b ∷ bytes) rest = by (b == byte) (through_begins byte bytes rest)
  where
    by : (is : Bool) → (more : List ℕ) × (take_through byte (bytes ++ rest) ≡ take_through byte bytes ++ more)
        → (more : List ℕ) × (cond is (b ∷ []) (b ∷ take_through byte (bytes ++ rest))
        ≡ cond is (b ∷ []) (b ∷ take_through byte bytes) ++ more)
    by true later = ([], refl)
    by false later = (later.0, ap (λ l. b ∷ l) later.1)

part_bad : (bytes : List ℕ) → 0 < length bytes → IsPart bytes → ¬ (IsUtf8 bytes)
part_bad bytes some part text = part.bad (length bytes) some (omega arith)
    (subst IsUtf8 (sym (take_at bytes [] (length bytes) refl) ∙ ap (take (length bytes)) (append-nil bytes)) text)

-- a line of which a piece is no UTF-8, whatever follows
never_known : (a b : Option (List ℕ)) (bytes left handed : List ℕ)
    → Consumes (prepend_known bytes a) (prepend_known left b) handed → IsUtf8 handed → Lacks 10 handed
    → NeverUtf8 (take_through 10 left) → IfSome (prepend_known bytes a) (λ xs. ¬ (IsUtf8 (take_through 10 xs)))
never_known None b bytes left handed went text plain never = tt
never_known (Some x) None bytes left handed went text plain never = absurd went
never_known (Some x) (Some y) bytes left handed went text plain never = λ whole.
    let begins = through_begins 10 left y in
    let line = ap (take_through 10) went ∙ take_through-append 10 handed (left ++ y) plain in
    never begins.0 (subst IsUtf8 begins.1 (text_behind handed (take_through 10 (left ++ y)) text (subst IsUtf8 line whole)))

-- a line whose last piece, at the end of all, is no UTF-8
broken_known : (a b : Option (List ℕ)) (bytes left handed : List ℕ)
    → Consumes (prepend_known bytes a) (prepend_known left b) handed → IfSome a (λ _. IsAtEnd b) → IsUtf8 handed
    → Lacks 10 handed → Lacks 10 left → ¬ (IsUtf8 left)
    → IfSome (prepend_known bytes a) (λ xs. ¬ (IsUtf8 (take_through 10 xs)))
broken_known None b bytes left handed went ended text plain behind bad = tt
broken_known (Some x) None bytes left handed went ended text plain behind bad = absurd went
broken_known (Some x) (Some y) bytes left handed went ended text plain behind bad = λ whole.
    let line = ap (take_through 10) went ∙ take_through-append 10 handed (left ++ y) plain
    ∙ ap (λ l. handed ++ take_through 10 (left ++ l)) ended ∙ ap (λ l. handed ++ take_through 10 l) (append-nil left)
    ∙ ap (λ l. handed ++ l) (sym (lacking_through 10 left behind)) in
    bad (text_behind handed left text (subst IsUtf8 line whole))

module _ {S P : Type 0} (remaining : S → Option (List ℕ)) (rules : ReadRules P) (s : Buffered S P) where
  -- at Ok just those were appended that are known to be left up to the line feed
  pub ReadsLine-known : (before : List ℕ) (answer : Result ℕ Error) (after : List ℕ) (t : Buffered S P)
      → ReadsLine remaining rules s before answer after t
      → OnOk answer (IfSome (reader_remaining remaining rules s) (λ xs. after ≡ before ++ take_through 10 xs))
  ReadsLine-known before (Err e) after t reads = tt
  ReadsLine-known before (Ok n) after t reads = appended_known 10 before reads.handed after reads.appended
      (reader_remaining remaining rules s)
      (EndsUntil-known remaining rules 10 s IsPart no_text n reads.handed t reads.front reads.ends)

  -- a line is refused only where it is no UTF-8
  pub ReadsLine-invalid : (before : List ℕ) (answer : Result ℕ Error) (after : List ℕ) (t : Buffered S P)
      → ReadsLine remaining rules s before answer after t
      → IfErr answer (λ e. error_kind e ≡ InvalidData → ((handed : List ℕ) × PassesAndFills remaining rules
      (FillsOn IsPart remaining rules) 10 s handed (Err e) t)
      ⊎ IfSome (reader_remaining remaining rules s) (λ xs. ¬ (IsUtf8 (take_through 10 xs))))
  ReadsLine-invalid before (Ok n) after t reads = tt
  ReadsLine-invalid before (Err e) after t reads = λ kind.
      let keeps = reads.front.keeps in
      let went = ReadsInOrder-ahead remaining s t reads.handed reads.front.in_order keeps.known in
      let unless = IfSome-unless (may_stop rules s) (ahead remaining s) (λ xs. ¬ (IsUtf8 (take_through 10 xs))) in
      elim reads.ends [
        | inl failed ↦ inl (reads.handed, failed)
        | inr (inl (passes, inl refused)) ↦ absurd (cc (kind, refused.0))
        | inr (inl (passes, inr never)) ↦ inr (unless (λ _. never_known (remaining s.inner) (remaining t.inner)
            s.block.bytes t.block.bytes reads.handed went reads.text passes.plain never.1))
        | inr (inr breaks) ↦ inr (unless (λ _. broken_known (remaining s.inner) (remaining t.inner) s.block.bytes t.block.bytes
            reads.handed went
            (keeps.known.dry (omega (arith, breaks.fills.passes.front.keeps.grows.zero_reads, breaks.dry)))
            reads.text breaks.fills.passes.plain breaks.plain (part_bad t.block.bytes breaks.some breaks.part)))
      ]
