-- What goes on of lines, one after another.
use Rattle.std.proofs.Common.{◌≡◌, ◌∙◌, ℕ, List, [], ◌∷◌, ◌++◌, Result, Ok, Err, MatchResult, Option, None, Some, false, true, is_some, inl, inr, ap, arith, refl, sym, append-nil, append_assoc}
use Rattle.std.specs.declared.io.Error.{Error}
use Rattle.memchr.specs.Find.{FindsNeedle}
use Rattle.buffer_redux.specs.Buffered.{Buffered}
use Rattle.buffer_redux.specs.LineSenderLaws.{lacks_or}
use Rattle.buffer_redux.specs.LineWriter.{SendsLines, ThenSendsLines}
use Rattle.buffer_redux.specs.Policy.{WriteRules}
use Rattle.buffer_redux.specs.StreamLog.{StreamLog}
use Rattle.buffer_redux.specs.WriteAll.{WritesAll}
use Rattle.uses.specs.Filter.{AllGoOn, HasWord, LineGoesThrough}

-- a search tells whether the word is in the line
pub has_word : (word line : List ℕ) (at : Option ℕ) → FindsNeedle line word 0 at
    → (is_some at ≡ true → HasWord word line) × (is_some at ≡ false → ¬ (HasWord word line))
has_word word line None none = (
  λ odd. cc,
  λ _ has. none has.0 (omega arith) (omega (arith, has.1.fits)) has.1,
)
has_word word line (Some at) found = (λ _. (at, found.1), λ odd _. cc)

pub AllGoOn-more : (word : List ℕ) (lines : List (List ℕ)) (line out first : List ℕ) → AllGoOn word lines out
    → LineGoesThrough word line first → AllGoOn word (lines ++ line ∷ []) (out ++ first)
AllGoOn-more word [] line out first none goes =
    (first, [], goes, refl, ap (λ l. l ++ first) none ∙ sym (append-nil first))
AllGoOn-more word (l ∷ lines) line out first (front, rest, is, all, same) goes = (
  front,
  rest ++ first,
  is,
  AllGoOn-more word lines line rest first all goes,
  ap (λ x. x ++ first) same ∙ append_assoc front rest first,
)

-- a line that is written, and sent, flushes nothing
module _ {S P : Type 0} (tells : S → StreamLog) (trace : S → S → Type 0) (rules : WriteRules P)
    (answer : Result (Unit {0}) Error) (t : Buffered S P) where
  sent_unflushed : (m : Buffered S P) → SendsLines tells trace m answer t → t.log.writes.flushes ≡ m.log.writes.flushes
  sent_unflushed m sends = elim (lacks_or m.block.bytes) [
    | inl none ↦ ap (λ x. x.log.writes.flushes) (sends.none none).1
    | inr some ↦ (sends.some some).sends.sent.flushes
  ]

  pub line_unflushed : (line : List ℕ) (s : Buffered S P)
      → ThenSendsLines tells trace (WritesAll tells trace rules s line) answer t
      → t.log.writes.flushes ≡ s.log.writes.flushes
  line_unflushed line s l = of l.writing l.ended ∙ l.wrote.front.keeps.flushes
    where
      of : (writing : Result (Unit {0}) Error) → MatchResult writing (λ _. SendsLines tells trace l.written answer t)
          (λ e. (answer ≡ Err e) × (t ≡ l.written)) → t.log.writes.flushes ≡ l.written.log.writes.flushes
      of (Ok x) sends = sent_unflushed l.written sends
      of (Err e) (is, same) = ap (λ x. x.log.writes.flushes) same
