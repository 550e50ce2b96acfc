-- Laws of one call of `next`, for the proofs of those who call it.
use Rattle.std.specs.Prelude.{◌≡◌, ℕ, List, length, true, false, Option, None, Some, Result, Ok, Err}
use Rattle.std.proofs.Common.{sym, ap, subst, ◌∙◌, refl, arith, inl, inr}
use Rattle.std.proofs.lemmas.Bool.{true≢false}
use Rattle.std.specs.declared.io.Error.{Error}
use Rattle.piece_reader.specs.declared.delimited.TooLong as piece
use Rattle.piece_reader.specs.declared.error.NextError.TheVariants.{Wrong}
use Rattle.piece_reader.specs.DelimitedLaws.{open_plain}
use Rattle.piece_reader.specs.Grammar.{IsOpen}
use Rattle.piece_reader.specs.NextPiece.{IsHanded, NextPiece, NoEnd}
use Rattle.piece_reader.specs.PieceReader.{IsPieceReader, ReaderState, rest}
use Rattle.line_reader.specs.declared.error.LineError.TheVariants.{TooLong, Io}
use Rattle.line_reader.specs.declared.line.Lines.{Lines}
use Rattle.line_reader.specs.Lines.{BeginsTooLong, FitsLine, IsLine, newline, with_newline}
use Rattle.line_reader.specs.LineReader.{IsLineReader, LineState, lined}
use Rattle.line_reader.specs.NextLine.{LineAnswer, NextBufferedLine, NextLine, piece_answer}
use Rattle.line_reader.specs.SkipLine.{SkipsLine}

-- what one answer of a reader of pieces is of a reader of lines
pub same_some : (answer : LineAnswer) (line : List ℕ) → piece_answer answer ≡ Ok (Some line) → answer ≡ Ok (Some line)
same_some (Ok found) line is = (let same : found ≡ Some line = cc in ap (λ x. Ok x) same)
same_some (Err (TooLong n)) line is = cc
same_some (Err (Io e)) line is = cc

pub same_none : (answer : LineAnswer) → piece_answer answer ≡ Ok None → answer ≡ Ok None
same_none (Ok found) is = (let same : found ≡ None = cc in ap (λ x. Ok x) same)
same_none (Err (TooLong n)) is = cc
same_none (Err (Io e)) is = cc

pub same_long : (answer : LineAnswer) (e : piece.TooLong) → piece_answer answer ≡ Err (Wrong e) → answer ≡ Err (TooLong e.0)
same_long (Ok found) e is = cc
same_long (Err (TooLong n)) e is = (let same : e ≡ record { 0 = n } = cc in ap (λ x. Err (TooLong x.0)) (sym same))
same_long (Err (Io x)) e is = cc

-- a piece that is handed out is a line that fits
pub IsHanded-fits : {S D : Type 0} (max : ℕ) (s t : ReaderState S D) (line bytes : List ℕ)
    → IsHanded (lined max) s line bytes t → FitsLine max line
IsHanded-fits max s t line bytes (inl (is, going, none)) = record { plain = is.0; fits = is.1 }
IsHanded-fits max s t line bytes (inr (is, open', some, none, ended, met)) =
    let p = open_plain newline max bytes open' in
    record { plain = subst IsLine (sym is) p.0; fits = omega (arith, p.1, ap length is) }

-- a line that was handed out had its end where the stream didn't end behind it, and else it had none
module _ {S D : Type 0} (max : ℕ) (s t : ReaderState S D) (line bytes : List ℕ)
    (handed : IsHanded (lined max) s line bytes t) where
  pub IsHanded-end : t.ended ≡ false → bytes ≡ with_newline line
  IsHanded-end going = elim handed [
    | inl whole ↦ whole.0.2
    | inr last ↦ (let odd : true ≡ false = sym last.4 ∙ going in cc)
  ]

  pub IsHanded-last : t.ended ≡ true → bytes ≡ line
  IsHanded-last ended = elim handed [
    | inl whole ↦ (let odd : true ≡ false = sym ended ∙ whole.1 in cc)
    | inr last ↦ sym last.0
  ]

-- a line that is too long stays at the front, and no end was met
pub NextPiece-long : {S D : Type 0} (remaining : S → Option (List ℕ)) (max : ℕ) (s t : ReaderState S D) (e : piece.TooLong)
    → NextPiece remaining (lined max) s (Err (Wrong e)) t → BeginsTooLong max (rest t) × NoEnd s t
NextPiece-long remaining max s t e next = elim next.answers.3 [
  | inl (wrong, none) ↦ (record { above = wrong.0; plain = wrong.1 }, none)
  | inr (cut, open', some, met) ↦ absurd cut
]

-- what settles nothing has no end, and isn't too long
pub open_unended : (max : ℕ) (bytes : List ℕ) → IsOpen (lined max) bytes → FitsLine max bytes
open_unended max bytes is = (let p = open_plain newline max bytes is in record { plain = p.0; fits = p.1 })

-- a reader over the same lines, and one behind a call
module _ {S : Type 0} where
  pub IsLineReader-open : (f : LineState S) → IsPieceReader (lined f.pieces.decoder.max) f.pieces → f.skipping ≡ false
      → IsLineReader f
  IsLineReader-open f whole open' = record {
    whole = whole;
    skipped = λ is. absurd (true≢false (sym is ∙ open'));
    goes_on = λ is. absurd (true≢false (sym is ∙ open'));
  }

  pub IsPieceReader-same : (s t : ReaderState S Lines) → t.decoder ≡ s.decoder → IsPieceReader (lined s.decoder.max) t
      → IsPieceReader (lined t.decoder.max) t
  IsPieceReader-same s t same = subst (λ d. IsPieceReader (lined d.max) t) (sym same)

  pub SkipsLine-whole : (remaining : S → Option (List ℕ)) (s t : LineState S) (answer : Result ℕ Error)
      → SkipsLine remaining s answer t → IsLineReader t
  SkipsLine-whole remaining s t (Ok count) k = IsLineReader-open t k.drops.whole k.skipping
  SkipsLine-whole remaining s t (Err e) k = record {
    whole = k.drops.whole;
    skipped = λ _. k.drops.answers.1;
    goes_on = λ _. k.drops.answers.2;
  }

-- what one call comes to
module _ {S : Type 0} (remaining : S → Option (List ℕ)) where
  abbrev pub NextOpen : LineState S → LineAnswer → LineState S → Type 0
  NextOpen s answer t =
      NextPiece remaining (lined s.pieces.decoder.max) s.pieces (piece_answer answer) t.pieces × (t.skipping ≡ false)

  module _ (s t : LineState S) (answer : LineAnswer) where
    -- where no line is being skipped it is one of a reader of pieces
    pub NextLine-of : s.skipping ≡ false → NextOpen s answer t → NextLine remaining s answer t
    NextLine-of open' (next, after) = inl (s, inl (open', refl), next, after)

    -- else that is skipped first
    pub NextLine-behind : s.skipping ≡ true → (m : LineState S) (count : ℕ) → SkipsLine remaining s (Ok count) m
        → NextOpen m answer t → NextLine remaining s answer t
    NextLine-behind is m count skips (next, after) = inl (m, inr (is, count, skips), next, after)

    -- by whether one is
    pub by_skipping : (P : Type 0) → (s.skipping ≡ false → NextOpen s answer t → P)
        → ((m : LineState S) (count : ℕ) → s.skipping ≡ true → SkipsLine remaining s (Ok count) m → NextOpen m answer t → P)
        → ((e : Error) → s.skipping ≡ true → SkipsLine remaining s (Err e) t → answer ≡ Err (Io e) → P)
        → NextLine remaining s answer t → P
    by_skipping P plain first still (inl (m, inl (open', same), next, after)) =
        plain open' (subst (λ x. NextOpen x answer t) same (next, after))
    by_skipping P plain first still (inl (m, inr (is, count, skips), next, after)) = first m count is skips (next, after)
    by_skipping P plain first still (inr (is, e, skips, fails)) = still e is skips fails

    pub NextLine-open : s.skipping ≡ false → NextLine remaining s answer t → NextOpen s answer t
    NextLine-open open' = by_skipping (NextOpen s answer t) (λ _ next. next)
        (λ m count is skips next. absurd (true≢false (sym is ∙ open'))) (λ e is skips fails. absurd (true≢false (sym is ∙ open')))

    pub NextOpen-whole : NextOpen s answer t → IsLineReader t
    NextOpen-whole (next, after) =
        IsLineReader-open t (IsPieceReader-same s.pieces t.pieces next.went.decoder next.whole) after

  pub NextLine-whole : (s t : LineState S) (answer : LineAnswer) → NextLine remaining s answer t → IsLineReader t
  NextLine-whole s t answer = by_skipping s t answer (IsLineReader t) (λ _. NextOpen-whole s t answer)
      (λ m count is skips. NextOpen-whole m t answer) (λ e is skips fails. SkipsLine-whole remaining s t (Err e) skips)

  pub NextBufferedLine-whole : (s t : LineState S) (found : Option (List ℕ)) → IsLineReader s
      → NextBufferedLine remaining s found t
      → IsLineReader t
  NextBufferedLine-whole s t (Some line) whole n = NextOpen-whole s t (Ok (Some line)) (n.piece.0, n.skipping ∙ n.open')
  NextBufferedLine-whole s t None whole n =
      let stays = n.piece.0 in
      record {
        whole = IsPieceReader-same s.pieces t.pieces (ap (λ x. x.decoder) stays.same) stays.whole;
        skipped = λ is. ap (λ x. rest x) stays.same ∙ whole.skipped (sym n.skipping ∙ is);
        goes_on = λ is. ap (λ x. x.ended) stays.same ∙ whole.goes_on (sym n.skipping ∙ is);
      }
