-- What a call of a reader of lines hands out stands in front in what was left.
use Rattle.std.proofs.Common.{◌≡◌, ℕ, List, [], ◌∷◌, ◌++◌, Bool, true, false, Option, Result, Ok, Err, Some, None, IfOk, drop, length, take, sym, ap, ◌∙◌, append_assoc, append-nil}
use Rattle.std.proofs.Math.Seq.{drop-append_seam}
use Rattle.std.specs.Prelude.{MatchBool}
use Rattle.std.specs.declared.io.Error.{Error}
use Rattle.piece_reader.specs.NextPieceLaws.{NextPiece-front, fronts_agree}
use Rattle.piece_reader.specs.PiecesWentLaws.{PiecesWent-unasked}
use Rattle.piece_reader.specs.PieceReader.{rest}
use Rattle.piece_reader.specs.Trimming.{IsTrimmed}
use Rattle.piece_reader.specs.TrimmingLaws.{trimmed_front}
use Rattle.line_reader.specs.declared.error.LineError.TheVariants.{Io}
use Rattle.line_reader.specs.Lines.{newline}
use Rattle.line_reader.specs.LineReader.{IsLineReader, LineState, lined}
use Rattle.line_reader.specs.NextLine.{LineAnswer, NextBufferedLine, NextLine, NextTrimmed, Trims}
use Rattle.line_reader.specs.NextLineLaws.{IsHanded-end, by_skipping}
use Rattle.line_reader.specs.SkipLine.{SkipsLine}

-- what is shown of a line stands in front in it
shown_front : (ended : Bool) (line shown : List ℕ) → MatchBool ended (shown ≡ line) (IsTrimmed line shown)
    → (more : List ℕ) × (line ≡ shown ++ more)
shown_front true line shown is = ([], sym is ∙ sym (append-nil shown))
shown_front false line shown is = trimmed_front line shown is

module _ {S : Type 0} (remaining : S → Option (List ℕ)) (s t : LineState S) where
  -- where a line is being skipped, nothing is left
  line_front : (line : List ℕ) → IsLineReader s → NextLine remaining s (Ok (Some line)) t
      → (more got : List ℕ) × (line ++ more ≡ rest s.pieces ++ got)
  line_front line whole = by_skipping remaining s t (Ok (Some line)) ((more got : List ℕ) × (line ++ more ≡ rest s.pieces ++ got))
      (λ open' next. NextPiece-front remaining (lined s.pieces.decoder.max) (λ bytes payload is. (newline ∷ [], is.2))
      (λ bytes payload is. is) s.pieces t.pieces line next.0)
      (λ m count is skips next. ([], line, append-nil line ∙ ap (λ l. l ++ line) (sym (whole.skipped is))))
      (λ e is skips fails. let odd : Ok (Some line) ≡ Err (Io e) = fails in cc)

  -- it begins as what was left does
  pub NextLine-begins : (line : List ℕ) → IsLineReader s → NextLine remaining s (Ok (Some line)) t
      → take (length line) (rest s.pieces) ≡ take (length (rest s.pieces)) line
  NextLine-begins line whole next =
      let front = line_front line whole next in
      fronts_agree line front.0 (rest s.pieces) front.1 front.2

  -- so does what is shown of it
  trimmed_begins : (shown : List ℕ) → IsLineReader s → (answer : LineAnswer) → NextLine remaining s answer t
      → Trims answer (Ok (Some shown)) t.pieces.ended
      → take (length shown) (rest s.pieces) ≡ take (length (rest s.pieces)) shown
  trimmed_begins shown whole (Ok (Some line)) next trims =
      let front = line_front line whole next in
      let inside = shown_front t.pieces.ended line shown trims in
      fronts_agree shown (inside.0 ++ front.0) (rest s.pieces) front.1
      (sym (append_assoc shown inside.0 front.0) ∙ ap (λ l. l ++ front.0) (sym inside.1) ∙ front.2)
  trimmed_begins shown whole (Ok None) next trims = (let odd : Ok (Some shown) ≡ Ok None = trims in cc)
  trimmed_begins shown whole (Err e) next trims = (let odd : Ok (Some shown) ≡ Err e = trims in cc)

  pub NextTrimmed-begins : (shown : List ℕ) → IsLineReader s → NextTrimmed remaining s (Ok (Some shown)) t
      → take (length shown) (rest s.pieces) ≡ take (length (rest s.pieces)) shown
  NextTrimmed-begins shown whole n = trimmed_begins shown whole n.whole n.next n.trims

  -- a line that was buffered stood there with its end
  pub NextBufferedLine-there : (line : List ℕ) → t.pieces.ended ≡ false → NextBufferedLine remaining s (Some line) t
      → (more : List ℕ) × (rest s.pieces ≡ line ++ newline ∷ more)
  NextBufferedLine-there line going n =
      let next = n.piece.0 in
      let all = PiecesWent-unasked remaining _ s.pieces t.pieces next.bytes next.went (ap (λ r. r.log) n.piece.1) in
      let end = IsHanded-end s.pieces.decoder.max s.pieces t.pieces line next.bytes next.answers.1 going in (
        rest t.pieces,
        sym all ∙ ap (λ l. l ++ rest t.pieces) end ∙ append_assoc line (newline ∷ []) (rest t.pieces),
      )

  -- what is left is what was left, then what was given, but for what was skipped
  pub SkipsLine-left : (answer : Result ℕ Error) → SkipsLine remaining s answer t → IfOk answer (λ n. (got : List ℕ)
      × (t.pieces.reader.log.reads.given ≡ s.pieces.reader.log.reads.given ++ got)
      × (rest t.pieces ≡ drop n (rest s.pieces ++ got)))
  SkipsLine-left (Ok n) k =
      let bytes = k.drops.bytes in
      let hands = k.drops.went.hands in (
        hands.got,
        hands.given,
        sym (drop-append_seam bytes (rest t.pieces)) ∙ ap (λ m. drop m (bytes ++ rest t.pieces)) (sym k.drops.answers.0)
            ∙ ap (λ l. drop n l) hands.equal,
      )
  SkipsLine-left (Err e) k = tt
