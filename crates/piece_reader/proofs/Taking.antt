-- What is true of a reader of pieces after a look at what is left.
use Rattle.std.proofs.Common.{◌≡◌, ℕ, ◌+◌, ◌≤◌, [], length, take, drop, Bool, true, sym, ap, subst, arith, length-drop}
use Rattle.std.proofs.lemmas.List.{nil_from_length, take_all}
use Rattle.piece_reader.specs.declared.decoder.Span.{Span}
use Rattle.piece_reader.specs.Decoding.{IsPiece}
use Rattle.piece_reader.specs.Grammar.{Grammar, IsLawful, IsOpen}
use Rattle.piece_reader.specs.GrammarLaws.{open_take}
use Rattle.piece_reader.specs.PieceReader.{ReaderState, IsPieceReader, rest}

-- other bytes were handed out, and others looked at
pub whole_as : {S D W : Type 0} (g : Grammar W) (f : ReaderState S D) → IsPieceReader g f → (handed seen : ℕ) (ended : Bool)
    → handed + seen ≤ length f.reader.block.bytes → IsOpen g (take seen (drop handed f.reader.block.bytes))
    → (ended ≡ true → drop handed f.reader.block.bytes ≡ [])
    → IsPieceReader g (record f { handed = handed; seen = seen; ended = ended })
whole_as g f whole handed seen ended within open' none = record {
  block = whole.block;
  plain = whole.plain;
  capacity = whole.capacity;
  limit = whole.limit;
  ahead = whole.ahead;
  handed = within;
  searched = open';
  ended = none;
}

module _ {S D W : Type 0} (g : Grammar W) (law : IsLawful g) (f : ReaderState S D) (whole : IsPieceReader g f) where
  -- a piece was handed out
  pub taken_whole : (span : Span) (used : ℕ) → IsPiece g (rest f) span used
      → IsPieceReader g (record f { handed = f.handed + used; seen = 0 })
  taken_whole span used piece =
      let left = length-drop f.handed f.reader.block.bytes in
      whole_as g f whole (f.handed + used) 0 f.ended (omega (arith, whole.handed, piece.inside, left))
      (open_take g law (drop (f.handed + used) f.reader.block.bytes))
      (λ ended. nil_from_length (drop (f.handed + used) f.reader.block.bytes)
      (omega (arith, ap length (whole.ended ended), left, length-drop (f.handed + used) f.reader.block.bytes)))

  -- what is left settles nothing
  pub looked_whole : (seen : ℕ) → seen ≡ length (rest f) → IsOpen g (rest f) → IsPieceReader g (record f { seen = seen })
  looked_whole seen is open' =
      whole_as g f whole f.handed seen f.ended
      (omega (arith, is, whole.handed, length-drop f.handed f.reader.block.bytes))
      (subst (IsOpen g) (sym (take_all seen (rest f) (omega (arith, is)))) open') whole.ended

  -- all that is buffered was handed out, at the end
  pub ended_whole : (len : ℕ) → len ≡ length f.reader.block.bytes
      → IsPieceReader g (record f { handed = len; seen = 0; ended = true })
  ended_whole len is =
      whole_as g f whole len 0 true (omega (arith, is)) (open_take g law (drop len f.reader.block.bytes))
      (λ _. nil_from_length (drop len f.reader.block.bytes) (omega (arith, is, length-drop len f.reader.block.bytes)))
