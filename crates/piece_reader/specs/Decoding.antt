-- What the calls of a decoder answer.
use Rattle.std.specs.Prelude.{◌≡◌, ℕ, ◌+◌, ◌<◌, ◌≤◌, ◌⊎◌, List, length, take, drop}
use Rattle.piece_reader.specs.declared.decoder.End.{End}
use Rattle.piece_reader.specs.declared.decoder.End.TheVariants as end
use Rattle.piece_reader.specs.declared.decoder.Found.{Found}
use Rattle.piece_reader.specs.declared.decoder.Found.TheVariants.{Piece, More, Wrong}
use Rattle.piece_reader.specs.declared.decoder.Span.{Span}
use Rattle.piece_reader.specs.Grammar.{Grammar, IsOpen, IsOpenBelow}

-- the bytes there
abbrev pub bytes_at : Span → List ℕ → List ℕ
bytes_at span bytes = take span.len (drop span.from bytes)

-- the first of these bytes are a piece, with the payload there
pub record IsPiece {W : Type 0} (g : Grammar W) (bytes : List ℕ) (span : Span) (used : ℕ) : Type 0 where
  pub inside : used ≤ length bytes
  pub within : span.from + span.len ≤ used
  pub is : g.piece (take used bytes) (bytes_at span bytes)

-- of so many first bytes that were handed out the last are a piece, and its payload is there; or they are a last one, and all
-- that there is. So this holds of the place that the last step answered, and of one that an earlier step answered only where it
-- shows just the same. Where a byte ends a piece, the end of its payload is one too
pub record IsLent {W : Type 0} (g : Grammar W) (handed : ℕ) (bytes : List ℕ) (span : Span) : Type 0 where
  pub start : ℕ
  pub after : start ≤ span.from
  pub within : span.from + span.len ≤ handed
  pub inside : handed ≤ length bytes
  pub is : g.piece (drop start (take handed bytes)) (bytes_at span bytes)
      ⊎ ((start ≡ 0) × (handed ≡ length bytes) × IsOpen g bytes × g.last bytes (bytes_at span bytes))

-- what each answer of `decode` means
abbrev pub Decodes : {W : Type 0} → Grammar W → List ℕ → Found W → Type 0
Decodes g bytes (Piece span used) = IsPiece g bytes span used
Decodes g bytes (More n) = (length bytes < n) × (n ≤ g.most) × IsOpenBelow g n bytes
Decodes g bytes (Wrong e) = g.wrong bytes e

-- a fact of how many bytes are asked for, where the answer settles nothing
abbrev pub OnMore : {W : Type 0} → Found W → (ℕ → Type 0) → Type 0
OnMore (Piece span used) P = Unit {0}
OnMore (More n) P = P n
OnMore (Wrong e) P = Unit {0}

-- what each answer of `at_end` means
abbrev pub DecodesAtEnd : {W : Type 0} → Grammar W → List ℕ → End W → Type 0
DecodesAtEnd g bytes (end.Last span) = (span.from + span.len ≤ length bytes) × g.last bytes (bytes_at span bytes)
DecodesAtEnd g bytes (end.Wrong e) = g.cut bytes e
