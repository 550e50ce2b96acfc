-- What the steps of a reader of pieces do.
use Rattle.std.specs.Prelude.{◌≡◌, ℕ, ◌+◌, ◌<◌, ◌≤◌, ◌⊎◌, List, [], length, Bool, true, false, Option, None, Some, Result, Ok, Err}
use Rattle.std.specs.declared.io.Error.{Error}
use Rattle.buffer_redux.specs.Asking.{AskedOver}
use Rattle.piece_reader.specs.declared.decoder.Found.{Found}
use Rattle.piece_reader.specs.declared.decoder.Found.TheVariants as found
use Rattle.piece_reader.specs.declared.decoder.Span.{Span}
use Rattle.piece_reader.specs.declared.error.NextError.{NextError}
use Rattle.piece_reader.specs.declared.error.NextError.TheVariants.{Wrong, Io}
use Rattle.piece_reader.specs.Decoding.{IsPiece, bytes_at}
use Rattle.piece_reader.specs.Grammar.{Grammar, IsOpenBelow}
use Rattle.piece_reader.specs.NextPiece.{AsksGive, PiecesWent, NoFault, Faulted, NoEnd, MetEnd}
use Rattle.piece_reader.specs.PieceReader.{ReaderState, IsPieceReader, left_of, rest}

-- what stands at the front of what is left was looked at, and handed out where it is a piece; or that isn't there yet
abbrev pub Takes : {S D W : Type 0} → Grammar W → ReaderState S D → Found W → ReaderState S D → Type 0
Takes g s (found.Piece span used) t = IsPiece g (rest s) span used × (t ≡ record s { handed = s.handed + used; seen = 0 })
Takes g s (found.More need) t =
    (length (rest s) < need) × (need ≤ g.most) × IsOpenBelow g need (rest s) × (t ≡ record s { seen = length (rest s) })
Takes g s (found.Wrong e) t = g.wrong (rest s) e × (t ≡ s)

-- these are fewer than n bytes, and an offer has room for as many; where these are none it is the whole buffer
abbrev pub IsShortOf : ℕ → ℕ → ℕ → List ℕ → Type 0
IsShortOf n capacity offer bytes = (length bytes < n) × (n ≤ offer) × (bytes ≡ [] → offer ≡ capacity)

-- the stream was asked until n bytes are left, unless it has ended, the last time for as many; nothing else was done
pub record AsksFor {S D W : Type 0} (remaining : S → Option (List ℕ)) (g : Grammar W) (n : ℕ) (s : ReaderState S D)
    (answer : Result Bool Error) (t : ReaderState S D) : Type 0 where
  pub went : PiecesWent remaining g.most s [] t
  pub handed : t.handed ≡ 0
  pub seen : t.seen ≡ s.seen
  pub ended : t.ended ≡ s.ended
  pub asked : ((s.ended ≡ true) × (t.reader.log ≡ s.reader.log))
      ⊎ ((s.ended ≡ false) × AskedOver (IsShortOf n s.reader.block.capacity t.reader.log.reads.offer) (left_of s) (left_of t))
  pub more : answer ≡ Ok true → (n ≤ length (rest t)) × NoEnd s t × NoFault s t
      × AsksGive s t
  pub end : answer ≡ Ok false → (length (rest t) < n) × MetEnd s t × NoFault s t
  pub failed : (e : Error) → answer ≡ Err e → (length (rest t) < n) × (s.ended ≡ false) × NoEnd s t × Faulted s e t
  pub whole : IsPieceReader g t

-- what is left is handed out as the last piece, or is none, where the stream ended
abbrev pub TakesEnd : {S D W : Type 0} → Grammar W → ReaderState S D → Result (Option Span) (NextError W) → ReaderState S D
    → Type 0
TakesEnd g s (Ok None) t = (rest s ≡ []) × (t ≡ record s { ended = false })
TakesEnd g s (Ok (Some span)) t =
    (0 < length (rest s)) × (span.from + span.len ≤ length (rest s)) × g.last (rest s) (bytes_at span (rest s))
    × (t ≡ record s { handed = length (rest s); seen = 0; ended = true })
TakesEnd g s (Err (Wrong e)) t = (0 < length (rest s)) × g.cut (rest s) e × (t ≡ s)
TakesEnd g s (Err (Io e)) t = ⊥
