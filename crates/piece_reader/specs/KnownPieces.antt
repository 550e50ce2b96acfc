-- What a reader of pieces hands out of a stream that is known.
use Rattle.std.specs.Prelude.{◌≡◌, ℕ, ◌<◌, ◌^◌, ◌⊎◌, List, [], true, Option, Some}
use Rattle.std.specs.Io.KnownBytes.{prepend_known}
use Rattle.std.specs.IoError.{error_kind}
use Rattle.std.specs.declared.io.Error.{Error}
use Rattle.std.specs.declared.io.ErrorKind.TheVariants.{InvalidInput}
use Rattle.buffer_redux.specs.Faults.{IsMemory}
use Rattle.piece_reader.specs.Grammar.{Grammar}
use Rattle.piece_reader.specs.PieceReader.{ReaderState, rest, room_for}
use Rattle.piece_reader.specs.Texts.{HasPieces}

-- the bytes that weren't handed out, where they are known: those that are buffered, and then those that the inner reader is
-- known to have left
abbrev pub ahead_of : {S D : Type 0} → (S → Option (List ℕ)) → ReaderState S D → Option (List ℕ)
ahead_of remaining f = prepend_known (rest f) (remaining f.reader.inner)

-- what wasn't handed out is known, and a text of pieces with these payloads; where the stream has ended there are none
pub record HasLeft {S D W : Type 0} (remaining : S → Option (List ℕ)) (g : Grammar W) (f : ReaderState S D)
    (payloads : List (List ℕ)) : Type 0 where
  pub text : List ℕ
  pub known : ahead_of remaining f ≡ Some text
  pub has : HasPieces g text payloads
  pub none : f.ended ≡ true → payloads ≡ []

-- memory was wanted, or for pieces of at most so many bytes a larger buffer than there is
abbrev pub BufferRefused : ℕ → Error → Type 0
BufferRefused most e = IsMemory e ⊎ ((error_kind e ≡ InvalidInput) × (2 ^ 62 < room_for 8192 most))
