-- Pieces that a byte ends.
use Rattle.std.specs.Prelude.{◌≡◌, ℕ, ◌+◌, ◌<◌, ◌≤◌, [], ◌∷◌, ◌++◌, length, take}
use Rattle.piece_reader.specs.declared.delimited.TooLong.{TooLong}
use Rattle.piece_reader.specs.Grammar.{Grammar}
use Rattle.piece_reader.specs.Plain.{IsPlain}

-- a piece is a payload of at most max bytes, none of which is an end, and an end; the beginning of none are more bytes without
-- one; and what stands behind the last end is a piece too
abbrev pub delimited : ℕ → ℕ → Grammar TooLong
delimited end max = record {
  most = 1 + max;
  piece = λ bytes payload. IsPlain end payload × (length payload ≤ max) × (bytes ≡ payload ++ end ∷ []);
  wrong = λ bytes e. (max < length bytes) × IsPlain end (take (1 + max) bytes) × (e ≡ record { 0 = max });
  last = λ bytes payload. payload ≡ bytes;
  cut = λ bytes e. ⊥;
}
