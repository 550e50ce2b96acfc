-- Pieces that several bytes end.
use Rattle.std.specs.Prelude.{◌≡◌, ℕ, ◌+◌, ◌<◌, ◌≤◌, List, ◌++◌, length}
use Rattle.memchr.specs.Find.{Nowhere, OccursAt}
use Rattle.piece_reader.specs.declared.delimited.TooLong.{TooLong}
use Rattle.piece_reader.specs.Grammar.{Grammar}

-- however the bytes go on, the end stands at none of so many first places
abbrev pub NeverEnds : List ℕ → ℕ → List ℕ → Type 0
NeverEnds end count bytes = (more : List ℕ) → Nowhere (OccursAt (bytes ++ more) end) 0 count

-- a piece is a payload of at most max bytes, and the end, which stands nowhere before; the beginning of none are bytes behind
-- which the end comes at no place up to max; and what stands behind the last end is a piece too, of at most max bytes
abbrev pub terminated : List ℕ → ℕ → Grammar TooLong
terminated end max = record {
  most = max + length end;
  piece = λ bytes payload. (bytes ≡ payload ++ end) × (length payload ≤ max) × Nowhere (OccursAt bytes end) 0 (length payload);
  wrong = λ bytes e. NeverEnds end (max + 1) bytes × (e ≡ record { 0 = max });
  last = λ bytes payload. (payload ≡ bytes) × (length bytes ≤ max);
  cut = λ bytes e. (max < length bytes) × (e ≡ record { 0 = max });
}

-- these bytes were looked at: the end stands nowhere in them, and they may still be a piece's
abbrev pub IsSearched : List ℕ → ℕ → List ℕ → Type 0
IsSearched end max bytes = (length bytes < max + length end) × Nowhere (OccursAt bytes end) 0 (length bytes)
