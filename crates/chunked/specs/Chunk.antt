-- What a writer of a body writes.
use Rattle.std.specs.Prelude.{◌≡◌, ℕ, zero, suc, ◌+◌, ◌^◌, ◌<◌, List, [], ◌∷◌, ◌++◌, length, map, flat_map}
use Rattle.std.specs.Char.{digit_char}
use Rattle.std.specs.Int.Digits.{digits_of}
use Rattle.std.specs.List.{concat, All}
use Rattle.chunked.specs.Body.{fields_bytes, line_end}

-- a size in hexadecimal digits, which are lower-case and begin with no 0
abbrev pub size_digits : ℕ → List ℕ
size_digits size = map digit_char (digits_of 16 size)

-- a payload's chunk: the line of its size, the payload, and the end of a line
abbrev pub chunk : List ℕ → List ℕ
chunk payload = size_digits (length payload) ++ line_end (payload ++ line_end [])

-- the beginning of a chunk of which so many bytes are still to come: the line of its size, and the payload so far
abbrev pub chunk_begun : ℕ → List ℕ → List ℕ
chunk_begun due payload = size_digits (length payload + due) ++ line_end payload

-- what follows in a chunk of which so many bytes are still to come: the end of a line, where none is
abbrev pub chunk_end : ℕ → List ℕ
chunk_end zero = line_end []
chunk_end (suc more) = []

-- the end of a body: the last chunk, the lines of its trailers, and an empty line
abbrev pub body_end : List (List ℕ) → List ℕ
body_end fields = 48 ∷ line_end (fields_bytes fields)

-- a payload that a chunk can carry
abbrev pub IsCarried : List ℕ → Type 0
IsCarried payload = (0 < length payload) × (length payload < 2 ^ 62)

-- these bytes are chunks, of which each carries some of this payload
pub record IsChunks (bytes payload : List ℕ) : Type 0 where
  pub payloads : List (List ℕ)
  pub carried : All IsCarried payloads
  pub equal : bytes ≡ flat_map chunk payloads
  pub joined : payload ≡ concat payloads

-- these bytes are chunks, and then the beginning of one of which so many bytes are still to come, which carry this payload
pub record HasBegun (due : ℕ) (bytes payload : List ℕ) : Type 0 where
  pub before : List ℕ
  pub carried : List ℕ
  pub chunks : IsChunks before carried
  pub part : List ℕ
  pub equal : bytes ≡ before ++ chunk_begun due part
  pub joined : payload ≡ carried ++ part
  pub small : length part + due < 2 ^ 62
