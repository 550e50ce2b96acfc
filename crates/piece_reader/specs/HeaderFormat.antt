-- Pieces that have a header.
use Rattle.std.specs.Prelude.{◌≡◌, ℕ, ◌+◌, ◌<◌, ◌≤◌, ◌^◌, List, [], ◌++◌, length, max, min, take, drop}
use Rattle.piece_reader.specs.declared.header.Header.{Header}
use Rattle.piece_reader.specs.declared.header.Header.TheVariants.{Short, Sized, Bad}
use Rattle.piece_reader.specs.declared.header_error.HeaderError.{HeaderError}
use Rattle.piece_reader.specs.declared.header_error.HeaderError.TheVariants.{NoHeader, TooLong, NoTail, Truncated}
use Rattle.piece_reader.specs.Grammar.{Grammar}

-- what a header says at the front of some bytes; how many bytes a header and a payload have at most; and what stands behind a
-- payload
pub record HeaderFormat : Type 0 where
  pub header : List ℕ → Header
  pub most_header : ℕ
  pub max : ℕ
  pub tail : List ℕ

-- what a header says is said by its bytes alone, and stays so, whatever comes behind; a header has a byte, and at most so many;
-- and so has what is none yet
pub record IsHeaderFormat (h : HeaderFormat) : Type 0 where
  pub sized : (bytes more : List ℕ) (len used : ℕ) → h.header bytes ≡ Sized len used
      → h.header (bytes ++ more) ≡ Sized len used
  pub front : (bytes : List ℕ) (len used : ℕ) → h.header bytes ≡ Sized len used
      → h.header (take used bytes) ≡ Sized len used
  pub bad : (bytes more : List ℕ) → h.header bytes ≡ Bad → h.header (bytes ++ more) ≡ Bad
  pub some : (bytes : List ℕ) (len used : ℕ) → h.header bytes ≡ Sized len used
      → (0 < used) × (used ≤ length bytes) × (used ≤ h.most_header)
  pub short : (bytes : List ℕ) → h.header bytes ≡ Short → length bytes < h.most_header
  pub nothing : h.header [] ≡ Short
  pub small : h.most_header + h.max + length h.tail < 2 ^ 63

-- these bytes want one more until the header is there; then they want the payload and the first byte of the tail; and behind
-- these one more
abbrev pub AsksPayload : HeaderFormat → List ℕ → ℕ → Type 0
AsksPayload h bytes n = (h.header bytes ≡ Short → n ≡ 1 + length bytes)
    × ((len used : ℕ) → h.header bytes ≡ Sized len used → n ≡ max (1 + length bytes) (used + len + min (length h.tail) 1))

-- an offer has room for the payload and the first byte of the tail, once the header is there
abbrev pub OffersPayload : HeaderFormat → ℕ → List ℕ → Type 0
OffersPayload h offer bytes =
    (len used : ℕ) → h.header bytes ≡ Sized len used → used + len + min (length h.tail) 1 ≤ offer

-- however the bytes go on, something else stands where the tail should
abbrev pub NeverFollows : List ℕ → ℕ → List ℕ → Type 0
NeverFollows tail at bytes = (more : List ℕ) → ¬ (take (length tail) (drop at (bytes ++ more)) ≡ tail)

-- a fact where a header may come still, or is there
abbrev pub UnlessBad : Header → Type 0 → Type 0
UnlessBad Short P = P
UnlessBad (Sized len used) P = P
UnlessBad Bad P = Unit {0}

-- what is wrong: the header is none; it says too much; or something else stands where the tail should
abbrev pub BeginsNone : HeaderFormat → List ℕ → HeaderError → Type 0
BeginsNone h bytes NoHeader = h.header bytes ≡ Bad
BeginsNone h bytes (TooLong len) = (used : ℕ) × (h.header bytes ≡ Sized len used) × (h.max < len)
BeginsNone h bytes NoTail =
    (len : ℕ) × (used : ℕ) × (h.header bytes ≡ Sized len used) × (len ≤ h.max) × NeverFollows h.tail (used + len) bytes
BeginsNone h bytes (Truncated have) = ⊥

-- a piece is a header, the payload that it says, and the tail
abbrev pub length_prefixed : HeaderFormat → Grammar HeaderError
length_prefixed h = record {
  most = h.most_header + h.max + length h.tail;
  piece = λ bytes payload. (used : ℕ) × (h.header bytes ≡ Sized (length payload) used) × (length payload ≤ h.max)
      × (drop used bytes ≡ payload ++ h.tail);
  wrong = BeginsNone h;
  last = λ bytes payload. ⊥;
  cut = λ bytes e. e ≡ Truncated (length bytes);
}
