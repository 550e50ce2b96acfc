-- Frames, and streams of them.
use Rattle.std.specs.Prelude.{◌≡◌, ℕ, ◌+◌, ◌<◌, ◌^◌, ◌≤◌, ◌⊎◌, List, ◌++◌, length, get_or}
use Rattle.std.specs.Int.{w16, to_be_bytes}
use Rattle.std.specs.List.{flat_map}

-- a length in two bytes, the higher first
abbrev pub header : ℕ → List ℕ
header len = to_be_bytes w16 len

-- a payload's frame: its length, and then the payload
abbrev pub frame : List ℕ → List ℕ
frame payload = header (length payload) ++ payload

-- a payload that a frame can carry
abbrev pub Fits : ℕ → List ℕ → Type 0
Fits max payload = length payload ≤ max

-- the frames of these payloads, one behind the other
abbrev pub frames : List (List ℕ) → List ℕ
frames payloads = flat_map frame payloads

-- each of these is a byte
abbrev pub AreBytes : List ℕ → Type 0
AreBytes bytes = (i : ℕ) → get_or bytes i 0 < 256

-- the bytes begin with this length
pub record BeginsWith (len : ℕ) (bytes : List ℕ) : Type 0 where
  pub word : len < 2 ^ 16
  pub more : List ℕ
  pub equal : bytes ≡ header len ++ more

-- how many bytes are asked for: those of the length, and once that is there those of the frame
abbrev pub AsksFrame : List ℕ → ℕ → Type 0
AsksFrame bytes n = (length bytes < 2 → n ≡ 2) × ((len : ℕ) → BeginsWith len bytes → n ≡ 2 + len)

-- an offer has room for the frame that these bytes begin, or for a length where that isn't there
abbrev pub OffersFrame : ℕ → List ℕ → Type 0
OffersFrame offer bytes = (2 ≤ offer) × ((len : ℕ) → BeginsWith len bytes → 2 + len ≤ offer)

-- the bytes begin with a length above max
pub record BeginsAbove (max : ℕ) (bytes : List ℕ) : Type 0 where
  pub len : ℕ
  pub above : max < len
  pub begins : BeginsWith len bytes

-- the bytes are less than a frame whose length is at most max, and not nothing: a part of its length, or of its payload
abbrev pub IsCutShort : ℕ → List ℕ → Type 0
IsCutShort max bytes = (length bytes ≡ 1)
    ⊎ record { len : ℕ; fits : len ≤ max; begins : BeginsWith len bytes; short : length bytes < 2 + len }
