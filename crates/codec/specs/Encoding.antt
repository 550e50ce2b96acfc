-- What a protocol says of what is written.
use Rattle.std.specs.Prelude.{◌≡◌, ℕ, ◌<◌, ◌≤◌, List, ◌++◌, length, take}
use Rattle.std.specs.List.{flat_map}
use Rattle.codec.specs.declared.header_bytes.HeaderBytes.{HeaderBytes}

-- which payloads are taken, what stands before and behind one, and which are refused, and why. No piece takes more than
-- `most` bytes
pub record Encoding (W : Type 0) : Type 1 where
  pub most : ℕ
  pub takes : List ℕ → Type 0
  pub header : List ℕ → List ℕ
  pub tail : List ℕ
  pub refuses : List ℕ → W → Type 0

-- the payload's piece
abbrev pub coded : {W : Type 0} → Encoding W → List ℕ → List ℕ
coded e payload = e.header payload ++ (payload ++ e.tail)

-- the pieces of these payloads, one behind the other
abbrev pub all_coded : {W : Type 0} → Encoding W → List (List ℕ) → List ℕ
all_coded e payloads = flat_map (coded e) payloads

-- the payload is taken, and these bytes stand before it
pub record IsHeaderBytes {W : Type 0} (e : Encoding W) (payload : List ℕ) (header : HeaderBytes) : Type 0 where
  pub takes : e.takes payload
  pub bytes : take header.len header.bytes ≡ e.header payload

-- a piece takes some bytes, and at most so many, and a payload isn't taken and refused
pub record IsWritable {W : Type 0} (e : Encoding W) : Type 0 where
  pub some : (payload : List ℕ) → 0 < length (coded e payload)
  pub most : (payload : List ℕ) → e.takes payload → length (coded e payload) ≤ e.most
  pub apart : (payload : List ℕ) (w : W) → e.takes payload → ¬ (e.refuses payload w)
