-- Headers as they are written.
use Rattle.std.specs.Prelude.{◌≡◌, ℕ, ◌+◌, ◌<◌, ◌≤◌, List, length}
use Rattle.codec.specs.Encoding.{Encoding}
use Rattle.piece_reader.specs.Grammar.{Grammar}
use Rattle.piece_reader.specs.HeaderFormat.{HeaderFormat}
use Rattle.piece_reader.specs.declared.header_error.HeaderError.{HeaderError}
use Rattle.piece_reader.specs.declared.header_error.HeaderError.TheVariants.{TooLong}
use Rattle.piece_reader.specs.declared.header.Header.TheVariants.{Sized}

-- what stands before a payload of so many bytes, and how many are written at most
pub record HeadersOut : Type 0 where
  pub header : ℕ → List ℕ
  pub max : ℕ

-- no more are written than are read, and each header says what it was written for
pub record IsReadBack (h : HeaderFormat) (o : HeadersOut) : Type 0 where
  pub within : o.max ≤ h.max
  pub again : (len : ℕ) → len ≤ o.max → h.header (o.header len) ≡ Sized len (length (o.header len))

-- a header, the payload, and the tail
abbrev pub length_prefixed_out : HeaderFormat → HeadersOut → Encoding HeaderError
length_prefixed_out h o = record {
  most = h.most_header + h.max + length h.tail;
  takes = λ payload. length payload ≤ o.max;
  header = λ payload. o.header (length payload);
  tail = h.tail;
  refuses = λ payload e. (o.max < length payload) × (e ≡ TooLong (length payload));
}

-- these bytes are a piece with this payload, and say this
pub record IsItemRead {W I : Type 0} (g : Grammar W) (item_of : List ℕ → I) (item : I) (payload bytes : List ℕ) : Type 0 where
  pub piece : g.piece bytes payload
  pub says : item_of bytes ≡ item
