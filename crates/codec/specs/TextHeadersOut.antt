-- Headers that are text, as they are written.
use Rattle.std.specs.Prelude.{◌+◌, ◌<◌, ◌≤◌, ◌⊎◌, length, slice_index}
use Rattle.codec.specs.TextHeaders.{Words}

-- a header has room for all that stands around a length, and what stands behind one is no digit of it
pub record IsWritten (w : Words) : Type 0 where
  pub few : length w.before + length w.after ≤ 22
  pub no_digit : (slice_index w.after 0 < 48) ⊎ (57 < slice_index w.after 0)
