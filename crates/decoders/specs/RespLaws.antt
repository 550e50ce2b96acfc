-- The pieces of RESP are told apart in one way.
use Rattle.std.specs.Prelude.{ℕ, ◌<◌, ◌^◌}
use Rattle.codec.specs.Delimited.{delimited}
use Rattle.codec.specs.DelimitedLaws.{delimited_lawful}
use Rattle.codec.specs.EndedLaws.{ended_lawful}
use Rattle.codec.specs.FirstByteLaws.{either_lawful}
use Rattle.codec.specs.Ended.{ended}
use Rattle.codec.specs.Grammar.{IsLawful}
use Rattle.codec.specs.HeaderFormat.{length_prefixed}
use Rattle.codec.specs.HeaderFormatLaws.{length_prefixed_lawful}
use Rattle.codec.specs.Scanning.{scanned}
use Rattle.codec.specs.ScanningLaws.{scanned_headers}
use Rattle.codec.specs.ShowingLaws.{showing_lawful}
use Rattle.codec.specs.Trimming.{trimming}
use Rattle.codec.specs.TrimmingLaws.{trimming_lawful}
use Rattle.decoders.specs.Nullable.{nullable}
use Rattle.decoders.specs.NullableLaws.{nullable_small}
use Rattle.decoders.specs.Resp.{behind_kind, resp, resp_lines}

pub lines_lawful : (max : ℕ) → IsLawful (resp_lines max)
lines_lawful max = showing_lawful behind_kind (trimming (delimited 10 max))
    (trimming_lawful (delimited 10 max) (delimited_lawful 10 max))

pub resp_lawful : (max : ℕ) → max < 2 ^ 62 → IsLawful (resp max)
resp_lawful max fits = either_lawful 36 (length_prefixed (scanned (nullable max))) (ended (resp_lines max))
    (length_prefixed_lawful (scanned (nullable max)) (scanned_headers (nullable max) (nullable_small max fits)))
    (ended_lawful (resp_lines max) (lines_lawful max))
