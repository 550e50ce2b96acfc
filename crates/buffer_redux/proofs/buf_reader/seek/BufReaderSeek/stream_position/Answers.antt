-- The subtraction fails just where the inner reader's place is less than what is buffered.
use Rattle.std.proofs.Common.{◌≡◌, ◌+◌, ◌<◌, Ok, MatchResult, length, arith}
use Rattle.std.specs.IoError.{error_kind}
use Rattle.std.specs.declared.io.ErrorKind.TheVariants.{InvalidData}
use Rattle.std.proofs.lemmas.Grind.{common_steps}
use Rattle.buffer_redux.proofs.buf_reader.seek.BufReaderSeek.stream_position.Goals as goal

pub returns-clause-asks : goal.returns-clause-asks
returns-clause-asks g c =
    let says : MatchResult c.match-checked_sub.result (λ n. n + length c.self.inside.buf.bytes ≡ c.in_ok-at.at)
    (λ e. (c.in_ok-at.at < length c.self.inside.buf.bytes) × (error_kind e ≡ InvalidData)) =
    grind (arith, common_steps) in
    rw (← c.self.view_is) (Ok c.in_ok-at.at, c.in_ok-at.ensures.told, says)
