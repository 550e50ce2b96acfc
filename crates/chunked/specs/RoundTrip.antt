-- What a writer of a body wrote.
use Rattle.std.specs.Prelude.{◌≡◌, ℕ, List, ◌++◌}
use Rattle.buffer_redux.specs.Buffered.{Buffered}
use Rattle.buffer_redux.specs.StreamLog.{StreamLog}
use Rattle.buffer_redux.specs.declared.policy.StdPolicy.{StdPolicy}
use Rattle.chunked.specs.ChunkedWriter.{ChunkedWriterState, Finishes, PayloadWent, unbegun}

-- a writer of a body took this payload in, in any writes, and was finished with these trailers: what was received of the buffered
-- writer, then what is buffered, is so many bytes more
pub record WroteBody {S : Type 0} (tells : S → StreamLog) (trace : S → S → Type 0) (first : Buffered S StdPolicy)
    (payload : List ℕ) (fields : List (List ℕ)) (w : ChunkedWriterState S) (last : Buffered S StdPolicy) (wrote : List ℕ)
    : Type 0 where
  pub taken : List ℕ
  pub went : PayloadWent trace (unbegun first) taken payload w
  pub finishes : Finishes tells trace w fields last
  pub gained : last.log.writes.received ++ last.block.bytes ≡ (first.log.writes.received ++ first.block.bytes) ++ wrote
