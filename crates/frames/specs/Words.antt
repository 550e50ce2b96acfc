-- Words of std and of the crates below that contracts and proofs here are made of.
pub use Rattle.buffer_redux.specs.BufReader.{RanDry}
pub use Rattle.buffer_redux.specs.BufWriter.{WritesInOrder}
pub use Rattle.buffer_redux.specs.StreamLog.{StreamLog}
pub use Rattle.codec.specs.Decoding.{IsLent, bytes_at}
pub use Rattle.codec.specs.Grammar.{Begins, Grammar, IsOpen}
pub use Rattle.codec.specs.NextPiece.{load_answer}
pub use Rattle.codec.specs.PieceReader.{ReaderState, rest, room_for}
pub use Rattle.codec.specs.Texts.{HasPieces, IsPieces}
pub use Rattle.codec.specs.declared.Span.{Span}
pub use Rattle.forward.specs.Filter.{FilterAsks, FilterRules, IsLawful}
pub use Rattle.forward.specs.Forward.{ForwardAnswers, NoneFailed, StopsBy}
pub use Rattle.forward.specs.Prompt.{RunsPromptly}
pub use Rattle.forward.specs.Streams.{WriteGaveUp}
pub use Rattle.forward.specs.Target.{failure_count}
pub use Rattle.forward.specs.declared.error.Stopped.{Stopped}
pub use Rattle.frame_reader.specs.Framed.{SplitsIntoFrames, framed}
pub use Rattle.frame_reader.specs.Frames.{Fits, IsCutShort, frame, frames, header}
pub use Rattle.frames.specs.declared.fault.InputFault.{InputFault}
pub use Rattle.line_reader.specs.LineReader.{LineState, lined}
pub use Rattle.line_reader.specs.Lines.{FitsLine, HasLines, IsLine, newline, with_newline, with_newlines}
pub use Rattle.programs.specs.declared.error.RunError.{RunError}
pub use Rattle.programs.specs.Streams.{AllSent, GaveNothing, MetNoFault, OverCount, ReadFailed, ReceivedFlushed, RefusedBeforeCalls}
pub use Rattle.std.specs.IoError.{error_kind}
pub use Rattle.std.specs.List.{All}
pub use Rattle.std.specs.declared.io.Error.{Error}
