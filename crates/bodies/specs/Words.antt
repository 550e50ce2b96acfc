-- Words of std and of the crates below that contracts and proofs here are made of.
pub use Rattle.bodies.specs.declared.decoding.Decoding.{Decoding}
pub use Rattle.bodies.specs.declared.encoding.Encoding.{Encoding}
pub use Rattle.bodies.specs.declared.fault.InputFault.{InputFault}
pub use Rattle.body_reader.specs.Between.{LeavesRoom, PassesMany, EachGave, PassesOnce, TellsOnce}
pub use Rattle.body_reader.specs.BodyReader.{BodyState, BodyWent, Breaks, EndsEarly, IsBodyReader, LooksBehind, ReadsPayload, TookWholeBody, begun, handed_of, taken_count}
pub use Rattle.body_reader.specs.BodyReaderLaws.{BodyWent-joins, BodyWent-none, begun-is}
pub use Rattle.body_reader.specs.Coding.{Leads, LeadsOpen, AskedFor, IsBody}
pub use Rattle.body_reader.specs.CodingLaws.{Leads-joins, Leads-more, Leads-none}
pub use Rattle.body_reader.specs.declared.error.BodyError.{BodyError}
pub use Rattle.buffer_redux.specs.Block.{IsBlock, Plain, usable}
pub use Rattle.buffer_redux.specs.BufReader.{RanDry, ReadsInOrder, ReadsIntoBuf}
pub use Rattle.buffer_redux.specs.BufWriter.{Flushes, WasFlushed, WritesInOrder}
pub use Rattle.buffer_redux.specs.Buffered.{Buffered}
pub use Rattle.buffer_redux.specs.Faults.{IsInterrupt, MetInterrupts, MetInterrupts-joins, OnlyInterrupts-none, SendErrorCaused, SendErrorCaused-after}
pub use Rattle.buffer_redux.specs.LogGrows.{ReadLogGrows, ReadLogGrows-joins}
pub use Rattle.buffer_redux.specs.Policy.{std_read_rules}
pub use Rattle.buffer_redux.specs.ReaderLaws.{ReadsInOrder-fresh, ReadsInOrder-joins, ReadsInOrder-none}
pub use Rattle.buffer_redux.specs.StreamLog.{ReadLog, StreamLog, portion, zero_of_some}
pub use Rattle.buffer_redux.specs.Transfer.{ReadsOnce, Sends}
pub use Rattle.buffer_redux.specs.Unbuffer.{unbuffered}
pub use Rattle.buffer_redux.specs.WriteParts.{PutsIn, SendsFirst, room}
pub use Rattle.buffer_redux.specs.WriterLaws.{WritesInOrder-joins, WritesInOrder-none, WritesInOrder-then}
pub use Rattle.buffer_redux.specs.declared.policy.StdPolicy.{StdPolicy}
pub use Rattle.chunked.specs.Body.{IsBodyOfChunks, line_end}
pub use Rattle.chunked.specs.Chunk.{IsCarried, IsChunks, body_end, chunk, size_digits}
pub use Rattle.chunked.specs.ChunkedWriter.{ChunkedWriterState, ChunksWent, Finishes, LacksPayload, NotFinished, WritesChunk, around, taken_payloads, unbegun}
pub use Rattle.chunked.specs.ChunkedWriterLaws.{ChunksWent-joins, ChunksWent-none}
pub use Rattle.chunked.specs.Coding.{BreaksAt, chunked}
pub use Rattle.chunked.specs.CodingLaws.{breaks_at, chunked_lawful, follows}
pub use Rattle.chunked.specs.declared.coding.Chunked.{Chunked}
pub use Rattle.chunked.specs.declared.error.Malformed.{Malformed}
pub use Rattle.chunked.specs.declared.limits.Limits.{Limits}
pub use Rattle.chunked.specs.declared.place.Place.{Place}
pub use Rattle.forward.specs.Filter.{AskAnswers, AsksSent, FilterAsks, FilterPasses, FilterRules, IsLawful, Moves, NeverGaveNothing, PassAnswers, SomeCame, StaysOpen, FailedToRead}
pub use Rattle.forward.specs.Forward.{ForwardAnswers, Forwarded, NoneFailed, StopsBy}
pub use Rattle.forward.specs.ForwardLaws.{ForwardedFirst-all, Forwards-runs, Goes-holds, Goes-leaves, Goes-per_ask}
pub use Rattle.forward.specs.Prompt.{AskedLast, AsksGiveOrFail, RunsPromptly, WritesOn}
pub use Rattle.forward.specs.PromptLaws.{AskedLast-after, HoldsNothingBack-on, RunsPromptly-none, WritesOn-joins}
pub use Rattle.forward.specs.Streams.{FaultsOften, FewFaults, WriteGaveUp, came}
pub use Rattle.forward.specs.StreamsLaws.{MetNoFault-joins, WriteGaveUp-after, WriteGaveUp-so}
pub use Rattle.forward.specs.Target.{failure_count, bytes_taken}
pub use Rattle.forward.specs.declared.error.AskError.{AskError}
pub use Rattle.forward.specs.declared.error.Cause.{Cause}
pub use Rattle.programs.specs.Outcome.{IsErrorOf}
pub use Rattle.programs.specs.Streams.{AllSent, GaveNothing, MetNoFault, OffersBuffer, OverCount, ReadFailed, ReceivedFlushed, RefusedBeforeCalls}
pub use Rattle.programs.specs.TakenIn.{TakesAll, sent_all, taken_more, target_of}
pub use Rattle.programs.specs.TargetLaws.{SendRow, TakesAll-not_passed, TakesAll-passed, TakesAll-row, WasFlushed-sent, WasFlushed-writes, WritesOn-unflushed, unsent_row}
pub use Rattle.programs.specs.declared.error.RunError.{RunError}
pub use Rattle.std.proofs.lemmas.Bool.{cases_lt}
pub use Rattle.std.proofs.lemmas.Bool.Decides.{nat_tests}
pub use Rattle.std.proofs.lemmas.List.{nil_from_length, with_items_is}
pub use Rattle.std.proofs.lemmas.List.Elements.{All-append, All-cons, All-head, All-nil, All-tail, All-weaker}
pub use Rattle.std.proofs.lemmas.List.Folds.{concat-append}
pub use Rattle.std.proofs.lemmas.Result.{err_from_is_err_and}
pub use Rattle.std.specs.List.{All, concat, flat_map}
pub use Rattle.std.specs.declared.io.Error.{Error}
