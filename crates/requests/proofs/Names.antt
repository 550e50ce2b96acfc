-- The names that proofs take from other crates, in one place.
pub use Rattle.buffer_redux.specs.Asking.{AskedOver, AskedWhere}
pub use Rattle.buffer_redux.specs.AskingLaws.{AskedOver-on}
pub use Rattle.buffer_redux.specs.Buffered.{Buffered}
pub use Rattle.buffer_redux.specs.StreamLog.{StreamLog}
pub use Rattle.body_reader.specs.BodyReader.{Breaks, handed_of, IsBodyReader, NoPayload, ReadsPayload, TookWholeBody}
pub use Rattle.body_reader.specs.Coding.{IsBody, LeadsOpen}
pub use Rattle.body_reader.specs.declared.either.Side.{Side}
pub use Rattle.buffer_redux.specs.Policy.{std_read_rules}
pub use Rattle.buffer_redux.specs.Unbuffer.{HandsOutInOrder, StreamWent, Unbuffered, unbuffered}
pub use Rattle.buffer_redux.specs.UnbufferLaws.{HandsOutInOrder-joins, HandsOutInOrder-none, ReadsAlong-stream, StreamWent-joins, StreamWent-none}
pub use Rattle.chunked.specs.declared.error.Malformed.{Malformed}
pub use Rattle.chunked.specs.declared.place.Place.{Place as BodyPlace}
pub use Rattle.buffer_redux.specs.WriteParts.{WritesParts}
pub use Rattle.buffer_redux.specs.declared.policy.StdPolicy.{StdPolicy}
pub use Rattle.codec.specs.Grammar.{IsOpen}
pub use Rattle.codec.specs.NextPiece.{empty_reads, MetEnd, NextAnswer, NextAnswers, NextPiece, NoEnd, NoFault}
pub use Rattle.codec.specs.NextPieceLaws.{AsksNone-settled, MetEnd-once}
pub use Rattle.codec.specs.PieceReader.{IsSettled, left_of, ReaderState, rest}
pub use Rattle.codec.specs.PiecesWentLaws.{PiecesWent-stream, PiecesWent-unasked}
pub use Rattle.messages.specs.Heads.{heads, IsHead}
pub use Rattle.messages.specs.HeadsLaws.{heads_lawful, never_cut}
pub use Rattle.messages.specs.Limits.{usual}
pub use Rattle.messages.specs.Messages.{Begun, body_error, body_rules, BodyCoding, coding_of, Enters, FailsToFinish, FinishesBody, InBody, InsideGoes, IsMessage, Message, Reader, room_of, TellsWhy, WhyNone}
pub use Rattle.messages.specs.MessagesLaws.{Begun-message, Begun-went, InsideGoes-joins, InsideGoes-none, one_ahead, same_room, whole_body}
pub use Rattle.messages.specs.declared.bad_head.BadHead.{BadHead}
pub use Rattle.messages.specs.declared.error.BodyError.TheVariants.{Io, Truncated, Wrong}
pub use Rattle.messages.specs.declared.head.Heads.{Heads}
pub use Rattle.messages.specs.declared.head.ParsedHead.{ParsedHead}
pub use Rattle.redux_buffer.specs.Faults.{FaultAfterInterrupts, FaultAfterInterrupts-after, OnlyInterrupts, OnlyInterrupts-joins, OnlyInterrupts-none, OnlyInterrupts-one}
pub use Rattle.requests.specs.Answers.{AnswersEach, AnswersWhole, AsksFew, AwaitsBody, AwaitsHead, CallsFor, Closes, CameToBody, Continues, ending_of, ends_of, EndsUntaken, FailsInRead, FailsInRow, FailsOnce, faults_of, FewFailed, IsClosed, IsLastTurn, IsPartTaken, IsToBeRefused, MayFollow, NoMoreAnswered, NoneLeft, only_line_ends, OneReadFails, ReadsSteadily, Refuses, RunEndsBy, RunsToLast, sending_of, sent_till, stream_at, stream_in, TakeFails, TakesWhole}
pub use Rattle.requests.specs.Large.{AwaitsMore, is_large, IsAwaited, max_payload}
pub use Rattle.requests.specs.Sending.{AsksUnsettled, Both, IsHeld, IsStep, IsUnsettled, Prompt, SendsForRoom, SendsUnless, StepsAlong}
pub use Rattle.requests.specs.Texts.{answered, called, early_refusal, is_called, is_known, refusal, refusal_of, waits}
pub use Rattle.requests.specs.declared.Ending.{Ending}
pub use Rattle.requests.specs.declared.Ending.TheVariants.{Over, Unread, Unsent}
pub use Rattle.requests.specs.declared.Place.{Place}
pub use Rattle.requests.specs.declared.Place.TheVariants.{Before, Inside}
pub use Rattle.requests.specs.declared.taking.Untaken.{Untaken}
pub use Rattle.requests.specs.declared.writing.Refusal.{Refusal}
pub use Rattle.requests.specs.declared.writing.Refusal.TheVariants.{BadRequest, LargeBody, Unknown, Unmet}
pub use Rattle.std.proofs.lemmas.Bool.{cases_lt}
pub use Rattle.std.proofs.lemmas.List.{length-take-le, nil_from_length}
pub use Rattle.std.proofs.lemmas.List.Elements.{All-append, All-cons, All-nil}
pub use Rattle.std.specs.declared.io.Error.{Error}
