-- The names that laws and proofs take from other files, in one place.
pub use Rattle.body_reader.specs.Between.{handed_out, LeavesPlaces, LeavesRest, LeavesRoom}
pub use Rattle.body_reader.specs.BodyReader.{BodyWent, FillsPayload, handed_of, IsBodyReader, NoPayload, ReadsAsIo, ReadsPayload, TookWholeBody}
pub use Rattle.body_reader.specs.Coding.{heeded, IsBody, IsDone}
pub use Rattle.body_reader.specs.CodingLaws.{Agree-nothing, Leads-done, Leads-whole, none_wrong}
pub use Rattle.body_reader.specs.SizedLaws.{sized_lawful}
pub use Rattle.body_reader.specs.declared.either.Side.{Side}
pub use Rattle.buffer_redux.specs.Block.{Block, Plain, with_limit}
pub use Rattle.buffer_redux.specs.Policy.{std_read_rules}
pub use Rattle.buffer_redux.specs.StreamLog.{after_read, StreamLog}
pub use Rattle.buffer_redux.specs.Unbuffer.{StreamWent, Unbuffered, unbuffered}
pub use Rattle.buffer_redux.specs.UnbufferLaws.{ReadsAlong-stream, StreamWent-front, StreamWent-joins, StreamWent-none, StreamWent-unasked}
pub use Rattle.chunked.specs.Coding.{chunked}
pub use Rattle.chunked.specs.CodingLaws.{chunked_lawful}
pub use Rattle.chunked.specs.declared.place.Place.{Place}
pub use Rattle.codec.specs.Decoding.{bytes_at}
pub use Rattle.codec.specs.Grammar.{Begins, IsLawful, IsOpenBelow}
pub use Rattle.codec.specs.NextPiece.{NextPiece}
pub use Rattle.codec.specs.PieceReader.{left_of, ReaderState, rest}
pub use Rattle.codec.specs.ScanningLaws.{leads_on, leads_then, scanned_headers}
pub use Rattle.codec.specs.declared.HeaderError.{HeaderError}
pub use Rattle.codec.specs.declared.scan.ScanStep.{ScanStep}
pub use Rattle.codec.specs.declared.scan.ScanStep.TheVariants.{Bad, More, Sized}
pub use Rattle.http1.specs.Fields.{elements, known_fields}
pub use Rattle.http1.specs.Framing.{method_kind, request_framing}
pub use Rattle.http1.specs.Message.{known_of}
pub use Rattle.httparse.proofs.GrammarLemmas.{request_unique}
pub use Rattle.httparse.specs.Grammar.{ReadsRequest, RequestHead, trim_ows}
pub use Rattle.httparse.specs.Spans.{header_bytes, IsRequestAt, name_and_value}
pub use Rattle.messages.specs.Faults.{head_fault, IsHeadFault}
pub use Rattle.messages.specs.Heads.{extent_of, heads, is_expected, is_met, IsHead, IsHeadPiece, IsNoHead}
pub use Rattle.messages.specs.Lines.{EndsByBoth, fault_on, fault_then, line_fault, lines, texts, turn, turn_fault}
pub use Rattle.messages.specs.Messages.{AreMessages, Begun, body_answer, body_rules, BodyCoding, coding_of, EachReadGave, entering, Enters, FailsToFinish, FinishesBody, InBody, InsideGoes, InTurn, IsMessage, IsRoomy, Message, MessagesWent, Reader, room_of, stop_answer, TellsWhy, WhyNone}
pub use Rattle.messages.specs.Target.{begins_with_letter, IsPlainField}
pub use Rattle.messages.specs.Versions.{as_known, with_one}
pub use Rattle.messages.specs.declared.head.Extent.{Extent}
pub use Rattle.messages.specs.declared.head.ParsedHead.{ParsedHead}
pub use Rattle.messages.specs.declared.limits.Limits.{Limits}
pub use Rattle.messages.specs.declared.lines.Before.{Before}
pub use Rattle.messages.specs.declared.lines.Before.TheVariants.{EmptyReturn, Feed, FirstReturn, Method, Return, Space, Start, StartReturn, Target, Text, Version}
pub use Rattle.std.proofs.lemmas.Bool.{cases_lt, false≢true, true≢false}
pub use Rattle.std.proofs.lemmas.List.{append-nil, append_cancel_left, drop_all, length-drop, length-map, length-take-le, nil_from_length, take-append-drop, take_min}
pub use Rattle.std.proofs.lemmas.List.Elements.{All-cons, All-get_or, All-head, All-map, All-more, All-nil, All-tail}
