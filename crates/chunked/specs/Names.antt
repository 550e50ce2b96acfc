-- The names that laws and proofs take from other files, in one place.
pub use Rattle.body_reader.specs.CodingLaws.{IsOpenBelow-one, Leads-joins, Leads-more, Leads-none, nothing_behind}
pub use Rattle.buffer_redux.specs.Block.{Block, IsBlock, Kind, limit_of, MakesRoom, Plain, Ring, usable}
pub use Rattle.buffer_redux.specs.Buffered.{Buffered, GoesDirect, InnerWent, with_block}
pub use Rattle.buffer_redux.specs.LogGrows.{WriteLogGrows-joins, WriteLogGrows-none, WritesGoOn, WritesGoOn-of}
pub use Rattle.buffer_redux.specs.StreamLog.{after_write, portion, StreamLog}
pub use Rattle.buffer_redux.specs.WriteParts.{PutsIn, room, SendsFirst}
pub use Rattle.buffer_redux.specs.WritePartsLaws.{PutsIn-joins, PutsIn-order}
pub use Rattle.buffer_redux.specs.WriterLaws.{WritesInOrder-contents, WritesInOrder-joins, WritesInOrder-none}
pub use Rattle.buffer_redux.specs.declared.policy.StdPolicy.{StdPolicy}
pub use Rattle.chunked.specs.Body.{BehindFirst, EndsLine, EndsSize, fields_bytes, HasChunks, HasFields, IsBodyOfChunks, IsField, IsTextByte, IsTrailers, line_end, LineFeedThen, SizeLine}
pub use Rattle.chunked.specs.Chunk.{body_end, chunk, chunk_begun, chunk_end, HasBegun, IsCarried, IsChunks, size_digits}
pub use Rattle.chunked.specs.ChunkedWriter.{accepted_of, around, ChunkedWriterState, ChunkingWent, ChunksWent, CopiesSizeLine, Finishes, greatest, IsChunkedWriter, IsNoted, LetsThrough, MakesSpace, PayloadWent, seen, taken_payloads, TakesSome, TakesThere, WentOn, WritesChunk}
pub use Rattle.chunked.specs.Coding.{BreaksAt, chunk_left, chunked, IsWrongNext}
pub use Rattle.chunked.specs.Extension.{Assigned, IsExtension, Parameter, Parameters}
pub use Rattle.chunked.specs.Place.{BehindSize, Completes, CompletesData, CompletesSizeLine, IsDataOrDone, IsPlace, IsWrong, most_between, WrongInExtension}
pub use Rattle.chunked.specs.Steps.{Advances, behind_size, Comes, LeadsInExtension, StepsOver, StepsTo}
pub use Rattle.chunked.specs.Token.{IsBlank, IsTokenByte, IsValueByte}
pub use Rattle.chunked.specs.Trailers.{IsFraming, IsFramingName, IsTrailer, lines_of}
pub use Rattle.chunked.specs.Within.{CompletesExtension, EndsNoExtension, LeadsWithin, least_left, RunsOver}
pub use Rattle.chunked.specs.declared.error.Malformed.{Malformed}
pub use Rattle.chunked.specs.declared.extension.Within.{Within}
pub use Rattle.chunked.specs.declared.extension.Within.TheVariants.{BeforeName, BeforeValue, Behind, BehindName, Blank, Escaped, InName, InValue, Quoted}
pub use Rattle.chunked.specs.declared.limits.Limits.{Limits}
pub use Rattle.chunked.specs.declared.place.Place.{Place}
pub use Rattle.chunked.specs.declared.place.Place.TheVariants.{Data, DataFeed, Done, Extension, FieldFeed, FieldName, Fields, FieldValue, LastFeed, Line, Size, SizeFeed}
pub use Rattle.std.proofs.lemmas.Bool.{cases_lt, eqb-true}
pub use Rattle.std.proofs.lemmas.Bool.Decides.{nat_tests}
pub use Rattle.std.proofs.lemmas.Int.Digits.{all_below_base_digits_of, digits_of_step, digits_value_is, length-digits_of-le, length-digits_of_step, number_digits_of}
pub use Rattle.std.proofs.lemmas.List.{append_cancel_left, drop-set, drop_more, get_or-map, length-map, length-replicate, length-set, length-take, length-take-le, map-append, nil_from_length, take-take, take_all, take_min, take_more}
pub use Rattle.std.proofs.lemmas.List.Concat.{flat_map-append}
pub use Rattle.std.proofs.lemmas.List.Elements.{All-append, All-cons, All-head, All-nil, All-tail}
pub use Rattle.std.proofs.lemmas.List.Folds.{concat-append, length-flat_map-take}
pub use Rattle.std.specs.Char.{digit_char, digit_value}
pub use Rattle.std.specs.Int.Digits.{AllBelowBase, digits_of, number_from_digits}
pub use Rattle.std.specs.List.{All, AllByRecursion, concat, flat_map}
pub use Rattle.std.specs.Str.Parse.{AllDigits, digits_value, digits_value_after}
pub use Rattle.std.specs.declared.io.Error.{Error}
