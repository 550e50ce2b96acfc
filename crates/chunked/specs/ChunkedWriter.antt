-- What contracts see of a writer of a body, and what its calls promise.
use Rattle.std.specs.Prelude.{◌≡◌, ℕ, zero, suc, ◌+◌, ◌-◌, ◌^◌, ◌<◌, ◌≤◌, List, [], ◌∷◌, ◌++◌, length, min, take, flat_map, Result, Ok, Err, MatchResult}
use Rattle.std.specs.List.{concat, All, AllByRecursion}
use Rattle.std.specs.declared.io.Error.{Error}
use Rattle.buffer_redux.specs.Block.{IsBlock}
use Rattle.buffer_redux.specs.Buffered.{Buffered, GoesDirect, InnerWent}
use Rattle.buffer_redux.specs.BufWriter.{WasSent, WritesInOrder}
use Rattle.buffer_redux.specs.LogGrows.{WriteLogGrows}
use Rattle.buffer_redux.specs.StreamLog.{StreamLog, after_write, no_calls, portion}
use Rattle.buffer_redux.specs.WriteParts.{PutsIn, SendsFirst, room}
use Rattle.buffer_redux.specs.declared.policy.StdPolicy.{StdPolicy}
use Rattle.chunked.specs.declared.limits.Limits.{Limits}
use Rattle.chunked.specs.Body.{IsBodyOfChunks}
use Rattle.chunked.specs.Chunk.{HasBegun, IsCarried, IsChunks, body_end, chunk, chunk_begun, chunk_end}
use Rattle.chunked.specs.Trailers.{IsTrailer}

-- the buffered writer; the bytes of the body that it took in so far; the writer's own calls, as a stream tells them; and how many
-- bytes of payload are still to come of a chunk that was begun
pub record ChunkedWriterState (S : Type 0) : Type 0 where
  pub writer : Buffered S StdPolicy
  pub wire : List ℕ
  pub calls : StreamLog
  pub due : ℕ

-- by its parts, of which one is a log of what was received
abbrev pub seen : {S : Type 0} → Buffered S StdPolicy → StreamLog → StreamLog → ℕ → ChunkedWriterState S
seen writer wire calls due = record { writer = writer; wire = wire.writes.received; calls = calls; due = due }

-- the payload that was taken in so far
abbrev pub accepted_of : {S : Type 0} → ChunkedWriterState S → List ℕ
accepted_of c = c.calls.writes.received

-- the most bytes of a chunk that are no payload: a size of 16 digits, and the ends of two lines
abbrev pub around : ℕ
around = 20

-- the greatest size of a chunk
abbrev pub greatest : ℕ
greatest = 2 ^ 62 - 1

-- what is true of every writer of a body: what the buffered writer took in is whole chunks, and then the beginning of one if
-- some of it is due, and the payload in them is what was taken in; and some payload fits into the buffer with what stands around
-- it
pub record IsChunkedWriter {S : Type 0} (c : ChunkedWriterState S) : Type 0 where
  pub whole : c.due ≡ 0 → IsChunks c.wire (accepted_of c)
  pub begun : 0 < c.due → HasBegun c.due c.wire (accepted_of c)
  pub block : IsBlock c.writer.block
  pub capacity : around < c.writer.block.capacity

-- no byte was taken in yet
abbrev pub unbegun : {S : Type 0} → Buffered S StdPolicy → ChunkedWriterState S
unbegun writer = record { writer = writer; wire = []; calls = no_calls; due = 0 }

-- what any calls do, one after another: the buffered writer took in these bytes of the body, in order, with this payload, and
-- notes no call as its own, and no memory is taken
pub record PayloadWent {S : Type 0} (trace : S → S → Type 0) (s : ChunkedWriterState S) (bytes payload : List ℕ)
    (t : ChunkedWriterState S) : Type 0 where
  pub in_order : WritesInOrder s.writer bytes t.writer
  pub wire : t.wire ≡ s.wire ++ bytes
  pub accepted : accepted_of t ≡ accepted_of s ++ payload
  pub calls : trace s.writer.inner t.writer.inner
  pub noted : t.writer.own_calls ≡ s.writer.own_calls
  pub capacity : t.writer.block.capacity ≡ s.writer.block.capacity
  pub limit : t.writer.block.limit ≡ s.writer.block.limit

-- calls that took in these payloads, each in a chunk of its own, and whole
pub record ChunksWent {S : Type 0} (trace : S → S → Type 0) (s : ChunkedWriterState S) (payloads : List (List ℕ))
    (t : ChunkedWriterState S) : Type 0 where
  pub carried : All IsCarried payloads
  pub went : PayloadWent trace s (flat_map chunk payloads) (concat payloads) t
  pub due : t.due ≡ s.due

-- the payloads of the chunks that an answer took in: of one, or of none
abbrev pub taken_payloads : List ℕ → Result ℕ Error → List (List ℕ)
taken_payloads payload (Ok zero) = []
taken_payloads payload (Ok (suc n)) = take (suc n) payload ∷ []
taken_payloads payload (Err e) = []

-- a write is noted at an Ok, and else nothing is
abbrev pub IsNoted : {S : Type 0} → ChunkedWriterState S → List ℕ → Result ℕ Error → ChunkedWriterState S → Type 0
IsNoted s payload answer t =
    MatchResult answer (λ n. t.calls ≡ after_write s.calls payload (Ok n)) (λ _. t.calls ≡ s.calls)

module _ {S : Type 0} (tells : S → StreamLog) (trace : S → S → Type 0) where
  -- what was buffered was sent, if fewer bytes than these fit behind it
  pub record MakesSpace (count : ℕ) (s : Buffered S StdPolicy) (answer : Result (Unit {0}) Error) (t : Buffered S StdPolicy)
      : Type 0 where
    pub fits : count ≤ room s → (answer ≡ Ok tt) × (t ≡ s)
    pub full : room s < count → WasSent tells trace s answer t

  -- the chunk of so many bytes is begun: its line is copied in behind what is buffered, which is sent first if there is no room.
  -- Where sending fails it isn't
  pub record CopiesSizeLine (size : ℕ) (s : ChunkedWriterState S) (answer : Result (Unit {0}) Error) (t : ChunkedWriterState S)
      : Type 0 where
    pub spaced : Buffered S StdPolicy
    pub makes_space : MakesSpace around s.writer answer spaced
    pub ended : MatchResult answer
        (λ _. PutsIn spaced (chunk_begun size []) t.writer × (t.wire ≡ s.wire ++ chunk_begun size []) × (t.due ≡ size))
        (λ _. (t.writer ≡ spaced) × (t.wire ≡ s.wire) × (t.due ≡ 0))
    pub calls : t.calls ≡ s.calls

  -- some payload is taken in behind the space that was made: where the capacity has room for it and the end of a line it is
  -- copied in, and else it goes past the buffer, by one write of the inner writer
  pub record TakesThere (s : Buffered S StdPolicy) (part : List ℕ) (answer : Result ℕ Error) (t : Buffered S StdPolicy)
      : Type 0 where
    pub inside : length part + 2 ≤ s.block.capacity → (answer ≡ Ok (length part)) × PutsIn s part t
    pub past : s.block.capacity < length part + 2 → GoesDirect after_write s part answer t × InnerWent tells trace s t

  -- some payload is taken in. If it and the end of a line don't fit behind what is buffered that is sent first, and where
  -- sending fails nothing else is done
  pub record TakesSome (s : Buffered S StdPolicy) (part : List ℕ) (answer : Result ℕ Error) (t : Buffered S StdPolicy)
      : Type 0 where
    pub sending : Result (Unit {0}) Error
    pub spaced : Buffered S StdPolicy
    pub makes_space : MakesSpace (length part + 2) s sending spaced
    pub ended : MatchResult sending (λ _. TakesThere spaced part answer t) (λ e. (answer ≡ Err e) × (t ≡ spaced))

  -- payload goes on in the chunk that was begun, as much as is due of it at most, and behind its last byte the end of the line
  -- follows. At an Err no byte was taken in
  pub record ContinuesChunk (s : ChunkedWriterState S) (payload : List ℕ) (answer : Result ℕ Error) (t : ChunkedWriterState S)
      : Type 0 where
    pub taken : Buffered S StdPolicy
    pub takes : TakesSome s.writer (take s.due payload) answer taken
    pub ended : MatchResult answer
        (λ n. (n ≤ s.due) × (t.due ≡ s.due - n) × PutsIn taken (chunk_end t.due) t.writer
        × (t.wire ≡ s.wire ++ (take n payload ++ chunk_end t.due)))
        (λ _. (t.due ≡ s.due) × (t.writer ≡ taken) × (t.wire ≡ s.wire))

  -- all that is promised of payload that goes on in a chunk
  pub record WentOn (s : ChunkedWriterState S) (payload : List ℕ) (answer : Result ℕ Error) (t : ChunkedWriterState S)
      : Type 0 where
    pub goes : ContinuesChunk s payload answer t
    pub went : (bytes : List ℕ) × PayloadWent trace s bytes (portion payload answer) t
    pub noted : IsNoted s payload answer t
    pub whole : IsChunkedWriter t

  -- a chunk for which the capacity has no room is begun, and its payload goes on in it
  pub record BeginsChunk (s : ChunkedWriterState S) (payload : List ℕ) (answer : Result ℕ Error) (t : ChunkedWriterState S)
      : Type 0 where
    pub beginning : Result (Unit {0}) Error
    pub begun : ChunkedWriterState S
    pub begins : CopiesSizeLine (min (length payload) greatest) s beginning begun
    pub ended : MatchResult beginning (λ _. ContinuesChunk begun payload answer t) (λ e. (answer ≡ Err e) × (t ≡ begun))

  -- what one write does. Between chunks the payload becomes one: if that fits behind what is buffered it stands there, and the
  -- inner writer isn't called; if the capacity has room for it, all that was buffered is sent first, and where that fails no byte
  -- of it is taken in; else it is begun. Within a chunk the payload goes on in that. An empty payload makes none
  pub record WritesChunk (s : ChunkedWriterState S) (payload : List ℕ) (answer : Result ℕ Error) (t : ChunkedWriterState S)
      : Type 0 where
    pub went : (bytes : List ℕ) × PayloadWent trace s bytes (portion payload answer) t
    pub nothing : length payload ≡ 0 → (answer ≡ Ok 0) × (t.writer ≡ s.writer) × (t.due ≡ s.due)
    pub chunks : s.due ≡ 0 → around + length payload ≤ s.writer.block.capacity
        → ChunksWent trace s (taken_payloads payload answer) t
    pub fits : 0 < length payload → s.due ≡ 0 → around + length payload ≤ room s.writer
        → (answer ≡ Ok (length payload)) × PutsIn s.writer (chunk payload) t.writer
    pub full : 0 < length payload → s.due ≡ 0 → room s.writer < around + length payload
        → around + length payload ≤ s.writer.block.capacity → MatchResult answer
        (λ n. (n ≡ length payload) × SendsFirst tells trace s.writer (chunk payload) t.writer)
        (λ e. WasSent tells trace s.writer (Err e) t.writer)
    pub begins : s.due ≡ 0 → s.writer.block.capacity < around + length payload → BeginsChunk s payload answer t
    pub goes_on : 0 < length payload → 0 < s.due → ContinuesChunk s payload answer t
    pub noted : IsNoted s payload answer t
    pub whole : IsChunkedWriter t

-- what limits let through that was written with these trailers: the line of a size with 16 digits, and the lines
abbrev pub LetsThrough : List (List ℕ) → Limits → Type 0
LetsThrough fields limits = (16 ≤ limits.line) × (length (concat fields) ≤ limits.trailers)

-- what finishing with these trailers does, where no chunk lacks payload: each is a line that trailers may have, the end of the
-- body went in whole behind the chunks, and what was taken in since the writer was made is a body, whose payload is what was
-- accepted
pub record Finishes {S : Type 0} (tells : S → StreamLog) (trace : S → S → Type 0) (s : ChunkedWriterState S)
    (fields : List (List ℕ))
    (t : Buffered S StdPolicy) : Type 0 where
  pub between : s.due ≡ 0
  pub lines : AllByRecursion IsTrailer fields
  pub in_order : WritesInOrder s.writer (body_end fields) t
  pub body : (limits : Limits) → LetsThrough fields limits → IsBodyOfChunks limits (s.wire ++ body_end fields) (accepted_of s)
  pub fits : length (body_end fields) ≤ room s.writer → PutsIn s.writer (body_end fields) t
  pub full : room s.writer < length (body_end fields) → SendsFirst tells trace s.writer (body_end fields) t

-- the end of a body with these trailers would go into the buffer, but what was buffered had to be sent first, and that failed: no
-- byte was taken in, so the call can be made again
pub record NotFinished {S : Type 0} (tells : S → StreamLog) (trace : S → S → Type 0) (s : ChunkedWriterState S)
    (fields : List (List ℕ)) (e : Error) (t : ChunkedWriterState S) : Type 0 where
  pub between : s.due ≡ 0
  pub lines : AllByRecursion IsTrailer fields
  pub fits : length (body_end fields) ≤ s.writer.block.capacity
  pub full : room s.writer < length (body_end fields)
  pub sends : WasSent tells trace s.writer (Err e) t.writer
  pub wire : t.wire ≡ s.wire
  pub calls : t.calls ≡ s.calls
  pub due : t.due ≡ 0
  pub whole : IsChunkedWriter t

-- a chunk lacks payload, so the body can't be ended, and the writer is as it was
pub record LacksPayload {S : Type 0} (s t : ChunkedWriterState S) : Type 0 where
  pub due : 0 < s.due
  pub same : t ≡ s
  pub whole : IsChunkedWriter t

-- what any calls that are told do, one after another: some bytes of the body went in, and the log of the writer's own calls only
-- goes on
pub record ChunkingWent {S : Type 0} (trace : S → S → Type 0) (s t : ChunkedWriterState S) : Type 0 where
  pub bytes : List ℕ
  pub payload : List ℕ
  pub went : PayloadWent trace s bytes payload t
  pub grows : WriteLogGrows s.calls.writes t.calls.writes
