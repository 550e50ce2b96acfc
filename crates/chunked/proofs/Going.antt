-- What payload that goes on in a chunk does, and what a chunk does that is begun.
use Rattle.std.proofs.Common.{◌≡◌, ℕ, ◌+◌, ◌-◌, ◌<◌, ◌≤◌, List, [], ◌++◌, length, min, take, Result, Ok, Err, MatchResult, ap, ◌∙◌, arith, inl, inr, refl, append_assoc, append-nil}
use Rattle.chunked.specs.Names.{accepted_of, after_write, around, Buffered, cases_lt, chunk_begun, chunk_end, ChunkedWriterState, CopiesSizeLine, Error, GoesDirect, greatest, HasBegun, InnerWent, IsBlock, IsChunkedWriter, IsChunks, IsNoted, length-take, length-take-le, MakesRoom, MakesSpace, PayloadWent, portion, PutsIn, room, StdPolicy, StreamLog, take-take, take_all, take_min, TakesSome, TakesThere, WentOn, with_block, WritesChunk}
use Rattle.chunked.specs.ChunkedWriter.{BeginsChunk}
use Rattle.chunked.specs.ChunkLaws.{HasBegun-ends, HasBegun-more}
use Rattle.chunked.specs.ChunkedWriterLaws.{PayloadWent-joins}
use Rattle.chunked.proofs.Writing.{WentIn, nothing_went, payload_went, puts_went, space_went, went_on}

-- behind the last byte the line ends
pub chunk_end_more : (due : ℕ) → 0 < due → chunk_end due ≡ []
chunk_end_more due some = grind arith

-- room was made
pub puts_roomy : {S : Type 0} (s t : Buffered S StdPolicy) → MakesRoom s.block t.block → t ≡ with_block s t.block
    → IsBlock t.block → PutsIn s [] t
puts_roomy s t room others whole = grind (arith, append-nil)

-- as much as is due, and no more
pub take_least : (due : ℕ) (payload : List ℕ) → take (min (length payload) due) payload ≡ take due payload
take_least due payload =
    let same : min (length payload) due ≡ min due (length payload) = omega arith in rw same (take_min due payload)

module _ {S : Type 0} (tells : S → StreamLog) (trace : S → S → Type 0) (none : (a : S) → trace a a)
    (joins : (a b c : S) → trace a b → trace b c → trace a c) where
  -- what doesn't fit once space was made doesn't fit the capacity
  pub has_room : (s m : Buffered S StdPolicy) (n : ℕ) → MakesSpace tells trace n s (Ok tt) m → n ≤ m.block.capacity → n ≤ room m
  has_room s m n made small = grind arith

  -- past an empty buffer
  past_went : (s t : Buffered S StdPolicy) (part : List ℕ) (answer : Result ℕ Error) → IsBlock s.block → s.block.bytes ≡ []
      → GoesDirect after_write s part answer t → InnerWent tells trace s t → WentIn trace s (portion part answer) t
  past_went s t part answer whole empty direct calls = grind (arith, append-nil)

  past_empty : (s m : Buffered S StdPolicy) (n : ℕ) → MakesSpace tells trace n s (Ok tt) m → m.block.capacity < n
      → m.block.bytes ≡ []
  past_empty s m n made large = grind arith

  -- a part that was taken in, or not
  there_went : (m t : Buffered S StdPolicy) (part : List ℕ) (answer : Result ℕ Error) → IsBlock m.block
      → (m.block.capacity < length part + 2 → m.block.bytes ≡ []) → TakesThere tells trace m part answer t
      → WentIn trace m (portion part answer) t
  there_went m t part answer whole empty takes = elim (cases_lt m.block.capacity (length part + 2)) [
    | inl large ↦ let past = takes.past large in past_went m t part answer whole (empty large) past.0 past.1
    | inr small ↦
        let inside = takes.inside small in
        rw (inside.0, take_all (length part) part (omega arith)) (puts_went tells trace none joins m t part inside.1)
  ]

  part_went : (s t : Buffered S StdPolicy) (part : List ℕ) (answer : Result ℕ Error) → IsBlock s.block
      → TakesSome tells trace s part answer t → WentIn trace s (portion part answer) t
  part_went s t part answer whole takes = by_sending takes.sending takes.makes_space takes.ended
    where
      by_sending : (sending : Result (Unit {0}) Error) → MakesSpace tells trace (length part + 2) s sending takes.spaced
          → MatchResult sending (λ _. TakesThere tells trace takes.spaced part answer t)
          (λ e. (answer ≡ Err e) × (t ≡ takes.spaced)) → WentIn trace s (portion part answer) t
      by_sending (Ok _) made ended =
          let spaced = space_went tells trace none joins s takes.spaced (length part + 2) (Ok tt) whole made in
          went_on tells trace none joins s takes.spaced t [] (portion part answer) spaced
          (there_went takes.spaced t part answer spaced.whole (past_empty s takes.spaced (length part + 2) made) ended)
      by_sending (Err e) made ended =
          rw (ended.0, ended.1) (space_went tells trace none joins s takes.spaced (length part + 2) (Err e) whole made)

  -- payload went on in a chunk
  module _ (s : ChunkedWriterState S) (is : IsChunkedWriter s) (within : 0 < s.due) (payload : List ℕ) where
    -- so many bytes of it
    module _ (n : ℕ) (count : n ≤ length payload) (below : n ≤ s.due) (m : Buffered S StdPolicy)
        (part : WentIn trace s.writer (take n (take s.due payload)) m) (t : ChunkedWriterState S)
        (left : t.due ≡ s.due - n) (ends : PutsIn m (chunk_end t.due) t.writer)
        (wired : t.wire ≡ s.wire ++ (take n payload ++ chunk_end t.due))
        (noted : t.calls ≡ after_write s.calls payload (Ok n)) where
      long : length (take n payload) ≡ n
      long = length-take-le n payload count

      went_in : WentIn trace s.writer (take n payload ++ chunk_end t.due) t.writer
      went_in = rw (take-take n s.due payload below) at
          (went_on tells trace none joins s.writer m t.writer (take n (take s.due payload)) (chunk_end t.due) part
          (puts_went tells trace none joins m t.writer (chunk_end t.due) ends))

      accepted : accepted_of t ≡ accepted_of s ++ take n payload
      accepted = grind arith

      ended : t.due ≡ 0 → IsChunks t.wire (accepted_of t)
      ended none = rw (wired, none, accepted)
          (HasBegun-ends s.due s.wire (accepted_of s) (take n payload) (is.begun within) within
          (omega (arith, none, left, below, long)))

      goes : 0 < t.due → HasBegun t.due t.wire (accepted_of t)
      goes some = rw (wired, chunk_end_more t.due some, append-nil, accepted, left)
          (rw long at (HasBegun-more s.due s.wire (accepted_of s) (take n payload) (is.begun within)
          (omega (arith, long, below))))

      pub goes_whole : IsChunkedWriter t
      goes_whole = record {
        whole = ended;
        begun = goes;
        block = ends.whole;
        capacity = omega (arith, went_in.capacity, is.capacity);
      }

      pub goes_went : PayloadWent trace s (take n payload ++ chunk_end t.due) (take n payload) t
      goes_went = payload_went tells trace none joins s t (take n payload ++ chunk_end t.due) (take n payload) went_in wired
          accepted

    -- the same of a writer that takes nothing in
    stays_whole : (t : ChunkedWriterState S) → WentIn trace s.writer [] t.writer → t.due ≡ s.due → t.wire ≡ s.wire
        → t.calls ≡ s.calls → IsChunkedWriter t
    stays_whole t went due wire calls = grind arith

    module _ (part : List ℕ) (same : part ≡ take s.due payload) (m : Buffered S StdPolicy) where
      pub goes_on : (n : ℕ) → n ≤ length part → TakesSome tells trace s.writer part (Ok n) m → (wire : List ℕ)
          → wire ≡ s.wire ++ take n part → (t : ChunkedWriterState S) → t.due ≡ s.due - n
          → PutsIn m (chunk_end t.due) t.writer → t.wire ≡ wire ++ chunk_end t.due
          → t.calls ≡ after_write s.calls payload (Ok n) → WentOn tells trace s payload (Ok n) t
      goes_on n within' takes wire so_far t left ends wired noted =
          let long : length part ≡ min s.due (length payload) = ap length same ∙ length-take s.due payload in
          let count : n ≤ length payload = omega (arith, within', long) in
          let below : n ≤ s.due = omega (arith, within', long) in
          let takes = rw same at takes in
          let all : t.wire ≡ s.wire ++ (take n payload ++ chunk_end t.due) =
          rw (wired, so_far, same, take-take n s.due payload below) (append_assoc s.wire (take n payload) (chunk_end t.due)) in
          let part = (part_went s.writer m (take s.due payload) (Ok n) is.block takes) in record {
            goes = record { taken = m; takes = takes; ended = (below, left, ends, all) };
            went = (take n payload ++ chunk_end t.due, goes_went n count below m part t left ends all noted);
            noted = noted;
            whole = goes_whole n count below m part t left ends all noted;
          }

      pub stops : (e : Error) → TakesSome tells trace s.writer part (Err e) m → (wire : List ℕ) → wire ≡ s.wire ++ []
          → WentOn tells trace s payload (Err e) (record s { writer = m; wire = wire })
      stops e takes wire so_far =
          let takes = rw same at takes in
          let still : wire ≡ s.wire = so_far ∙ append-nil s.wire in
          let part = (part_went s.writer m (take s.due payload) (Err e) is.block takes) in
          let t : ChunkedWriterState S = record s { writer = m; wire = wire } in record {
            goes = record { taken = m; takes = takes; ended = (refl, refl, still) };
            went = ([], nothing_went tells trace none joins s t part still refl);
            noted = refl;
            whole = stays_whole t part refl still refl;
          }

  -- a chunk was begun, or not
  module _ (s : ChunkedWriterState S) (is : IsChunkedWriter s) (size : ℕ) where
    begun_went : (t : ChunkedWriterState S) → CopiesSizeLine tells trace size s (Ok tt) t
        → PayloadWent trace s (chunk_begun size []) [] t
    begun_went t b = grind (arith, payload_went, went_on, space_went, puts_went, append-nil)

    not_begun_went : (e : Error) (t : ChunkedWriterState S) → CopiesSizeLine tells trace size s (Err e) t
        → PayloadWent trace s [] [] t
    not_begun_went e t b =
        nothing_went tells trace none joins s t
        (rw b.ended.0 (space_went tells trace none joins s.writer b.spaced around (Err e) is.block b.makes_space)) b.ended.1
        b.calls

  -- a write that begins a chunk
  module _ (s : ChunkedWriterState S) (payload : List ℕ) (some : 0 < length payload) where
    noted_on : (b t : ChunkedWriterState S) (answer : Result ℕ Error) → b.calls ≡ s.calls → IsNoted b payload answer t
        → IsNoted s payload answer t
    noted_on b t answer same noted = grind arith

    module _ (is : IsChunkedWriter s) (between : s.due ≡ 0) (large : s.writer.block.capacity < around + length payload) where
      abbrev size : ℕ
      size = min (length payload) greatest

      -- of such a write the clauses of others say nothing
      large_so : (answer : Result ℕ Error) (t : ChunkedWriterState S)
          → (bytes : List ℕ) × PayloadWent trace s bytes (portion payload answer) t → BeginsChunk tells trace s payload answer t
          → IsNoted s payload answer t → IsChunkedWriter t → WritesChunk tells trace s payload answer t
      large_so answer t went begins noted whole = grind arith

      pub wrote_begun : (b : ChunkedWriterState S) → CopiesSizeLine tells trace size s (Ok tt) b → (answer : Result ℕ Error)
          (t : ChunkedWriterState S) → WentOn tells trace b payload answer t → WritesChunk tells trace s payload answer t
      wrote_begun b begins answer t went = large_so answer t (
        chunk_begun size [] ++ went.went.0,
        PayloadWent-joins trace none joins s b t (chunk_begun size []) went.went.0 [] (portion payload answer)
            (begun_went s is size b begins) went.went.1,
      ) (record { beginning = Ok tt; begun = b; begins = begins; ended = went.goes })
          (noted_on b t answer begins.calls went.noted) went.whole

      pub not_begun : (e : Error) (t : ChunkedWriterState S) → CopiesSizeLine tells trace size s (Err e) t → IsChunkedWriter t
          → WritesChunk tells trace s payload (Err e) t
      not_begun e t begins whole = large_so (Err e) t ([], not_begun_went s is size e t begins)
          (record { beginning = Err e; begun = t; begins = begins; ended = (refl, refl) }) begins.calls whole
