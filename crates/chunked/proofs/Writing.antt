-- What goes into a buffered writer, and what a whole chunk and the end of a body do there.
use Rattle.std.proofs.Common.{◌≡◌, ℕ, ◌+◌, ◌^◌, ◌<◌, ◌≤◌, List, [], ◌∷◌, ◌++◌, length, take, Result, Ok, sym, subst, ◌∙◌, arith, refl, append-nil}
use Rattle.chunked.specs.Names.{accepted_of, after_write, All, All-cons, All-nil, AllByRecursion, around, Block, body_end, Buffered, chunk, ChunkedWriterState, ChunksWent, Error, Finishes, IsBlock, IsCarried, IsChunkedWriter, IsTrailer, Kind, limit_of, MakesSpace, PayloadWent, PutsIn, PutsIn-order, room, SendsFirst, StdPolicy, StreamLog, take_all, taken_payloads, WritesChunk, WritesInOrder-contents, WritesInOrder-joins, WritesInOrder-none}
use Rattle.buffer_redux.specs.BufWriter.{WasSent, WritesInOrder}
use Rattle.chunked.specs.ChunkLaws.{IsChunks-body, IsChunks-joins}
use Rattle.chunked.specs.TrailersLaws.{trailers_are_fields}

-- no block is larger than a chunk may be
limit_small : (k : Kind) → limit_of k ≤ 2 ^ 62
limit_small k = grind arith

pub block_small : (b : Block) → IsBlock b → b.capacity ≤ 2 ^ 62
block_small b is = omega (arith, is.limit, is.most, limit_small b.kind)

-- these bytes went in behind what was buffered, or sent
pub record WentIn {S : Type 0} (trace : S → S → Type 0) (s : Buffered S StdPolicy) (bytes : List ℕ) (t : Buffered S StdPolicy)
    : Type 0 where
  pub in_order : WritesInOrder s bytes t
  pub went : trace s.inner t.inner
  pub noted : t.own_calls ≡ s.own_calls
  pub capacity : t.block.capacity ≡ s.block.capacity
  pub limit : t.block.limit ≡ s.block.limit
  pub whole : IsBlock t.block

module _ {S : Type 0} (tells : S → StreamLog) (trace : S → S → Type 0) (none : (a : S) → trace a a)
    (joins : (a b c : S) → trace a b → trace b c → trace a c) where
  pub went_on : (s m t : Buffered S StdPolicy) (a b : List ℕ) → WentIn trace s a m → WentIn trace m b t
      → WentIn trace s (a ++ b) t
  went_on s m t a b p q = grind (arith, WritesInOrder-joins, joins)

  puts_none : (s : Buffered S StdPolicy) → IsBlock s.block → WentIn trace s [] s
  puts_none s whole = grind (arith, WritesInOrder-none, none)

  pub puts_went : (s t : Buffered S StdPolicy) (bytes : List ℕ) → PutsIn s bytes t → WentIn trace s bytes t
  puts_went s t bytes puts = grind (arith, PutsIn-order, none)

  pub sent_went : (s t : Buffered S StdPolicy) (answer : Result (Unit {0}) Error) → WasSent tells trace s answer t
      → WentIn trace s [] t
  sent_went s t answer sent = grind arith

  pub space_went : (s t : Buffered S StdPolicy) (n : ℕ) (answer : Result (Unit {0}) Error) → IsBlock s.block
      → MakesSpace tells trace n s answer t → WentIn trace s [] t
  space_went s t n answer whole made = grind (arith, sent_went, puts_none)

  -- all was sent, as there was no space
  pub sent_first : (s m : Buffered S StdPolicy) (n : ℕ) (answer : Result (Unit {0}) Error) → room s < n
      → WasSent tells trace s answer m → MakesSpace tells trace n s answer m
  sent_first s m n answer full sent = grind arith

  -- there was space
  pub had_space : (s : Buffered S StdPolicy) (n : ℕ) → n ≤ room s → MakesSpace tells trace n s (Ok tt) s
  had_space s n there = grind arith

  -- space was made, and these bytes were copied in
  module _ (s m t : Buffered S StdPolicy) (n : ℕ) (spaced : MakesSpace tells trace n s (Ok tt) m) (bytes : List ℕ)
      (puts : PutsIn m bytes t) where
    pub straight : n ≤ room s → PutsIn s bytes t
    straight there = grind arith

    pub behind : room s < n → SendsFirst tells trace s bytes t
    behind full = record { sent = m; sends = spaced.full full; puts = puts }

  -- bytes of the body went in, with some payload
  pub payload_went : (s t : ChunkedWriterState S) (bytes payload : List ℕ) → WentIn trace s.writer bytes t.writer
      → t.wire ≡ s.wire ++ bytes → accepted_of t ≡ accepted_of s ++ payload → PayloadWent trace s bytes payload t
  payload_went s t bytes payload went wire accepted = grind arith

  -- and none did
  pub nothing_went : (s t : ChunkedWriterState S) → WentIn trace s.writer [] t.writer → t.wire ≡ s.wire → t.calls ≡ s.calls
      → PayloadWent trace s [] [] t
  nothing_went s t went wire calls = grind (arith, payload_went, append-nil)

  taken_some : (payload : List ℕ) (n : ℕ) → 0 < n → taken_payloads payload (Ok n) ≡ take n payload ∷ []
  taken_some payload n some = grind arith

  -- a chunk that fits the capacity
  module _ (s : ChunkedWriterState S) (is : IsChunkedWriter s) (between : s.due ≡ 0) (payload : List ℕ)
      (some : 0 < length payload) (small : around + length payload ≤ s.writer.block.capacity) where
    -- it went in whole
    module _ (m t : Buffered S StdPolicy)
        (spaced : MakesSpace tells trace (around + length payload) s.writer (Ok tt) m) (puts : PutsIn m (chunk payload) t)
        (wire : List ℕ) (wired : wire ≡ s.wire ++ chunk payload) (calls : StreamLog)
        (noted : calls ≡ after_write s.calls payload (Ok (length payload))) where
      abbrev Left : ChunkedWriterState S
      Left = record { writer = t; wire = wire; calls = calls; due = s.due }

      went_in : WentIn trace s.writer (chunk payload) t
      went_in = went_on s.writer m t [] (chunk payload)
          (space_went s.writer m (around + length payload) (Ok tt) is.block spaced) (puts_went m t (chunk payload) puts)

      carried : IsCarried payload
      carried = grind (arith, block_small)

      one : All IsCarried (payload ∷ [])
      one = All-cons IsCarried payload [] carried (All-nil IsCarried)

      all : take (length payload) payload ≡ payload
      all = take_all (length payload) payload (omega arith)

      accepted_more : accepted_of Left ≡ accepted_of s ++ take (length payload) payload
      accepted_more = grind arith

      pub whole : IsChunkedWriter Left
      whole = record {
        whole = λ _. rw (wired, noted, all)
            (simp append-nil at (IsChunks-joins s.wire (accepted_of s) (payload ∷ []) (is.whole between) one));
        begun = λ within. absurd (omega (arith, within, between));
        block = puts.whole;
        capacity = omega (arith, went_in.capacity, is.capacity);
      }

      went : PayloadWent trace s (chunk payload) (take (length payload) payload) Left
      went = payload_went s Left (chunk payload) (take (length payload) payload) went_in wired accepted_more

      chunks : ChunksWent trace s (payload ∷ []) Left
      chunks = record {
        carried = one;
        went = simp append-nil (rw all at went);
        due = refl;
      }

      pub wrote : WritesChunk tells trace s payload (Ok (length payload)) Left
      wrote = record {
        went = (chunk payload, went);
        nothing = λ nothing. absurd (omega (arith, nothing, some));
        chunks = λ _ _. rw (taken_some payload (length payload) some, all) chunks;
        fits = λ _ _ there. (refl, straight s.writer m t (around + length payload) spaced (chunk payload) puts there);
        full = λ _ _ full _. (refl, behind s.writer m t (around + length payload) spaced (chunk payload) puts full);
        begins = λ _ large. absurd (omega (arith, large, small));
        goes_on = λ _ within. absurd (omega (arith, within, between));
        noted = noted;
        whole = whole;
      }

  -- an empty payload
  module _ (s : ChunkedWriterState S) (is : IsChunkedWriter s) (payload : List ℕ) (empty : length payload ≡ 0)
      (calls : StreamLog) (noted : calls ≡ after_write s.calls payload (Ok 0)) where
    abbrev Still : ChunkedWriterState S
    Still = record s { calls = calls }

    still_went : PayloadWent trace s [] [] Still
    still_went = grind (arith, payload_went, puts_none, append-nil)

    same_payload : accepted_of s ≡ accepted_of Still
    same_payload = sym (append-nil (accepted_of s)) ∙ sym still_went.accepted

    pub wrote_nothing : WritesChunk tells trace s payload (Ok 0) Still
    wrote_nothing = grind (arith, All-nil, still_went, same_payload)

  -- the end of the body went in behind the chunks
  pub finishes : (v s : ChunkedWriterState S) → v ≡ s → (is : IsChunkedWriter v) → v.due ≡ 0 → (m t : Buffered S StdPolicy)
      → (fields : List (List ℕ)) → AllByRecursion IsTrailer fields → (n : ℕ) → n ≡ length (body_end fields)
      → MakesSpace tells trace n v.writer (Ok tt) m → PutsIn m (body_end fields) t → Finishes tells trace s fields t
  finishes v s same is between m t fields lines n len spaced puts =
      let there = subst (λ k. MakesSpace tells trace k v.writer (Ok tt) m) len spaced in
      let made = space_went v.writer m (length (body_end fields)) (Ok tt) is.block there in
      subst (λ c. Finishes tells trace c fields t) same (record {
        between = between;
        lines = lines;
        in_order = (went_on v.writer m t [] (body_end fields) made (puts_went m t (body_end fields) puts)).in_order;
        body = λ limits lets. IsChunks-body limits lets.0 fields (trailers_are_fields fields lines) lets.1 v.wire
            (accepted_of v) (is.whole between);
        fits = straight v.writer m t (length (body_end fields)) there (body_end fields) puts;
        full = behind v.writer m t (length (body_end fields)) there (body_end fields) puts;
      })

  -- what the writer holds gained the end of the body
  pub ended : (s : ChunkedWriterState S) (fields : List (List ℕ)) (t : Buffered S StdPolicy)
      → Finishes tells trace s fields t
      → t.log.writes.received ++ t.block.bytes ≡ (s.writer.log.writes.received ++ s.writer.block.bytes) ++ body_end fields
  ended s fields t finishes = grind (arith, WritesInOrder-contents)
