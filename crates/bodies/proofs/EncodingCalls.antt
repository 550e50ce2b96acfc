-- What a chunk does to the writer, and what the calls of a filter of chunks do.
use Rattle.std.proofs.Common.{◌≡◌, ℕ, ◌+◌, ◌<◌, ◌≤◌, inl, inr, List, [], length, length-take-le, take, Result, Ok, Err, refl, subst, sym, ap, ◌∙◌, arith, rules, length-append, zero, suc, ◌∷◌, ◌++◌, true, Option, append-nil}
use Rattle.forward.specs.declared.error.AskError.TheVariants.{Io}
use Rattle.bodies.specs.Words.{portion, All-cons, All-nil, cases_lt, flat_map, IsBlock, usable, ReadsIntoBuf, zero_of_some, ReadsOnce, taken_payloads, ChunksWent-none, TakesAll-not_passed, TakesAll-passed, around, FilterAsks, Buffered, chunk, ChunkedWriterState, ChunksWent, Error, FilterRules, line_end, All, FilterPasses, PassAnswers, ReadsInOrder, room, InputFault, size_digits, StdPolicy, StreamLog, TakesAll, taken_more, WritesChunk, Encoding}
use Rattle.bodies.specs.Encoding.{encoding_rules, MayEncode}
use Rattle.bodies.specs.EncodingLaws.{HandsReads-none}
use Rattle.bodies.proofs.Ending.{takes_put}

-- the answer of a write, whatever it took
abbrev wrote_all : Result ℕ Error → Result (Unit {0}) Error
wrote_all (Ok n) = Ok tt
wrote_all (Err e) = Err e

module _ {W : Type 0} (tells : W → StreamLog) (trace : W → W → Type 0) where
  module _ (b c : ChunkedWriterState W) (payload : List ℕ) (some : 0 < length payload) (between : b.due ≡ 0)
      (small : around + length payload ≤ b.writer.block.capacity) where
    -- a chunk is all of the payload, and is taken in whole
    pub chunk_whole : (n : ℕ) → WritesChunk tells trace b payload (Ok n) c → n ≡ length payload
    chunk_whole n p = elim (cases_lt (room b.writer) (around + length payload)) [
      | inl none ↦ (p.full some between none small).0
      | inr there ↦ (let is = (p.fits some between there).0 in cc)
    ]

    pub chunk_takes : (answer : Result ℕ Error) → WritesChunk tells trace b payload answer c
        → TakesAll (around + length payload) (λ _. ⊥) b.writer (flat_map chunk (taken_payloads payload answer))
        (wrote_all answer) c.writer
    chunk_takes (Ok n) p =
        takes_put tells trace (λ there. (p.fits some between there).1) (λ none. (p.full some between none small).1)
        (p.chunks between small).went.in_order (omega arith)
    chunk_takes (Err e) p = record {
      taken = (p.chunks between small).went.in_order;
      fits = λ fit. (let odd = (p.fits some between (omega (arith, fit))).0 in cc);
      sends = λ none. record {
        sending = Err e;
        left = c.writer.block;
        sends = (p.full some between (omega (arith, none)) small).sends;
        ended = (refl, refl);
      };
    }

module _ {R W : Type 0} {s : Encoding R W} (ready : MayEncode s) (trace : W → W → Type 0) where
  abbrev chunking : FilterRules (Encoding R W) InputFault
  chunking = encoding_rules trace

  -- what is buffered is made a chunk
  module _ (tells : W → StreamLog) (some : 0 < length s.source.block.bytes) (held : IsBlock s.source.block)
      (c : ChunkedWriterState W) where
    small : around + length s.source.block.bytes ≤ s.target.writer.block.capacity
    small = omega (arith, held.fits, ready.fits, ready.capacity)

    pub not_passed : (e : Error) → WritesChunk tells trace s.target s.source.block.bytes (Err e) c
        → FilterPasses chunking s (Err e) (record s { target = c })
    not_passed e p =
        let chunks = p.chunks ready.between small in
        let takes = chunk_takes tells trace s.target c s.source.block.bytes some ready.between small (Err e) p in
        let answers : PassAnswers chunking s (Err e) (record s { target = c }) =
        ([], record { hands = HandsReads-none s.source; takes = chunks }, omega arith) in
        search (rules, TakesAll-not_passed)

    pub passed : (n : ℕ) → n ≤ length s.source.block.bytes → WritesChunk tells trace s.target s.source.block.bytes (Ok n) c
        → (t : Buffered R StdPolicy) → ReadsInOrder s.source (take n s.source.block.bytes) t
        → t.log ≡ s.source.log → t.block.capacity ≡ s.source.block.capacity
        → FilterPasses chunking s (Ok true) (record s { source = t; target = c })
    passed zero within p t gone told same =
        absurd (omega (arith, some, chunk_whole tells trace s.target c s.source.block.bytes some ready.between small 0 p))
    passed (suc n) within p t gone told same =
        let payload = take (suc n) s.source.block.bytes in
        let whole = chunk_whole tells trace s.target c s.source.block.bytes some ready.between small (suc n) p in
        let chunks = p.chunks ready.between small in
        let takes = chunk_takes tells trace s.target c s.source.block.bytes some ready.between small (Ok (suc n)) p in
        let len = length-take-le (suc n) s.source.block.bytes within in
        let bytes : around + length s.source.block.bytes ≤ length (chunk payload ++ []) + around = omega (
          arith,
          whole,
          len,
          length-append (chunk payload) [],
          length-append (size_digits (length payload)) (line_end (payload ++ line_end [])),
          length-append payload (line_end []),
        ) in
        let same_given = ap (λ l. length l.reads.given) told in
        let left : length t.block.bytes ≡ 0 =
        omega (arith, whole, len, same_given, ap length gone.equal, ap length gone.given, length-append {A = ℕ}) in
        let wrote = TakesAll-passed s.target.writer c.writer around 0 {Other = λ _. ⊥} takes bytes (omega (arith, bytes, some))
        (λ _. chunks.went.capacity) (omega (arith, chunks.went.capacity)) in
        let small = All-cons (λ payload. length payload ≤ 8192) payload []
        (omega (arith, within, len, held.fits, ready.capacity)) (All-nil (λ payload. length payload ≤ 8192)) in
        let order = subst (λ l. ReadsInOrder s.source l t) (sym (append-nil payload)) gone in
        let more = taken_more s.target.writer c.writer _ takes.taken in
        let answers : PassAnswers chunking s (Ok true) (record s { source = t; target = c }) =
        (payload, search rules, inl (omega (arith, bytes, some, more))) in
        search rules

  -- the reader was asked, once, for a whole buffer
  module _ (none : (x : W) → trace x x) (joins : (a b c : W) → trace a b → trace b c → trace a c)
      (lacks : s.source.block.bytes ≡ []) (held : IsBlock s.source.block) {t : Buffered R StdPolicy}
      (order : ReadsInOrder s.source [] t) where
    room_is : usable s.source.block ≡ 8192
    room_is = grind (arith, held, ready, lacks)

    none_taken : ChunksWent trace s.target [] s.target
    none_taken = ChunksWent-none trace none joins s.target

    none_large : All (λ (payload : List ℕ). length payload ≤ 8192) []
    none_large = All-nil (λ payload. length payload ≤ 8192)

    module _ {remaining : R → Option (List ℕ)} {answer : Result ℕ Error} (p : ReadsIntoBuf remaining s.source answer t) where
      once : ReadsOnce s.source.block s.source.log answer t.block t.log
      once = p.read.read (omega (arith, room_is))

      shown : t.block.bytes ≡ portion once.out answer
      shown = once.added.bytes ∙ ap (λ l. l ++ portion once.out answer) lacks

      given : length t.log.reads.given ≡ length s.source.log.reads.given + length (portion once.out answer)
      given = ap (λ l. length l.reads.given) once.told ∙ length-append s.source.log.reads.given (portion once.out answer)

    -- something came
    pub came_some : {remaining : R → Option (List ℕ)} (n : ℕ) → 0 < n → ReadsIntoBuf remaining s.source (Ok n) t
        → FilterAsks chunking s (Ok true) (record s { source = t })
    came_some n some p = search (
      rules,
      room_is,
      none_taken,
      none_large,
      once p,
      shown p,
      given p,
      zero_of_some n (once p).out s.source.log.reads.zero_reads (inl some),
    )

    -- the read failed
    pub read_failed : {remaining : R → Option (List ℕ)} (e : Error) → ReadsIntoBuf remaining s.source (Err e) t
        → FilterAsks chunking s (Err (Io e)) (record s { source = t })
    read_failed e p = search (
      rules,
      room_is,
      none_taken,
      none_large,
      once p,
      shown p,
      given p,
      length-append s.source.log.reads.faults (e ∷ []),
    )
