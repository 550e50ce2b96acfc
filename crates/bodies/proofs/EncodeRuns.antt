-- What a whole run of `encode` comes to.
use Rattle.std.proofs.Common.{◌≡◌, ◌≤◌, ℕ, ◌+◌, ◌<◌, inl, inr, List, [], ◌++◌, length, length-append, Result, Ok, Err, OnOk, refl, sym, ap, ◌∙◌, arith, append_assoc, append-nil}
use Rattle.chunked.specs.BodyLaws.{IsBodyOfChunks-same}
use Rattle.chunked.specs.ChunkLaws.{IsChunks-body, chunks_body}
use Rattle.programs.specs.declared.error.RunError.TheVariants.{Io}
use Rattle.forward.specs.declared.error.Cause.TheVariants as cause
use Rattle.bodies.specs.Words.{nil_from_length, All-nil, All-weaker, concat, flat_map, ReadsInOrder-fresh, WritesInOrder-joins, WritesInOrder-none, Forwarded, NoneFailed, StopsBy, ForwardedFirst-all, RunsPromptly-none, MetNoFault-joins, WriteGaveUp-after, WriteGaveUp-so, Cause, Error, WritesInOrder, Buffered, OnlyInterrupts-none, StreamLog, StdPolicy, IsBodyOfChunks, IsCarried, IsChunks, body_end, unbegun, Limits, FilterRules, AllSent, RefusedBeforeCalls, RunError, InputFault, chunk, IsErrorOf, Encoding}
use Rattle.bodies.specs.Encode.{ChunkEachRead, EncodeRan, Encodes, EndsBody, IsCut, IsDue, IsEncodedBody, IsEnded, IsUnended}
use Rattle.bodies.specs.Encoding.{encoding_rules}
use Rattle.bodies.specs.Filters.{each_some}
use Rattle.bodies.specs.Moved.{Moved, MovedAll, all_given, moved_none}

abbrev least : Limits
least = record { line = 16; trailers = 0 }

-- what begins a body and is not all of it begins with none
cut_short : (sent behind payload : List ℕ) → IsBodyOfChunks least (sent ++ behind) payload → 0 < length behind → IsCut sent
cut_short sent behind payload whole some limits body payload' more is begins =
    let same = IsBodyOfChunks-same limits least body (sent ++ behind) payload' payload (more ++ behind) [] is whole
    (sym (append_assoc body more behind) ∙ ap (λ l. l ++ behind) (sym begins) ∙ sym (append-nil (sent ++ behind))) in
    absurd (omega (arith, some, ap length same.0, ap length begins, length-append {A = ℕ}))

-- the body's end, with which chunks are one, wasn't taken in
unended : {read read' written' written'' : StreamLog} (m : Moved read read' written' written'')
    (chunks : IsChunks (m.sent ++ m.unsent) m.taken) → ChunkEachRead chunks.payloads m.rest read.reads read'.reads → IsUnended m
unended m chunks each =
    let whole = rw append_assoc at (IsChunks-body least (omega arith) [] tt (omega arith) (m.sent ++ m.unsent) m.taken chunks) in
    let cut = cut_short m.sent (m.unsent ++ body_end []) m.taken whole (omega (arith, length-append m.unsent (body_end []))) in
    record { chunks = chunks; each = each; cut = cut }

-- a filter before a body
abbrev pub start : {R W : Type 0} → Buffered R StdPolicy → Buffered W StdPolicy → Encoding R W
start first u = record { source = first; target = unbegun u }

-- from empty buffers on
module _ {R W : Type 0} (trace : W → W → Type 0) (first : Buffered R StdPolicy)
    (u : Buffered W StdPolicy) (none : first.block.bytes ≡ []) (none' : u.block.bytes ≡ []) (t : Encoding R W) where
  abbrev rules : FilterRules (Encoding R W) InputFault
  rules = encoding_rules trace

  abbrev begin : Encoding R W
  begin = start first u

  -- what was handed out went over, and these bytes were taken in behind its chunks
  module _ (count : ℕ) (over : Forwarded rules count begin t) (end : List ℕ) (v : Buffered W StdPolicy)
      (taken : WritesInOrder t.target.writer end v) where
    abbrev chunks : List ℕ
    chunks = flat_map chunk over.payloads

    order : WritesInOrder u (chunks ++ end) v
    order = WritesInOrder-joins u t.target.writer v chunks end over.moves.takes.went.in_order taken

    abbrev moved : Moved first.log t.source.log u.log v.log
    moved = record {
      taken = concat over.payloads;
      rest = t.source.block.bytes;
      given = ReadsInOrder-fresh first t.source (concat over.payloads) none over.moves.hands.in_order;
      sent = order.sent;
      unsent = v.block.bytes;
      received = order.received;
    }

    part : order.sent ++ v.block.bytes ≡ chunks ++ end
    part = order.equal ∙ ap (λ l. l ++ (chunks ++ end)) none'

    -- the bytes are given first, so that the list of payloads can be seen
    abbrev is_chunks : (bytes : List ℕ) → bytes ≡ chunks → IsChunks bytes (concat over.payloads)
    is_chunks bytes equal =
        record { payloads = over.payloads; carried = over.moves.takes.carried; equal = equal; joined = refl }

    abbrev moved_all : AllSent v → MovedAll first.log t.source.log u.log v.log
    moved_all sent = record { moved = moved; all = sent.empty; flushed = sent.flushed }

    not_ended : end ≡ [] → IsUnended moved
    not_ended nothing = unended moved
        (is_chunks (order.sent ++ v.block.bytes) (part ∙ ap (λ l. chunks ++ l) nothing ∙ append-nil chunks))
        (record { each = omega (arith, over.moves.hands.each, ap length none); small = over.moves.hands.small })

    is_ended : end ≡ body_end [] → t.source.block.bytes ≡ []
        → t.source.log.reads.zero_reads ≡ first.log.reads.zero_reads + 1 → IsEnded moved
    is_ended all left once =
        let whole = part ∙ ap (λ l. chunks ++ l) all in
        let body : IsEncodedBody (order.sent ++ v.block.bytes) (concat over.payloads) = record {
          chunks = chunks;
          carries = is_chunks chunks refl;
          ended = whole;
          is_body = λ limits line. rw whole (chunks_body limits line over.payloads over.moves.takes.carried);
        } in
        record {
          body = body;
          each = record {
            each = omega (arith, over.moves.hands.each, ap length none, ap length left);
            small = over.moves.hands.small;
          };
          cut = cut_short moved.sent moved.unsent moved.taken (body.is_body least (omega arith));
          all = left;
          ended = once;
        }

  -- the end of the body went over, or not
  module _ (count : ℕ) (over : Forwarded rules count begin t) (left : t.source.block.bytes ≡ []) (met : NoneFailed rules begin t)
      (v : Buffered W StdPolicy) (once : t.source.log.reads.zero_reads ≡ first.log.reads.zero_reads + 1) where
    pub ended : (answer : Result (Unit {0}) (RunError InputFault)) → EndsBody t.target.writer answer v
        → EncodeRan first.log t.source.log u.log v.log answer
    ended (Ok _) end = (
      moved_all count over end.end v end.taken end.answers.1,
      is_ended count over end.end v end.taken end.answers.0 left once,
      MetNoFault-joins met
          (record { reader = OnlyInterrupts-none t.source.log.reads.faults; writer = end.answers.2 }),
    )
    ended (Err why) end =
        rw end.answers.1.1 (
          moved count over end.end v end.taken,
          elim end.answers.0 [
            | inl all ↦ inr (is_ended count over end.end v end.taken all left once)
            | inr nothing ↦ inl (not_ended count over end.end v end.taken nothing)
          ],
          WriteGaveUp-so (λ none. (none.0, left, inr (is_ended count over end.end v end.taken none.1 left once)))
              (WriteGaveUp-after met (record {
                failed = record { reader = OnlyInterrupts-none t.source.log.reads.faults; writer = end.answers.1.2 };
                often = end.answers.1.3;
              })),
        )

  -- the run was stopped, and no end was taken in
  abbrev still : WritesInOrder t.target.writer [] t.target.writer
  still = WritesInOrder-none t.target.writer

  abbrev Ran : RunError InputFault → Type 0
  Ran e = EncodeRan first.log t.source.log u.log t.target.writer.log (Err e)

  pub stopped : (count : ℕ) (why : Cause InputFault) (e : RunError InputFault) → StopsBy rules count begin why t
      → IsErrorOf why e → Ran e
  stopped count (cause.Wrong why) e (over, wrong, sent, met) is = absurd wrong
  stopped count (cause.Read fault) e (over, left, sent, again, failed) is = rw is (
    moved_all count over [] t.target.writer still sent,
    not_ended count over [] t.target.writer still refl,
    left,
    failed,
  )
  stopped count (cause.Write fault) e (p, inr refused) is = absurd refused.1
  stopped count (cause.Write fault) e (p, inl failed) is =
      let over = ForwardedFirst-all rules refl p in
      rw is (
        moved count over [] t.target.writer still,
        inl (not_ended count over [] t.target.writer still refl),
        WriteGaveUp-so (λ none. (
          nil_from_length t.target.writer.block.bytes none.1,
          none.2,
          elim none.3 [ inl never ↦ inl never.zero_reads | inr closed ↦ absurd closed ],
        )) failed,
      )
  stopped count cause.Count e (over, large, met) is = rw is.2 (
    moved count over [] t.target.writer still,
    not_ended count over [] t.target.writer still refl,
    inl (record {
      other = is.1;
      large = omega (
        arith,
        large,
        over.all,
        each_some over.payloads (All-weaker IsCarried (λ l. 0 < length l)
            (λ l carried. carried.0) over.payloads over.moves.takes.carried),
      );
      met = met;
    }),
  )

-- where all went well: what was read is the payload of what was written
pub encode_says : {read read' written' written'' : StreamLog} (answer : Result (Unit {0}) (RunError InputFault))
    → Encodes read read' written' written'' answer → OnOk answer ((body : List ℕ) × (payload : List ℕ)
    × IsEncodedBody body payload × (read'.reads.given ≡ read.reads.given ++ payload)
    × (written''.writes.received ≡ written'.writes.received ++ body))
encode_says (Ok _) encodes =
    let m = encodes.ran.0.moved in
    let ended = encodes.ran.1 in
    let body = rw (encodes.ran.0.all, append-nil) at ended.body in (m.sent, m.taken, body, all_given m ended.all, m.received)
encode_says (Err e) encodes = tt

-- a buffer was refused
pub refused : (read read' written written' : StreamLog) (e : Error) → RefusedBeforeCalls e read read' written written'
    → Encodes read read' written written' (Err (Io e))
refused read read' written written' e p =
    let moved = moved_none read written in
    let none_yet : IsChunks [] [] = record { payloads = []; carried = All-nil IsCarried; equal = refl; joined = refl } in
    rw (p.read_same, p.written_same) (record {
      ran = (
        moved,
        unended moved none_yet (record { each = omega arith; small = All-nil (λ payload. length payload ≤ 8192) }),
        inr (rw (p.read_same, p.written_same) at p),
      );
      offers = inl refl;
      promptly = RunsPromptly-none IsDue 1 read written;
    })
