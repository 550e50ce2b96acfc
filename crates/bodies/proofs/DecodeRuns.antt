-- What a whole run of `decode` comes to.
use Rattle.std.proofs.Common.{◌≡◌, ◌⊎◌, ℕ, inl, inr, List, [], ◌++◌, length, length-append, ◌≤◌, Option, Result, Ok, Err, OnOk, refl, sym, ap, subst, ◌∙◌, arith, append_assoc, append-nil}
use Rattle.std.specs.Global.{Vec}
use Rattle.chunked.specs.declared.place.Place.TheVariants.{Line}
use Rattle.forward.specs.declared.error.Cause.TheVariants as cause
use Rattle.bodies.specs.Words.{Error, Buffered, StreamLog, StdPolicy, IsBodyOfChunks, TookWholeBody, BreaksAt, begun, chunked, Limits, FilterRules, AllSent, RefusedBeforeCalls, MetNoFault, RunError, InputFault, concat, nil_from_length, ReadsInOrder-fresh, Leads-none, Malformed, ForwardAnswers, Forwarded, StopsBy, ForwardedFirst-all, RunsPromptly-none, WriteGaveUp-so, Cause, IsErrorOf, Decoding}
use Rattle.bodies.specs.Decode.{DecodeRan, DecodesBody, IsBodyPart, IsDue}
use Rattle.bodies.specs.Decoding.{MayDecode, NoneBuffered, PayloadEnds, decoding_rules, held_payload}
use Rattle.bodies.specs.DecodingLaws.{none_held}
use Rattle.bodies.specs.Filters.{each_some}
use Rattle.bodies.specs.Moved.{Moved, MovedAll, all_given, moved_none}
use Rattle.programs.specs.declared.error.RunError.TheVariants.{Io, Wrong}
use Rattle.bodies.specs.declared.fault.InputFault.TheVariants.{NotChunked, Truncated, Behind}

-- a filter before a body
abbrev pub start : {R W : Type 0} → Limits → Buffered R StdPolicy → Buffered W StdPolicy → Vec ℕ → Decoding R W
start limits first u piece =
    record { source = begun (chunked limits) first (record { 0 = limits }); target = u; piece = piece; held = 0 }

-- from empty buffers on
module _ {R W : Type 0} (remaining : R → Option (List ℕ)) (limits : Limits) (first : Buffered R StdPolicy)
    (u : Buffered W StdPolicy) (piece : Vec ℕ) (none : first.block.bytes ≡ []) (none' : u.block.bytes ≡ [])
    (t : Decoding R W) (ready : MayDecode t) where
  abbrev rules : FilterRules (Decoding R W) InputFault
  rules = decoding_rules remaining

  abbrev begin : Decoding R W
  begin = start limits first u piece

  abbrev Ran : Result (Unit {0}) (RunError InputFault) → Type 0
  Ran answer = DecodeRan limits first.log t.source.reader.log u.log t.target.log answer

  -- what was handed out went over
  module _ (count : ℕ) (over : Forwarded rules count begin t) where
    abbrev payload : List ℕ
    payload = over.moves.hands.payload

    parted : payload ≡ concat over.payloads ++ held_payload t
    parted = sym (ap (λ l. l ++ payload) (none_held remaining begin refl)) ∙ over.moves.hands.order

    abbrev moved : Moved first.log t.source.reader.log u.log t.target.log
    moved =
        let went = over.moves.hands.went in
        record {
          taken = t.source.taken;
          rest = t.source.reader.block.bytes;
          given = ReadsInOrder-fresh first t.source.reader went.wire none went.along.in_order
              ∙ ap (λ l. first.log.reads.given ++ (l ++ t.source.reader.block.bytes)) (sym went.taken);
          sent = over.moves.takes.in_order.sent;
          unsent = t.target.block.bytes ++ held_payload t;
          received = over.moves.takes.in_order.received;
        }

    -- all payload was sent, or is unsent
    parts : moved.sent ++ moved.unsent ≡ payload
    parts = sym (append_assoc moved.sent t.target.block.bytes (held_payload t))
        ∙ ap (λ l. l ++ held_payload t)
        (over.moves.takes.in_order.equal ∙ ap (λ l. l ++ concat over.payloads) none') ∙ sym parted

    -- the payload in what was taken, by other names of it
    abbrev part : (bytes : List ℕ) → bytes ≡ payload → IsDue limits t.source.taken bytes
    part bytes same = record {
      place = t.source.place;
      part = subst (λ l. IsBodyPart limits t.source.taken l t.source.place) (sym same) (record {
        leads = rw (over.moves.hands.went.coding, over.moves.hands.went.handed) at ready.whole.leads;
        is_place = ready.whole.place;
      });
    }

    is_body : (bytes : List ℕ) → bytes ≡ payload → TookWholeBody (chunked t.source.coding.0) t.source
        → IsBodyOfChunks limits t.source.taken bytes
    is_body bytes same whole = rw same (rw (over.moves.hands.went.coding, over.moves.hands.went.handed) at whole)

    abbrev due : IsDue limits t.source.taken (moved.sent ++ moved.unsent)
    due = part (moved.sent ++ moved.unsent) parts

    -- where no payload is buffered, none follows
    none_left : NoneBuffered t.source → IsBodyOfChunks limits t.source.taken (moved.sent ++ moved.unsent)
        ⊎ ((t.source.reader.block.bytes ≡ [])
        ⊎ ((why : Malformed) × BreaksAt limits t.source.place t.source.taken t.source.reader.block.bytes why))
    none_left (inl whole) = inl (is_body (moved.sent ++ moved.unsent) parts whole)
    none_left (inr (inl left)) = inr (inl left)
    none_left (inr (inr (why, breaks))) = inr (inr (why, rw over.moves.hands.went.coding at breaks))

    -- there are no more payloads than bytes of them
    counted : count ≤ length (moved.sent ++ moved.unsent)
    counted =
        let some = each_some over.payloads over.moves.hands.some in
        omega (arith, over.all, some, ap length parts, ap length parted, length-append {A = ℕ})

    -- what went over was sent
    module _ (held : t.held ≡ 0) (sent : AllSent t.target) where
      abbrev moved_all : MovedAll first.log t.source.reader.log u.log t.target.log
      moved_all = record {
        moved = moved;
        all = ap (λ l. l ++ held_payload t) sent.empty ∙ none_held remaining t held;
        flushed = sent.flushed;
      }

      all_sent : moved.sent ≡ payload
      all_sent = sym (append-nil moved.sent) ∙ ap (λ l. moved.sent ++ l) (sym moved_all.all) ∙ parts

      abbrev part_sent : IsDue limits t.source.taken moved.sent
      part_sent = part moved.sent all_sent

      sent_body : TookWholeBody (chunked t.source.coding.0) t.source → IsBodyOfChunks limits t.source.taken moved.sent
      sent_body = is_body moved.sent all_sent

      -- what comes next is wrong, or missing, or more than the body
      wrong : (why : InputFault) → PayloadEnds begin.source (Err why) t.source
          → MetNoFault first.log t.source.reader.log u.log t.target.log → Ran (Err (Wrong why))
      wrong (NotChunked why right) (breaks, count) met =
          (moved_all, part_sent, rw over.moves.hands.went.coding at breaks, count, met)
      wrong (Truncated right) (none, left, dry, count) met =
          (moved_all, part_sent, rw over.moves.hands.went.coding at none, left, dry, count, met)
      wrong (Behind right) (whole, some, count) met = (moved_all, sent_body whole, some, count, met)

  -- all went over
  pub ended : (count : ℕ) → ForwardAnswers rules begin (Ok count) t → Ran (Ok tt)
  ended count (over, (held, (whole, left, dry, offer)), sent, met) =
      (moved_all count over held sent, sent_body count over held sent whole, left, dry, met, offer)

  -- the run was stopped
  pub stopped : (count : ℕ) (why : Cause InputFault) (e : RunError InputFault) → StopsBy rules count begin why t → IsErrorOf why e
      → Ran (Err e)
  stopped count (cause.Wrong why) e (over, (held, end), sent, met) is = rw is (wrong count over held sent why end met)
  stopped count (cause.Read fault) e (over, (held, left), sent, again, failed) is =
      rw is (moved_all count over held sent, part_sent count over held sent, left, failed)
  stopped count (cause.Write fault) e (first, inr refused) is = absurd refused.1
  stopped count (cause.Write fault) e (first, inl failed) is =
      let over = ForwardedFirst-all rules refl first in
      rw is (
        moved count over,
        due count over,
        WriteGaveUp-so (λ none. (
          ap (λ l. l ++ held_payload t) (nil_from_length t.target.block.bytes none.1) ∙ none_held remaining t none.2.0,
          none_left count over none.2.1,
        )) failed,
      )
  stopped count cause.Count e (over, large, met) is = rw is.2 (
    moved count over,
    due count over,
    inl (record { other = is.1; large = omega (arith, large, counted count over); met = met }),
  )

-- where all went well: what was written is the payload of what was read
pub decode_says : {limits : Limits} {read read' written written' : StreamLog} (answer : Result (Unit {0}) (RunError InputFault))
    → DecodesBody limits read read' written written' answer → OnOk answer ((body : List ℕ) × (payload : List ℕ)
    × IsBodyOfChunks limits body payload × (read'.reads.given ≡ read.reads.given ++ body)
    × (written'.writes.received ≡ written.writes.received ++ payload))
decode_says (Ok _) decodes =
    let m = decodes.ran.0.moved in (m.taken, m.sent, decodes.ran.1, all_given m decodes.ran.2, m.received)
decode_says (Err e) decodes = tt

-- a buffer was refused
pub refused : (limits : Limits) (read read' written written' : StreamLog) (e : Error)
    → RefusedBeforeCalls e read read' written written' → DecodesBody limits read read' written written' (Err (Io e))
refused limits read read' written written' e p = rw (p.read_same, p.written_same) (record {
  ran = (
    moved_none read written,
    record { place = Line; part = record { leads = Leads-none (chunked limits) Line []; is_place = tt } },
    inr (rw (p.read_same, p.written_same) at p),
  );
  promptly = RunsPromptly-none (IsDue limits) 1 read written;
})
