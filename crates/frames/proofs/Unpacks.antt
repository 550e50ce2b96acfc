-- What the calls of a filter of frames do, and what a whole run of `unpack` comes to.
use Rattle.std.proofs.Common.{◌≡◌, ℕ, ◌+◌, ◌<◌, ◌⊎◌, inl, inr, Bool, true, false, if◌then◌else◌, nat_lt, List, [], length, Option, None, Some, Ok, Err, refl, sym, ap, subst, ◌∙◌, arith, ◌++◌, Result, append-nil, append_assoc}
use Rattle.std.proofs.lemmas.Bool.{true≢false}
use Rattle.std.proofs.Math.Seq.{take-append_seam}
use Rattle.std.proofs.lemmas.List.Concat.{flat_map-append}
use Rattle.std.proofs.lemmas.List.Elements.{All-nil, All-take}
use Rattle.std.specs.declared.io.ErrorKind.TheVariants.{OutOfMemory}
use Rattle.codec.specs.NextPieceLaws.{MetEnd-once}
use Rattle.forward.specs.PromptLaws.{RunsPromptly-none}
use Rattle.forward.specs.StreamsLaws.{WriteGaveUp-so}
use Rattle.forward.specs.declared.error.AskError.TheVariants as ask
use Rattle.frame_reader.specs.Frames.{BeginsAbove}
use Rattle.frame_reader.specs.Next.{FrameAnswer, Next, as_piece_answer}
use Rattle.frame_reader.specs.NextLaws.{NextPiece-reads}
use Rattle.frame_reader.specs.declared.error.FrameError.TheVariants as error
use Rattle.frame_reader.specs.declared.frame.FrameFault.TheVariants as Fault
use Rattle.frame_reader.specs.declared.frame.Frames.{Frames}
use Rattle.piece_filter.specs.PieceRuns.{Over, all_received}
use Rattle.piece_filter.specs.Pieces.{HasEnded, IsReady, Keeps, piece_rules}
use Rattle.piece_filter.specs.PiecesCalls as pieces
use Rattle.piece_filter.specs.PiecesLaws.{coded_all}
use Rattle.frames.specs.Words.{All, AllSent, FilterAsks, Begins, bytes_at, Error, error_kind, Fits, ForwardAnswers, framed, frames, GaveNothing, IsCutShort, IsLent, IsOpen, MetNoFault, RanDry, ReaderState, rest, room_for, RunError, InputFault, Span, Stopped, StreamLog, with_newline, with_newlines}
use Rattle.programs.specs.Outcome.{Returns}
use Rattle.frames.specs.Unpack.{IsDue, Unpacked, UnpackedFirst, UnpackRan, Unpacks}
use Rattle.frames.specs.Unpacking.{unpacking}
use Rattle.frames.specs.UnpackingLaws.{all_frames, unpacking_sound}
use Rattle.programs.specs.declared.error.RunError.TheVariants.{Io, Wrong}
use Rattle.frames.specs.declared.fault.InputFault.TheVariants.{TooLong, Truncated}
use Rattle.frames.specs.declared.unpacking.Unpacking.{Unpacking}
use Rattle.frames.proofs.PieceRuns.{outcome_ran}

-- frames are taken still where the limit, the kind of the buffer and its capacity didn't change
pub frames_on : {R W : Type 0} (s t : Unpacking R W) → (unpacking {R = R} {W = W}).also s
    → t.source.decoder ≡ s.source.decoder → t.source.ended ≡ false → t.target.block.kind ≡ s.target.block.kind
    → t.target.block.capacity ≡ s.target.block.capacity → (unpacking {R = R} {W = W}).also t
frames_on s t takes decoder told kind capacity = record {
  target = record {
    plain = kind ∙ takes.target.plain;
    capacity = omega (arith, takes.target.capacity, capacity, ap (λ d. d.max) decoder);
  };
  told = told;
}

-- what is nothing, or cut short, has fewer bytes than the longest frame
few : (max : ℕ) (bytes : List ℕ) → (bytes ≡ []) ⊎ IsCutShort max bytes → length bytes < 2 + max
few max bytes (inl none) = omega (arith, ap length none)
few max bytes (inr (inl one)) = omega (arith, one)
few max bytes (inr (inr cut)) = omega (arith, cut.short, cut.fits)

-- the reader was asked for the next payload
module _ {R W : Type 0} (remaining : R → Option (List ℕ)) {s : Unpacking R W} (ready : IsReady unpacking s)
    (lacks : s.held ≡ None) (m : ReaderState R Frames) where
  abbrev after : Option Span → Unpacking R W
  after h = record s { source = m; held = h }

  abbrev kept : (h : Option Span) → Keeps unpacking s (after h)
  kept h = record { target = refl; service = refl; sent = λ sent. sent }

  takes_then : (answer : FrameAnswer) → Next remaining s.source answer m → (h : Option Span)
      → (unpacking {R = R} {W = W}).also (after h)
  takes_then answer next h = frames_on s (after h) ready.also next.piece.went.decoder
      (NextPiece-reads remaining s.source m (as_piece_answer answer) next.piece).told refl refl

  pub asked_more : (span : Span) → IsLent (framed m.decoder.max) m.handed m.reader.block.bytes span
      → ¬ (Begins (framed s.source.decoder.max) (rest s.source))
      → Next remaining s.source (Ok (Some (bytes_at span m.reader.block.bytes))) m
      → FilterAsks (piece_rules remaining unpacking) s (Ok true) (after (Some span))
  asked_more span lent no_piece next =
      pieces.asked_more remaining unpacking ready (after (Some span)) lacks (kept (Some span))
      (takes_then (Ok (Some (bytes_at span m.reader.block.bytes))) next (Some span)) ready.also.told span refl lent no_piece
      next.piece

  -- none came
  pub asked_none : Next remaining s.source (Ok None) m → FilterAsks (piece_rules remaining unpacking) s (Ok false) (after s.held)
  asked_none next = pieces.asked_none remaining unpacking ready (after s.held) lacks (kept s.held)
      (takes_then (Ok None) next s.held) ready.also.told lacks next.piece

  pub asked_long : (len : ℕ) → Next remaining s.source (Err (error.TooLong len)) m
      → FilterAsks (piece_rules remaining unpacking) s (Err (ask.Wrong TooLong)) (after s.held)
  asked_long len next = pieces.asked_wrong remaining unpacking ready (after s.held) lacks (kept s.held)
      (takes_then (Err (error.TooLong len)) next s.held) ready.also.told lacks (Fault.TooLong len) next.piece TooLong
      (inl (
        refl,
        subst (λ d. BeginsAbove d.max (rest m)) (sym next.piece.went.decoder)
            (record { len = len; above = next.leaves.0; begins = next.leaves.1 }),
      ))

  pub asked_cut : (have : ℕ) → Next remaining s.source (Err (error.Truncated have)) m
      → FilterAsks (piece_rules remaining unpacking) s (Err (ask.Wrong Truncated)) (after s.held)
  asked_cut have next =
      let once : m.reader.log.reads.zero_reads ≡ s.source.reader.log.reads.zero_reads + 1 = elim next.piece.answers.3 [
        | inl wrong ↦ (let odd : Fault.Truncated have ≡ Fault.TooLong wrong.0.0.len = wrong.0.1 in cc)
        | inr cut ↦ MetEnd-once s.source m ready.also.told cut.3
      ] in
      pieces.asked_wrong remaining unpacking ready (after s.held) lacks (kept s.held)
      (takes_then (Err (error.Truncated have)) next s.held) ready.also.told lacks (Fault.Truncated have) next.piece Truncated
      (inr (
        refl,
        subst (λ d. IsCutShort d.max (rest m)) (sym next.piece.went.decoder) next.leaves.1,
        omega (arith, once),
      ))

  -- a read failed
  pub asked_fault : (e : Error) → Next remaining s.source (Err (error.Io e)) m → (came : Bool)
      → came ≡ nat_lt (length (rest s.source)) (length (rest m))
      → FilterAsks (piece_rules remaining unpacking) s (Err (if came then ask.IoBehind e else ask.Io e)) (after s.held)
  asked_fault e next = pieces.asked_fault remaining unpacking ready (after s.held) lacks (kept s.held)
      (takes_then (Err (error.Io e)) next s.held) ready.also.told lacks e next.piece
      (few s.source.decoder.max (rest m) next.leaves)

-- from empty buffers on
module _ {R W : Type 0} (remaining : R → Option (List ℕ)) (s t : Unpacking R W)
    (fresh : (piece_rules remaining (unpacking {W = W})).fresh s) (unread : s.source.reader.block.bytes ≡ [])
    (told : s.source.ended ≡ false) (room : t.source.reader.block.capacity ≡ room_for 8192 (2 + s.source.decoder.max))
    (ready : IsReady unpacking t) where
  abbrev max : ℕ
  max = s.source.decoder.max

  abbrev Went : List (List ℕ) → List (List ℕ) → Type 0
  Went = Over remaining unpacking s t fresh unread

  abbrev Ran : Result (Unit {0}) (RunError InputFault) → Type 0
  Ran = UnpackRan max s.source.reader.log t.source.reader.log s.target.log t.target.log

  replied : (handed p : List (List ℕ)) (over : Went handed p)
      → s.target.log.writes.received ++ over.reply ≡ s.target.log.writes.received ++ with_newlines p
  replied handed p over =
      ap (λ l. s.target.log.writes.received ++ l) (coded_all with_newline tt tt p over.reply over.answers)

  -- no end is left to tell, so the pieces are whole
  whole : (handed p : List (List ℕ)) (over : Went handed p) → (over.bytes ≡ frames handed) × All (Fits max) handed
  whole handed p over = elim over.text [
    | inl is ↦ all_frames max over.bytes handed is
    | inr last ↦ absurd (true≢false (sym last.1 ∙ ready.also.told))
  ]

  unpacked : (p : List (List ℕ)) → Went p p → AllSent t.target
      → Unpacked max s.source.reader.log t.source.reader.log s.target.log t.target.log (rest t.source)
  unpacked p over sent = record {
    payloads = p;
    fit = (whole p p over).1;
    given = over.given ∙ ap (λ l. s.source.reader.log.reads.given ++ (l ++ rest t.source)) (whole p p over).0;
    received = all_received remaining unpacking s t fresh unread p p over sent ∙ replied p p over;
    flushed = sent.flushed;
  }

  wrong_ran : (p : List (List ℕ)) → Went p p → (why : InputFault) → (unpacking {R = R} {W = W}).wrong s why t → AllSent t.target
      → MetNoFault s.source.reader.log t.source.reader.log s.target.log t.target.log → Ran (Err (Wrong why))
  wrong_ran p over why (inl (is, long)) sent met = subst (λ e. Ran (Err (Wrong e))) (sym is)
      (rest t.source, unpacked p over sent, subst (λ d. BeginsAbove d.max (rest t.source)) over.decoder long, met)
  wrong_ran p over why (inr (is, cut, dry)) sent met = subst (λ e. Ran (Err (Wrong e))) (sym is) (
    rest t.source,
    unpacked p over sent,
    subst (λ d. IsCutShort d.max (rest t.source)) over.decoder cut,
    dry,
    met,
  )

  dry : HasEnded unpacking s ⊎ RanDry s.source.reader t.source.reader → GaveNothing s.source.reader.log t.source.reader.log
  dry (inl before) = absurd (true≢false (sym before ∙ told))
  dry (inr ran) = ran

  -- some were lost, also one that is held: their frames are among what follows
  abbrev first : (p lost : List (List ℕ)) → Went (p ++ lost) p
      → UnpackedFirst max s.source.reader.log t.source.reader.log s.target.log t.target.log
  first p lost over = record {
    lines = p;
    more = frames lost ++ rest t.source;
    unsent = t.target.block.bytes;
    fit = rw take-append_seam at (All-take (Fits max) (length p) (p ++ lost) (whole (p ++ lost) p over).1);
    given = rw ((whole (p ++ lost) p over).0, flat_map-append, append_assoc) at over.given;
    received = over.received ∙ replied (p ++ lost) p over;
  }

  pub unpacked_all : (answer : Result ℕ (Stopped InputFault)) (returned : Result (Unit {0}) (RunError InputFault))
      → Returns answer returned → ForwardAnswers (piece_rules remaining unpacking) s answer t → Ran returned
  unpacked_all = outcome_ran remaining unpacking s t fresh unread unpacking_sound (λ e refused. refused) Ran
      (λ p over end sent met. (
        subst (Unpacked max s.source.reader.log t.source.reader.log s.target.log t.target.log) end.0 (unpacked p over sent),
        dry end.1,
        met,
        elim end.3 [ inl ended ↦ absurd (true≢false (sym ended ∙ ready.also.told)) | inr whole ↦ whole ∙ room ],
      ))
      wrong_ran
      (λ p over open' still offered sent e failed. (
        rest t.source,
        unpacked p over sent,
        subst (λ d. IsOpen (framed d.max) (rest t.source)) over.decoder open',
        failed,
        λ empty. offered empty ∙ room,
      ))
      (λ p lost over e failed. (
        first p lost over,
        WriteGaveUp-so (λ none. (
          none.1,
          subst (λ l. ¬ (Begins (framed max) (frames l ++ rest t.source))) (sym none.0)
              (subst (λ d. ¬ (Begins (framed d.max) (rest t.source))) over.decoder none.2),
        )) failed,
      ))
      (λ p lost over e much. (first p lost over, inl much))

-- a buffer was refused
pub unpack_refused : (most : ℕ) (read written : StreamLog) (e : Error) → error_kind e ≡ OutOfMemory
    → Unpacks most read read written written (Err (Io e))
unpack_refused most read written e memory = record {
  ran = (
    record {
      lines = [];
      more = [];
      unsent = [];
      fit = All-nil (Fits most);
      given = sym (append-nil read.reads.given);
      received = refl;
    },
    inr (record { memory = memory; read_same = refl; written_same = refl }),
  );
  promptly = RunsPromptly-none (IsDue most) 1 read written;
}
