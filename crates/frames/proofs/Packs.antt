-- What the calls of a filter of lines do, and what a whole run of `pack` comes to.
use Rattle.std.proofs.Common.{◌≡◌, ℕ, ◌+◌, ◌≤◌, ◌<◌, List, length, Bool, true, false, if◌then◌else◌, nat_lt, Option, None, Some, Ok, Err, refl, sym, ap, subst, ◌∙◌, arith, ◌^◌, ◌⊎◌, inl, inr, [], ◌∷◌, ◌++◌, Result, append-nil, append_assoc, length-append}
use Rattle.std.proofs.lemmas.Bool.{true≢false}
use Rattle.std.proofs.lemmas.List.Elements.{All-nil}
use Rattle.std.specs.Prelude.{IfSome}
use Rattle.std.specs.declared.io.ErrorKind.TheVariants.{OutOfMemory}
use Rattle.redux_buffer.specs.declared.grow_error.GrowError.TheVariants.{Memory, TooLarge}
use Rattle.redux_buffer.specs.declared.grow_error.GrowError.{GrowError}
use Rattle.buffer_redux.specs.GrowError.{FitsWithin, kind_of}
use Rattle.forward.specs.PromptLaws.{RunsPromptly-none}
use Rattle.forward.specs.StreamsLaws.{WriteGaveUp-so}
use Rattle.forward.specs.declared.error.AskError.TheVariants as ask
use Rattle.line_reader.specs.Lines.{BeginsTooLong}
use Rattle.line_reader.specs.NextLine.{LineAnswer, NextLine}
use Rattle.line_reader.specs.NextLineLaws.{IsHanded-fits, NextLine-open, NextOpen, NextPiece-long, open_unended}
use Rattle.line_reader.specs.TextLaws.{lines_of}
use Rattle.line_reader.specs.declared.error.LineError.TheVariants as error
use Rattle.piece_filter.specs.PieceRuns.{Over, all_received}
use Rattle.piece_filter.specs.Pieces.{HasEnded, IsReady, Keeps, PiecesEnd, piece_rules}
use Rattle.piece_filter.specs.PiecesCalls as pieces
use Rattle.piece_filter.specs.PiecesLaws.{coded_all, whole_text}
use Rattle.frames.specs.Words.{All, AllSent, FilterAsks, Begins, bytes_at, Error, error_kind, Fits, FitsLine, ForwardAnswers, frame, frames, GaveNothing, Grammar, HasLines, HasPieces, IsLent, IsLine, IsOpen, IsPieces, lined, LineState, MetNoFault, OverCount, RanDry, rest, room_for, RunError, InputFault, Span, Stopped, StreamLog, with_newlines}
use Rattle.programs.specs.Outcome.{Returns}
use Rattle.frames.specs.Pack.{IsDue, PackedFirst, PackedLines, PackRan, Packs}
use Rattle.frames.specs.Packing.{packing}
use Rattle.frames.specs.PackingLaws.{all_ended, all_fit, packing_sound}
use Rattle.programs.specs.declared.error.RunError.TheVariants.{Io, Wrong}
use Rattle.frames.specs.declared.fault.InputFault.TheVariants.{TooLong}
use Rattle.frames.specs.declared.packing.Packing.{Packing}
use Rattle.frames.proofs.PieceRuns.{outcome_ran}

-- a line that is held has a frame
abbrev Fit : {R : Type 0} → LineState R → Option Span → Type 0
Fit m held = IfSome held (λ span. length (bytes_at span m.pieces.reader.block.bytes) ≤ m.pieces.decoder.max)

pub none_fits : {R : Type 0} (m : LineState R) (held : Option Span) → held ≡ None → Fit m held
none_fits m held none = subst (Fit m) (sym none) tt

-- lines are taken still where neither limit changed
pub lines_on : {R W : Type 0} (s t : Packing R W) → (packing {R = R} {W = W}).also s
    → t.source.pieces.decoder ≡ s.source.pieces.decoder → t.target.encoder ≡ s.target.encoder → t.source.skipping ≡ false
    → Fit t.source t.held → (packing {R = R} {W = W}).also t
lines_on s t lines decoder encoder open' fits = record {
  most = ap (λ d. d.max) decoder ∙ lines.most ∙ sym (ap (λ d. d.max) encoder);
  open' = open';
  fits = fits;
}

-- the reader was asked for the next line
module _ {R W : Type 0} (remaining : R → Option (List ℕ)) {s : Packing R W} (ready : IsReady packing s) (lacks : s.held ≡ None)
    (going : s.source.pieces.ended ≡ false) (m : LineState R) where
  abbrev after : Option Span → Packing R W
  after h = record s { source = m; held = h }

  abbrev kept : (h : Option Span) → Keeps packing s (after h)
  kept h = record { target = refl; service = refl; sent = λ sent. sent }

  opened : (answer : LineAnswer) → NextLine remaining s.source answer m → NextOpen remaining s.source answer m
  opened answer = NextLine-open remaining s.source m answer ready.also.open'

  lines : (answer : LineAnswer) → NextLine remaining s.source answer m → (h : Option Span) → Fit m h
      → (packing {R = R} {W = W}).also (after h)
  lines answer line h fits =
      let next = opened answer line in lines_on s (after h) ready.also next.0.went.decoder refl next.1 fits

  pub asked_more : (span : Span) → IsLent (lined m.pieces.decoder.max) m.pieces.handed m.pieces.reader.block.bytes span
      → ¬ (Begins (lined s.source.pieces.decoder.max) (rest s.source.pieces))
      → NextLine remaining s.source (Ok (Some (bytes_at span m.pieces.reader.block.bytes))) m
      → FilterAsks (piece_rules remaining packing) s (Ok true) (after (Some span))
  asked_more span lent no_piece line =
      let payload = bytes_at span m.pieces.reader.block.bytes in
      let next = (opened (Ok (Some payload)) line).0 in
      let fits = IsHanded-fits s.source.pieces.decoder.max s.source.pieces m.pieces payload next.bytes next.answers.1 in
      pieces.asked_more remaining packing ready (after (Some span)) lacks (kept (Some span))
      (lines (Ok (Some payload)) line (Some span) (omega (arith, fits.fits, ap (λ d. d.max) next.went.decoder)))
      going span refl lent no_piece next

  -- none came
  lines_none : (answer : LineAnswer) → NextLine remaining s.source answer m → (packing {R = R} {W = W}).also (after s.held)
  lines_none answer line = lines answer line s.held (none_fits m s.held lacks)

  pub asked_none : NextLine remaining s.source (Ok None) m
      → FilterAsks (piece_rules remaining packing) s (Ok false) (after s.held)
  asked_none line = pieces.asked_none remaining packing ready (after s.held) lacks (kept s.held)
      (lines_none (Ok None) line) going lacks (opened (Ok None) line).0

  pub asked_long : (n : ℕ) → NextLine remaining s.source (Err (error.TooLong n)) m
      → FilterAsks (piece_rules remaining packing) s (Err (ask.Wrong TooLong)) (after s.held)
  asked_long n line =
      let next = (opened (Err (error.TooLong n)) line).0 in
      let long = NextPiece-long remaining s.source.pieces.decoder.max s.source.pieces m.pieces (record { 0 = n }) next in
      pieces.asked_wrong remaining packing ready (after s.held) lacks (kept s.held)
      (lines_none (Err (error.TooLong n)) line) going lacks (record { 0 = n }) next TooLong
      (refl, subst (λ d. BeginsTooLong d.max (rest m.pieces)) (sym next.went.decoder) long.0, next.answers.2)

  -- a read failed
  pub asked_fault : (e : Error) → NextLine remaining s.source (Err (error.Io e)) m → (came : Bool)
      → came ≡ nat_lt (length (rest s.source.pieces)) (length (rest m.pieces))
      → FilterAsks (piece_rules remaining packing) s (Err (if came then ask.IoBehind e else ask.Io e)) (after s.held)
  asked_fault e line =
      let next = (opened (Err (error.Io e)) line).0 in
      let fits = (open_unended s.source.pieces.decoder.max (rest m.pieces) next.answers.1).fits in
      pieces.asked_fault remaining packing ready (after s.held) lacks (kept s.held)
      (lines_none (Err (error.Io e)) line) going lacks e next (omega (arith, fits))

-- lines, each with its end, are a text
abbrev with_ends_of : (lines : List (List ℕ)) → All IsLine lines → HasLines (with_newlines lines) lines
with_ends_of lines plain = record {
  whole = lines;
  last = [];
  bytes = sym (append-nil (with_newlines lines));
  all = sym (append-nil lines);
  plain = plain;
}

-- what comes before another payload of a text is whole pieces
fronts : {X : Type 0} (g : Grammar X) (p : List (List ℕ)) (next : List ℕ) (more : List (List ℕ)) (bytes : List ℕ)
    → HasPieces g bytes (p ++ next ∷ more)
    → (front : List ℕ) × (behind : List ℕ) × (bytes ≡ front ++ behind) × IsPieces g front p []
fronts g [] next more bytes has = ([], bytes, refl, refl)
fronts g (payload ∷ p) next more bytes (inl (left, starts, has)) =
    let (front, behind, equal, whole) = fronts g p next more left has in (
      starts.piece ++ front,
      behind,
      starts.equal ∙ ap (λ l. starts.piece ++ l) equal ∙ sym (append_assoc starts.piece front behind),
      (front, record { piece = starts.piece; is = starts.is; equal = refl }, whole),
    )
fronts g (payload ∷ p) next more bytes (inr (last, none)) =
    absurd (omega (arith, ap length none, length-append p (next ∷ more)))

-- from empty buffers on
module _ {R W : Type 0} (remaining : R → Option (List ℕ)) (s t : Packing R W)
    (fresh : (piece_rules remaining (packing {W = W})).fresh s) (unread : s.source.pieces.reader.block.bytes ≡ [])
    (going : s.source.pieces.ended ≡ false)
    (room : t.source.pieces.reader.block.capacity ≡ room_for 8192 (1 + s.source.pieces.decoder.max))
    (ready : IsReady packing t) where
  abbrev max : ℕ
  max = s.source.pieces.decoder.max

  abbrev Went : List (List ℕ) → List (List ℕ) → Type 0
  Went = Over remaining packing s t fresh unread

  abbrev Ran : Result (Unit {0}) (RunError InputFault) → Type 0
  Ran = PackRan max s.source.pieces.reader.log t.source.pieces.reader.log s.target.writer.log t.target.writer.log

  replied : (handed p : List (List ℕ)) (over : Went handed p)
      → s.target.writer.log.writes.received ++ over.reply ≡ s.target.writer.log.writes.received ++ frames p
  replied handed p over =
      ap (λ l. s.target.writer.log.writes.received ++ l) (coded_all frame tt tt p over.reply over.answers)

  dry : HasEnded packing s ⊎ RanDry s.source.pieces.reader t.source.pieces.reader
      → GaveNothing s.source.pieces.reader.log t.source.pieces.reader.log
  dry (inl before) = absurd (true≢false (sym before ∙ going))
  dry (inr ran) = ran

  texts : (handed p : List (List ℕ)) (over : Went handed p) → HasPieces (lined max) over.bytes handed
  texts handed p over = elim over.text [ inl whole ↦ whole_text (lined max) over.bytes handed whole | inr last ↦ last.0 ]

  ended_ran : (p : List (List ℕ)) → Went p p → PiecesEnd packing s (Ok tt) t → AllSent t.target.writer
      → MetNoFault s.source.pieces.reader.log t.source.pieces.reader.log s.target.writer.log t.target.writer.log → Ran (Ok tt)
  ended_ran p over end sent met = (
    record {
      text = over.bytes;
      lines = p;
      more = [];
      unsent = [];
      has = lines_of max over.bytes p (texts p p over);
      fit = all_fit max over.bytes p (texts p p over);
      whole = inr (refl, dry end.1);
      given = over.given ∙ ap (λ l. s.source.pieces.reader.log.reads.given ++ (over.bytes ++ l)) end.0;
      received = append-nil _ ∙ all_received remaining packing s t fresh unread p p over sent ∙ replied p p over;
    },
    refl,
    refl,
    dry end.1,
    sent.flushed,
    met,
  )

  -- each line had its end
  abbrev some_lines : (Such : List ℕ → Type 0) (p : List (List ℕ)) → Went p p → t.source.pieces.ended ≡ false
      → AllSent t.target.writer → Such (rest t.source.pieces)
      → PackedLines Such max s.source.pieces.reader.log t.source.pieces.reader.log s.target.writer.log t.target.writer.log
  some_lines Such p over open' sent such =
      let whole : IsPieces (lined max) over.bytes p [] =
      elim over.text [ inl is ↦ is | inr last ↦ absurd (true≢false (sym last.1 ∙ open')) ] in
      let all = all_ended max over.bytes p whole in
      record {
        lines = p;
        more = rest t.source.pieces;
        plain = all.1;
        fit = all.2;
        such = such;
        given = over.given ∙ ap (λ l. s.source.pieces.reader.log.reads.given ++ (l ++ rest t.source.pieces)) all.0;
        received = all_received remaining packing s t fresh unread p p over sent ∙ replied p p over;
        flushed = sent.flushed;
      }

  wrong_ran : (p : List (List ℕ)) → Went p p → (why : InputFault) → (packing {R = R} {W = W}).wrong s why t
      → AllSent t.target.writer
      → MetNoFault s.source.pieces.reader.log t.source.pieces.reader.log s.target.writer.log t.target.writer.log
      → Ran (Err (Wrong why))
  wrong_ran p over why (is, long, open') sent met = subst (λ e. Ran (Err (Wrong e))) (sym is) (
    some_lines (BeginsTooLong max) p over open' sent
        (subst (λ d. BeginsTooLong d.max (rest t.source.pieces)) over.decoder long),
    met,
  )

  -- the first lines went over
  abbrev First : Type 0
  First = PackedFirst max s.source.pieces.reader.log t.source.pieces.reader.log s.target.writer.log t.target.writer.log

  abbrev IsFirst : (p lost : List (List ℕ)) → Type 0
  IsFirst p lost = (ran : First) × (ran.lines ≡ p) × (ran.unsent ≡ t.target.writer.block.bytes)
      × (lost ≡ [] → ran.more ≡ rest t.source.pieces)

  module _ (p lost : List (List ℕ)) (over : Went (p ++ lost) p) where
    first_of : (text more : List ℕ) → over.bytes ≡ text ++ more → (has : HasLines text p) → All (Fits max) p
        → (has.last ≡ [])
        ⊎ ((more ++ rest t.source.pieces ≡ []) × GaveNothing s.source.pieces.reader.log t.source.pieces.reader.log)
        → (lost ≡ [] → more ≡ []) → IsFirst p lost
    first_of text more equal has fit whole none =
        let given = s.source.pieces.reader.log.reads.given in
        let left = rest t.source.pieces in (
          record {
            text = text;
            lines = p;
            more = more ++ left;
            unsent = t.target.writer.block.bytes;
            has = has;
            fit = fit;
            whole = whole;
            given = over.given ∙ ap (λ l. given ++ (l ++ left)) equal ∙ ap (λ l. given ++ l) (append_assoc text more left);
            received = over.received ∙ replied (p ++ lost) p over;
          },
          refl,
          refl,
          λ is. ap (λ l. l ++ left) (none is),
        )

    whole_lines : (front more : List ℕ) → over.bytes ≡ front ++ more → IsPieces (lined max) front p []
        → (lost ≡ [] → more ≡ []) → IsFirst p lost
    whole_lines front more equal whole none =
        let all = all_ended max front p whole in
        first_of (with_newlines p) more (equal ∙ ap (λ l. l ++ more) all.0) (with_ends_of p all.1) all.2 (inl refl) none

    all_lines : p ++ lost ≡ p → IsFirst p lost
    all_lines none = elim over.text [
      | inl whole ↦ whole_lines over.bytes [] (sym (append-nil over.bytes))
          (subst (λ l. IsPieces (lined max) over.bytes l []) none whole) (λ is. refl)
      | inr (has, ended) ↦
          let lines = subst (HasPieces (lined max) over.bytes) none has in
          first_of over.bytes [] (sym (append-nil over.bytes)) (lines_of max over.bytes p lines)
          (all_fit max over.bytes p lines) (inr (ready.whole.ended ended, dry (over.dry ended))) (λ is. refl)
    ]

  first : (p lost : List (List ℕ)) → Went (p ++ lost) p → IsFirst p lost
  first p [] over = all_lines p [] over (append-nil p)
  first p (next ∷ more) over =
      let (front, behind, equal, whole) = fronts (lined max) p next more over.bytes (texts (p ++ next ∷ more) p over) in
      whole_lines p (next ∷ more) over front behind equal whole (λ is. absurd (omega (arith, ap length is)))

  pub packed : (answer : Result ℕ (Stopped InputFault)) (returned : Result (Unit {0}) (RunError InputFault))
      → Returns answer returned → ForwardAnswers (piece_rules remaining packing) s answer t → Ran returned
  packed = outcome_ran remaining packing s t fresh unread packing_sound (λ e refused. refused) Ran ended_ran wrong_ran
      (λ p over open' still offered sent e failed. (
        some_lines (FitsLine max) p over still sent
            (open_unended max (rest t.source.pieces)
            (subst (λ d. IsOpen (lined d.max) (rest t.source.pieces)) over.decoder open')),
        failed,
        λ empty. offered empty ∙ room,
      ))
      (λ p lost over e failed.
      let ran = first p lost over in (
        ran.0,
        WriteGaveUp-so (λ none. (
          ran.2 ∙ none.1,
          subst (λ l. ¬ (Begins (lined max) l)) (sym (ran.3 none.0))
              (subst (λ d. ¬ (Begins (lined d.max) (rest t.source.pieces))) over.decoder none.2),
        )) failed,
      ))
      (λ p lost over e much.
      let ran = first p lost over in (
        ran.0,
        inl (subst (λ l. OverCount e (length l) s.source.pieces.reader.log t.source.pieces.reader.log s.target.writer.log
            t.target.writer.log) (sym ran.1) much),
      ))

-- a buffer this large is refused for want of memory alone
pub only_memory : (least most : ℕ) (refusal : GrowError) → least < 2 ^ 20 → most < 2 ^ 17
    → FitsWithin {T = Unit {0}} (Err refusal) (room_for least most) (2 ^ 62) → kind_of refusal ≡ OutOfMemory
only_memory least most Memory little small within = refl
only_memory least most TooLarge little small within = absurd (omega (arith, little, small, within))

-- a buffer was refused
pub pack_refused : (most : ℕ) (read written : StreamLog) (e : Error) → error_kind e ≡ OutOfMemory
    → Packs most read read written written (Err (Io e))
pack_refused most read written e memory = record {
  ran = (
    record {
      text = [];
      lines = [];
      more = [];
      unsent = [];
      has = with_ends_of [] (All-nil IsLine);
      fit = All-nil (Fits most);
      whole = inl refl;
      given = sym (append-nil read.reads.given);
      received = refl;
    },
    inr (record { memory = memory; read_same = refl; written_same = refl }),
  );
  promptly = RunsPromptly-none (IsDue most) 1 read written;
}
