-- Laws of a reader of frames, for the proofs of those who call one.
use Rattle.std.specs.Prelude.{◌≡◌, ℕ, ◌+◌, ◌<◌, ◌≤◌, List, [], ◌∷◌, ◌++◌, length, false, Option, None, Some, Ok, Err}
use Rattle.std.proofs.Common.{sym, ap, subst, ◌∙◌, inl, inr, refl, append-nil}
use Rattle.std.proofs.lemmas.List.Concat.{flat_map-append}
use Rattle.std.proofs.lemmas.List.Elements.{All-append, All-cons, All-nil}
use Rattle.std.specs.List.{All}
use Rattle.codec.specs.declared.NextError.TheVariants.{Wrong}
use Rattle.codec.specs.declared.NextError.TheVariants as piece
use Rattle.codec.specs.KnownPayloads.{AnswersKnown}
use Rattle.codec.specs.KnownPieces.{HasLeft}
use Rattle.codec.specs.KnownPiecesLaws.{NextPiece-answers}
use Rattle.codec.specs.NextPiece as pieces
use Rattle.codec.specs.NextPiece.{NextBuffered, NextPiece, PiecesWent}
use Rattle.codec.specs.NextPieceLaws.{NextPiece-ready, NextPiece-wrong}
use Rattle.codec.specs.PiecesWentLaws.{PiecesWent-joins, PiecesWent-none}
use Rattle.codec.specs.PieceReader.{IsPieceReader, ReaderState, rest}
use Rattle.codec.specs.StaysLeftLaws.{StaysLeft-went}
use Rattle.codec.specs.Runs.{AnswerRuns, all_handed, handed_payload}
use Rattle.frame_reader.specs.declared.error.FrameError.TheVariants.{Truncated, TooLong, Io}
use Rattle.frame_reader.specs.declared.frame.FrameFault.{FrameFault}
use Rattle.frame_reader.specs.declared.frame.FrameFault.TheVariants as Fault
use Rattle.frame_reader.specs.declared.frame.Frames.{Frames}
use Rattle.frame_reader.specs.Framed.{framed}
use Rattle.frame_reader.specs.FramedLaws.{framed_lawful}
use Rattle.frame_reader.specs.Frames.{BeginsWith, Fits, frame, frames}
use Rattle.frame_reader.specs.Next.{FrameAnswer, FramesWent, Next, ReadsFrames, as_piece_answer}

-- an answer of a reader of pieces is of one answer
same_some : (answer : FrameAnswer) (payload : List ℕ) → as_piece_answer answer ≡ Ok (Some payload)
    → answer ≡ Ok (Some payload)
same_some (Ok found) payload is = (let same : found ≡ Some payload = cc in ap (λ x. Ok x) same)
same_some (Err (Truncated n)) payload is = cc
same_some (Err (TooLong n)) payload is = cc
same_some (Err (Io e)) payload is = cc

same_wrong : (answer : FrameAnswer) (len : ℕ) → as_piece_answer answer ≡ Err (Wrong (Fault.TooLong len))
    → answer ≡ Err (TooLong len)
same_wrong (Ok found) len is = cc
same_wrong (Err (Truncated n)) len is = cc
same_wrong (Err (TooLong n)) len is = (let same : n ≡ len = cc in ap (λ x. Err (TooLong x)) same)
same_wrong (Err (Io e)) len is = cc

module _ {S : Type 0} (remaining : S → Option (List ℕ)) where
  -- no call hands out nothing, and calls join
  pub FramesWent-none : (s : ReaderState S Frames) → FramesWent remaining s [] s
  FramesWent-none s =
      record { fit = All-nil (Fits s.decoder.max); went = PiecesWent-none remaining (2 + s.decoder.max) s }

  pub FramesWent-joins : (s m t : ReaderState S Frames) (ps qs : List (List ℕ)) → FramesWent remaining s ps m
      → FramesWent remaining m qs t → FramesWent remaining s (ps ++ qs) t
  FramesWent-joins s m t ps qs p q =
      let max : m.decoder.max ≡ s.decoder.max = ap (λ d. d.max) p.went.decoder in
      let most = 2 + s.decoder.max in
      record {
        fit = All-append (Fits s.decoder.max) ps qs p.fit (subst (λ n. All (Fits n) qs) max q.fit);
        went = subst (λ l. PiecesWent remaining most s l t) (sym (flat_map-append frame ps qs))
            (PiecesWent-joins remaining most s m t (frames ps) (frames qs) p.went
            (subst (λ n. PiecesWent remaining (2 + n) m (frames qs) t) max q.went));
      }

  module _ (s t : ReaderState S Frames) where
    -- what a call of the reader of pieces handed out, and that no end is left to tell
    frames_of : (answer : pieces.NextAnswer FrameFault) (bytes : List ℕ)
        → pieces.NextAnswers (framed s.decoder.max) s answer bytes t
        → All (Fits s.decoder.max) (handed_payload answer) × (bytes ≡ frames (handed_payload answer)) × (t.ended ≡ false)
    frames_of (Ok (Some payload)) bytes (fault, inl (is, told, none)) = (
      All-cons (Fits s.decoder.max) payload [] is.fits (All-nil (Fits s.decoder.max)),
      is.equal ∙ sym (append-nil (frame payload)),
      told,
    )
    frames_of (Ok (Some payload)) bytes (fault, inr last) = absurd last.0
    frames_of (Ok None) bytes (none, left, fault, told, met) = (All-nil (Fits s.decoder.max), none, told)
    frames_of (Err (Wrong e)) bytes (none, fault, told, refused) = (All-nil (Fits s.decoder.max), none, told)
    frames_of (Err (piece.Io e)) bytes (none, open', fault, told, met) = (All-nil (Fits s.decoder.max), none, told)

    pub NextPiece-frames : (answer : pieces.NextAnswer FrameFault) → NextPiece remaining (framed s.decoder.max) s answer t
        → FramesWent remaining s (handed_payload answer) t
    NextPiece-frames answer next =
        let is = frames_of answer next.bytes next.answers in
        record { fit = is.0; went = subst (λ l. PiecesWent remaining (2 + s.decoder.max) s l t) is.1 next.went }

    -- of a call that asks nobody
    pub NextBuffered-frames : (found : Option (List ℕ)) → NextBuffered remaining (framed s.decoder.max) s found t
        → FramesWent remaining s (handed_payload {E = FrameFault} (Ok found)) t
    NextBuffered-frames (Some payload) buffered = NextPiece-frames (Ok (Some payload)) buffered.0
    NextBuffered-frames None buffered = record {
      fit = All-nil (Fits s.decoder.max);
      went = StaysLeft-went remaining (framed s.decoder.max) s t buffered.0;
    }

    pub NextPiece-reads : (answer : pieces.NextAnswer FrameFault) → NextPiece remaining (framed s.decoder.max) s answer t
        → ReadsFrames t
    NextPiece-reads answer next = record {
      told = (frames_of answer next.bytes next.answers).2;
      whole = subst (λ d. IsPieceReader (framed d.max) t) (sym next.went.decoder) next.whole;
    }

    module _ (answer : FrameAnswer) (next : Next remaining s answer t) where
      -- what it handed out
      pub Next-went : FramesWent remaining s (handed_payload answer) t
      Next-went = subst (λ l. FramesWent remaining s l t) (same answer) (NextPiece-frames (as_piece_answer answer) next.piece)
        where
          same : (answer : FrameAnswer) → handed_payload (as_piece_answer answer) ≡ handed_payload answer
          same (Ok found) = refl
          same (Err e) = refl

      -- a whole frame that stands in front is handed out, and the stream isn't asked
      pub Next-ready : (payload more : List ℕ) → length payload ≤ s.decoder.max → rest s ≡ frame payload ++ more
          → (answer ≡ Ok (Some payload)) × (rest t ≡ more) × (t.reader.log ≡ s.reader.log)
      Next-ready payload more fits front =
          let is = NextPiece-ready remaining (framed s.decoder.max) (framed_lawful s.decoder.max s.decoder.fits) s
          (as_piece_answer answer) t next.piece (frame payload) payload more (record { fits = fits; equal = refl }) front in
          (same_some answer payload is.0, is.1, is.2)

      -- a length that is too large is refused each time, and the stream isn't asked
      pub Next-too_long : (len : ℕ) → s.decoder.max < len → BeginsWith len (rest s)
          → (answer ≡ Err (TooLong len)) × (rest t ≡ rest s) × (t.reader.log ≡ s.reader.log)
      Next-too_long len above front =
          let is = NextPiece-wrong remaining (framed s.decoder.max) (framed_lawful s.decoder.max s.decoder.fits) s
          (as_piece_answer answer) t next.piece (Fault.TooLong len)
          (record { len = len; above = above; begins = front }, refl) in
          (same_wrong answer len is.0, is.1, is.2)

  -- what any calls of `next` come to
  pub NextRuns-went : (s : ReaderState S Frames) (answers : List FrameAnswer) (t : ReaderState S Frames)
      → AnswerRuns (Next remaining) s answers t → FramesWent remaining s (all_handed answers) t
  NextRuns-went s [] t e = subst (FramesWent remaining s []) e (FramesWent-none s)
  NextRuns-went s (answer ∷ answers) t run =
      FramesWent-joins s run.0 t (handed_payload answer) (all_handed answers) (Next-went s run.0 answer run.1)
      (NextRuns-went run.0 answers t run.2)

  -- what a call answers where it is known which payloads are left, as of any reader of payloads
  abbrev PayloadsLeft : ReaderState S Frames → List (List ℕ) → Type 0
  PayloadsLeft s payloads = HasLeft remaining (framed s.decoder.max) s payloads

  module _ (s t : ReaderState S Frames) where
    answers_of : (answer : FrameAnswer) (payloads : List (List ℕ))
        → AnswersKnown PayloadsLeft (λ f. f.reader.log.reads.faults) piece.Io s (as_piece_answer answer) payloads t
        → AnswersKnown PayloadsLeft (λ f. f.reader.log.reads.faults) Io s answer payloads t
    answers_of (Ok (Some found)) [] known = known
    answers_of (Ok (Some found)) (payload ∷ later) known = known
    answers_of (Ok None) [] known = known
    answers_of (Ok None) (payload ∷ later) known = known
    answers_of (Err (Truncated have)) payloads known =
        (let odd : piece.Wrong (Fault.Truncated have) ≡ piece.Io known.0.0 = known.0.1 in cc)
    answers_of (Err (TooLong len)) payloads known =
        (let odd : piece.Wrong (Fault.TooLong len) ≡ piece.Io known.0.0 = known.0.1 in cc)
    answers_of (Err (Io e)) payloads known =
        ((e, refl), known.1, λ why is. known.2 why (let same : e ≡ why = cc in ap (λ x. piece.Io x) same))

  pub Next-answers : (s : ReaderState S Frames) (answer : FrameAnswer) (payloads : List (List ℕ)) (t : ReaderState S Frames)
      → PayloadsLeft s payloads → Next remaining s answer t
      → AnswersKnown PayloadsLeft (λ f. f.reader.log.reads.faults) Io s answer payloads t
  Next-answers s answer payloads t has next = answers_of s t answer payloads
      (NextPiece-answers remaining (λ (d : Frames). framed d.max) (λ d. framed_lawful d.max d.fits) s t (as_piece_answer answer)
      payloads has next.piece)
