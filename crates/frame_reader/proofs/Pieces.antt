-- What a call of a reader of pieces leaves, in the words of frames.
use Rattle.std.proofs.Common.{◌≡◌, ℕ, ◌+◌, ◌<◌, ◌≤◌, ◌⊎◌, List, [], ◌∷◌, ◌++◌, append-nil, length, length-append, take, sym, ap, subst, ◌∙◌, arith, inl, inr, refl, Option, None, Ok, Err, Some, IfSome, drop, length-drop, length-take-le}
use Rattle.std.proofs.lemmas.Bool.{cases_lt}
use Rattle.std.specs.Int.{w16, from_be_bytes}
use Rattle.codec.specs.declared.Found.{Found}
use Rattle.codec.specs.declared.Span.{Span}
use Rattle.codec.specs.Decoding.{IsLent, OnMore}
use Rattle.codec.specs.Grammar.{IsOpen}
use Rattle.codec.specs.GrammarLaws.{begins_of}
use Rattle.codec.specs.Looking.{LookSays, LooksFromLast}
use Rattle.codec.specs.LookingLaws.{LooksFromLast-asked, WasAskedFor}
use Rattle.codec.specs.NextPiece.{AskedUnlessEnded, NextAnswer, NextAnswers, NextBuffered, NextPiece}
use Rattle.codec.specs.NextPieceLaws.{fronts_agree}
use Rattle.codec.specs.PiecesWentLaws.{PiecesWent-unasked}
use Rattle.codec.specs.PieceReader.{ReaderState, rest}
use Rattle.frame_reader.specs.declared.error.FrameError.{FrameError}
use Rattle.frame_reader.specs.declared.error.FrameError.TheVariants.{Truncated, TooLong, Io}
use Rattle.frame_reader.specs.declared.frame.FrameFault.{FrameFault}
use Rattle.frame_reader.specs.declared.frame.FrameFault.TheVariants as Fault
use Rattle.frame_reader.specs.declared.frame.Frames.{Frames}
use Rattle.frame_reader.specs.Framed.{framed}
use Rattle.frame_reader.specs.FramedLaws.{frame_there, framed_lawful}
use Rattle.frame_reader.specs.Frames.{AreBytes, AsksFrame, BeginsWith, IsCutShort, OffersFrame, frame, frames, header}
use Rattle.frame_reader.specs.Next.{ErrorLeaves, Next, piece_error}
use Rattle.frame_reader.specs.NextLaws.{NextBuffered-frames, Next-went}
use Rattle.frame_reader.proofs.Lengths.{BeginsWith-first}

-- bytes that settle nothing are nothing, or cut short
cut_of : (max : ℕ) (bytes : List ℕ) → AreBytes bytes → IsOpen (framed max) bytes → (bytes ≡ []) ⊎ IsCutShort max bytes
cut_of max [] small is = inl refl
cut_of max (a ∷ []) small is = inr (inl refl)
cut_of max (a ∷ b ∷ more) small is =
    let bytes = a ∷ b ∷ more in
    let n = from_be_bytes w16 (a ∷ b ∷ []) in
    let begins = BeginsWith-first bytes n (omega arith) small refl in
    let few : n ≤ max = elim (cases_lt max n) [
      | inl above ↦ absurd (is.not_wrong (Fault.TooLong n) (record { len = n; above = above; begins = begins }, refl))
      | inr fits ↦ fits
    ] in
    inr (inr (record {
      len = n;
      fits = few;
      begins = begins;
      short = elim (cases_lt (length bytes) (2 + n)) [
        | inl short ↦ short
        | inr whole ↦ absurd (is.no_piece (begins_of (framed max) bytes (record { from = 2; len = n }) (2 + n)
            (frame_there max n bytes begins few whole)))
      ];
    }))

some_cut : (max : ℕ) (bytes : List ℕ) → 0 < length bytes → (bytes ≡ []) ⊎ IsCutShort max bytes → IsCutShort max bytes
some_cut max bytes some (inl none) = absurd (omega (arith, some, ap length none))
some_cut max bytes some (inr cut) = cut

-- what a look at a frame asks for
abbrev frame_looks : List ℕ → ℕ → Found FrameFault → Type 0
frame_looks bytes seen found = OnMore found (AsksFrame bytes)

-- where both bytes of a length are there, what follows doesn't change it
begins_front : (len : ℕ) (bytes more : List ℕ) → 2 ≤ length bytes → BeginsWith len (bytes ++ more) → BeginsWith len bytes
begins_front len [] more both begins = absurd (omega (arith, both))
begins_front len (a ∷ []) more both begins = absurd (omega (arith, both))
begins_front len (a ∷ b ∷ bytes) more both begins = record {
  word = begins.word;
  more = bytes;
  equal = (let same : a ∷ b ∷ (bytes ++ more) ≡ header len ++ begins.more = begins.equal in cc);
}

-- as much as a look asked for has room for the frame
offers_frame : (offer : ℕ) (bytes : List ℕ) → WasAskedFor frame_looks offer bytes → OffersFrame offer bytes
offers_frame offer bytes (looked, seen, asked, asks, (few, room, more, is)) = elim (cases_lt (length looked) 2) [
  | inl short ↦ (
    omega (arith, asks.0 short, room),
    λ len begins. absurd (omega (
      arith,
      few,
      asks.0 short,
      ap length begins.equal,
      length-append (header len) begins.more,
    )),
  )
  | inr both ↦ (
    omega (arith, few, room, both, ap length is, length-append looked more),
    λ len begins. omega (
      arith,
      room,
      asks.1 len (begins_front len looked more both (subst (BeginsWith len) is begins)),
    ),
  )
]

module _ {S : Type 0} (remaining : S → Option (List ℕ)) (s t : ReaderState S Frames) where
  -- what the last ask of a step had room for
  pub step_offered : (answer : NextAnswer FrameFault) → NextPiece remaining (framed s.decoder.max) s answer t
      → LooksFromLast (LookSays (λ (d : Frames). framed d.max) (λ _. frame_looks)) s t
      → AskedUnlessEnded (OffersFrame t.reader.log.reads.offer) s t
  step_offered answer next looked =
      let offer = t.reader.log.reads.offer in
      LooksFromLast-asked remaining (λ (d : Frames). framed d.max) (λ d. framed_lawful d.max d.fits) (λ _. frame_looks) s t
      answer next (OffersFrame offer) (offers_frame offer) looked

  -- what is left where there is no frame, as it is bytes
  leaves_of : (e : FrameError) (bytes : List ℕ) → AreBytes (rest t)
      → NextAnswers (framed s.decoder.max) s (Err (piece_error e)) bytes t → ErrorLeaves s.decoder.max e (rest t)
  leaves_of (Truncated n) bytes small (none, fault, told, inl ((long, is), no_end)) =
      (let odd : Fault.Truncated n ≡ Fault.TooLong long.len = is in cc)
  leaves_of (Truncated n) bytes small (none, fault, told, inr (cut, open', some, met)) =
      (cc, some_cut s.decoder.max (rest t) some (cut_of s.decoder.max (rest t) small open'))
  leaves_of (TooLong n) bytes small (none, fault, told, inl ((long, is), no_end)) =
      let same : n ≡ long.len = (let both : Fault.TooLong n ≡ Fault.TooLong long.len = is in cc) in
      (omega (arith, long.above, same), subst (λ k. BeginsWith k (rest t)) (sym same) long.begins)
  leaves_of (TooLong n) bytes small (none, fault, told, inr (cut, open', some, met)) =
      (let odd : Fault.TooLong n ≡ Fault.Truncated (length (rest t)) = cut in cc)
  leaves_of (Io e) bytes small (none, open', fault, told, no_end) = cut_of s.decoder.max (rest t) small open'

  pub Next-failed : (e : FrameError) → AreBytes (rest t)
      → AskedUnlessEnded (OffersFrame t.reader.log.reads.offer) s t
      → NextPiece remaining (framed s.decoder.max) s (Err (piece_error e)) t → Next remaining s (Err e) t
  Next-failed e small offered next =
      record { piece = next; offered = offered; leaves = leaves_of e next.bytes small next.answers }

module _ {S : Type 0} (remaining : S → Option (List ℕ)) (s t : ReaderState S Frames) (payload : List ℕ) where
  -- the frame of what is handed out begins as what was left does
  pub Next-begins : Next remaining s (Ok (Some payload)) t
      → take (length (frame payload)) (rest s) ≡ take (length (rest s)) (frame payload)
  Next-begins next =
      let hands = (Next-went remaining s t (Ok (Some payload)) next).went.hands in
      subst (λ l. take (length l) (rest s) ≡ take (length (rest s)) l) (append-nil (frame payload))
      (fronts_agree (frames (payload ∷ [])) (rest t) (rest s) hands.got hands.equal)

  -- where it was buffered it stood there
  pub NextBuffered-front : NextBuffered remaining (framed s.decoder.max) s (Some payload) t
      → (more : List ℕ) × (rest s ≡ frame payload ++ more)
  NextBuffered-front buffered =
      let went = (NextBuffered-frames remaining s t (Some payload) buffered).went in
      let all = PiecesWent-unasked remaining _ s t (frames (payload ∷ [])) went (ap (λ r. r.log) buffered.1) in
      (rest t, sym all ∙ ap (λ l. l ++ rest t) (append-nil (frame payload)))

-- a place that is said is that of a payload, which fits
pub lent_fits : {S : Type 0} (s t : ReaderState S Frames) (found : Option Span) → t.decoder ≡ s.decoder
    → IfSome found (IsLent (framed t.decoder.max) t.handed t.reader.block.bytes)
    → IfSome found (λ span. span.len ≤ s.decoder.max)
lent_fits s t (Some span) same lent =
    let bytes = t.reader.block.bytes in
    let len = length-take-le span.len (drop span.from bytes)
    (omega (arith, lent.within, lent.inside, length-drop span.from bytes)) in
    elim lent.is [
      | inl is ↦ omega (arith, is.fits, len, ap (λ d. d.max) same)
      | inr last ↦ absurd last.3
    ]
lent_fits s t None same lent = tt
