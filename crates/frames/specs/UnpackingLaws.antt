-- Payloads are taken in as lines, and what is due of whole frames is those of their payloads.
use Rattle.std.proofs.Common.{◌+◌, ◌≡◌, ℕ, List, [], ◌∷◌, ◌++◌, length, Option, inl, inr, ap, ◌∙◌, arith, length-append}
use Rattle.std.proofs.lemmas.List.Elements.{All-cons, All-nil}
use Rattle.frames.specs.Words.{All, IsPieces, IsLawful, framed, Fits, frame, frames, newline, with_newline}
use Rattle.piece_filter.specs.Pieces.{IsCoherent, piece_rules}
use Rattle.piece_filter.specs.PiecesLaws.{coded_all, piece_lawful}
use Rattle.frames.specs.Unpacking.{unpacking}

-- pieces are the frames of payloads that fit
pub all_frames : (max : ℕ) (bytes : List ℕ) (payloads : List (List ℕ)) → IsPieces (framed max) bytes payloads []
    → (bytes ≡ frames payloads) × All (Fits max) payloads
all_frames max bytes [] is = (is, All-nil (Fits max))
all_frames max bytes (payload ∷ payloads) (more, starts, is) =
    let others = all_frames max more payloads is in (
      starts.equal ∙ ap (λ l. l ++ more) starts.is.equal ∙ ap (λ l. frame payload ++ l) others.0,
      All-cons (Fits max) payload payloads starts.is.fits others.1,
    )

-- a line has one byte more
pub line_length : (payload : List ℕ) → length payload + 1 ≡ length (with_newline payload)
line_length payload = omega (arith, length-append payload (newline ∷ []))

pub unpacking_sound : {R W : Type 0} → IsCoherent (unpacking {R = R} {W = W})
unpacking_sound = record {
  wrong_after = λ a b c why less wrong.
      elim wrong [ inl long ↦ inl long | inr (is, cut, dry) ↦ inr (is, cut, omega (arith, less, dry)) ];
  is_due = λ d a b bytes left reply payloads is open' answers.
      let all = all_frames d.max bytes payloads is in
      record {
        payloads = payloads;
        left = left;
        splits = record { equal = ap (λ l. l ++ left) all.0; fit = all.1; no_more = open'.no_piece };
        lines = coded_all with_newline a b payloads reply answers;
      };
  all_sent = λ s sent. sent;
}

pub unpacking_lawful : {R W : Type 0} (remaining : R → Option (List ℕ))
    → IsLawful (piece_rules remaining (unpacking {R = R} {W = W}))
unpacking_lawful remaining = piece_lawful remaining unpacking unpacking_sound
