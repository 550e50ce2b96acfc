-- Lines are taken in as frames, and what is due of whole lines is their frames.
use Rattle.std.proofs.Common.{◌≡◌, ◌<◌, ℕ, List, [], ◌∷◌, ◌++◌, length, Option, ap, ◌∙◌, arith, length-append}
use Rattle.std.proofs.lemmas.List.Elements.{All-weaker}
use Rattle.line_reader.specs.NextLineLaws.{open_unended}
use Rattle.line_reader.specs.TextLaws.{all_plain, fits_of}
use Rattle.frames.specs.Words.{All, HasPieces, IsPieces, IsLawful, Fits, frame, header, FitsLine, IsLine, with_newline, with_newlines, lined}
use Rattle.frames.specs.Packing.{packing}
use Rattle.piece_filter.specs.Pieces.{IsCoherent, piece_rules}
use Rattle.piece_filter.specs.PiecesLaws.{coded_all, piece_lawful, whole_text}

-- lines that are pieces have frames
pub all_fit : (max : ℕ) (bytes : List ℕ) (lines : List (List ℕ)) → HasPieces (lined max) bytes lines → All (Fits max) lines
all_fit max bytes lines has = All-weaker (FitsLine max) (Fits max) (λ l fits. fits.fits) lines (fits_of max bytes lines has)

-- lines that each have their end are all there is
pub all_ended : (max : ℕ) (bytes : List ℕ) (lines : List (List ℕ)) → IsPieces (lined max) bytes lines []
    → (bytes ≡ with_newlines lines) × All IsLine lines × All (Fits max) lines
all_ended max bytes lines is =
    let has = whole_text (lined max) bytes lines is in
    (whole bytes lines is, all_plain max lines (fits_of max bytes lines has), all_fit max bytes lines has)
  where
    whole : (bytes : List ℕ) (lines : List (List ℕ)) → IsPieces (lined max) bytes lines [] → bytes ≡ with_newlines lines
    whole bytes [] is = is
    whole bytes (line ∷ lines) (more, starts, is) =
        starts.equal ∙ ap (λ l. l ++ more) starts.is.2 ∙ ap (λ l. with_newline line ++ l) (whole more lines is)

-- a frame has a byte
pub some_frame : (line : List ℕ) → 0 < length (frame line)
some_frame line = omega (arith, length-append (header (length line)) line)

pub packing_sound : {R W : Type 0} → IsCoherent (packing {R = R} {W = W})
packing_sound = record {
  wrong_after = λ a b c why less wrong. wrong;
  is_due = λ d a b bytes left reply lines is open' answers.
      let all = all_ended d.max bytes lines is in
      record {
        lines = lines;
        left = left;
        equal = ap (λ l. l ++ left) all.0;
        plain = all.1;
        fit = all.2;
        no_more = open_unended d.max left open';
        frames_are = coded_all frame a b lines reply answers;
      };
  all_sent = λ s sent. sent;
}

pub packing_lawful : {R W : Type 0} (remaining : R → Option (List ℕ))
    → IsLawful (piece_rules remaining (packing {R = R} {W = W}))
packing_lawful remaining = piece_lawful remaining packing packing_sound
