-- Laws of texts: their lines are what they are cut into, in one way.
use Rattle.std.specs.Prelude.{◌≡◌, ℕ, ◌<◌, ◌≤◌, List, [], ◌∷◌, ◌++◌, length}
use Rattle.std.proofs.Common.{sym, ap, subst, ◌∙◌, refl, arith, inl, inr, append_assoc, append-nil, length-append}
use Rattle.std.proofs.lemmas.List.Elements.{All-nil, All-cons, All-head, All-tail}
use Rattle.std.specs.List.{All}
use Rattle.piece_reader.specs.DelimitedLaws.{delimited_lawful, open_plain, plain_open}
use Rattle.piece_reader.specs.Grammar.{IsLawful}
use Rattle.piece_reader.specs.TextLaws.{Pieces-first, Pieces-last, Pieces-none, Pieces-same}
use Rattle.piece_reader.specs.Texts.{HasPieces}
use Rattle.line_reader.specs.Lines.{FitsLine, HasLines, IsLine, last_line, newline, with_newline, with_newlines}
use Rattle.line_reader.specs.LineReader.{lined}

-- a text of no line, and of one that has no end
pub lines-none : HasLines [] []
lines-none = record { whole = []; last = []; bytes = refl; all = refl; plain = All-nil IsLine }

pub lines-last : (line : List ℕ) → IsLine line → 0 < length line → HasLines line (line ∷ [])
lines-last [] plain some = absurd (omega (arith, some))
lines-last (byte ∷ line) plain some = record {
  whole = [];
  last = byte ∷ line;
  bytes = refl;
  all = refl;
  plain = All-cons IsLine (byte ∷ line) [] plain (All-nil IsLine);
}

-- one line more in front
pub lines-ended : (line text : List ℕ) (lines : List (List ℕ)) → IsLine line → HasLines text lines
    → HasLines (with_newline line ++ text) (line ∷ lines)
lines-ended line text lines plain has = record {
  whole = line ∷ has.whole;
  last = has.last;
  bytes = ap (λ l. with_newline line ++ l) has.bytes ∙ sym (append_assoc (with_newline line) (with_newlines has.whole) has.last);
  all = ap (λ l. line ∷ l) has.all;
  plain = All-cons IsLine line lines plain has.plain;
}

-- a text of lines as pieces is one of these lines
pub lines_of : (max : ℕ) (text : List ℕ) (lines : List (List ℕ)) → HasPieces (lined max) text lines → HasLines text lines
lines_of max text [] none = subst (λ l. HasLines l []) (sym none) lines-none
lines_of max text (line ∷ lines) (inl (more, s, has)) =
    subst (λ l. HasLines l (line ∷ lines)) (sym (s.equal ∙ ap (λ l. l ++ more) s.is.2))
    (lines-ended line more lines s.is.0 (lines_of max more lines has))
lines_of max text (line ∷ lines) (inr (last, none)) =
    subst (λ l. HasLines text (l ∷ lines)) (sym last.is)
    (subst (λ l. HasLines text (text ∷ l)) (sym none)
    (lines-last text (open_plain newline max text last.open').0 last.some))

-- lines as pieces fit
pub fits_of : (max : ℕ) (text : List ℕ) (lines : List (List ℕ)) → HasPieces (lined max) text lines
    → All (FitsLine max) lines
fits_of max text [] none = All-nil (FitsLine max)
fits_of max text (line ∷ lines) (inl (more, s, has)) =
    All-cons (FitsLine max) line lines (record { plain = s.is.0; fits = s.is.1 }) (fits_of max more lines has)
fits_of max text (line ∷ lines) (inr (last, none)) =
    let p = open_plain newline max text last.open' in
    let line_fits : FitsLine max line =
    record { plain = subst IsLine (sym last.is) p.0; fits = omega (arith, p.1, ap length last.is) } in
    All-cons (FitsLine max) line lines line_fits (subst (All (FitsLine max)) (sym none) (All-nil (FitsLine max)))

-- a text whose lines fit is these lines as pieces
pub pieces_of : (max : ℕ) (text : List ℕ) (lines : List (List ℕ)) → HasLines text lines → All (FitsLine max) lines
    → HasPieces (lined max) text lines
pieces_of max text lines has fit =
    subst (λ l. HasPieces (lined max) l lines) (sym has.bytes)
    (subst (HasPieces (lined max) (with_newlines has.whole ++ has.last)) (sym has.all)
    (pieces has.whole has.last (subst (All (FitsLine max)) has.all fit)))
  where
    pieces : (whole : List (List ℕ)) (last : List ℕ) → All (FitsLine max) (whole ++ last_line last)
        → HasPieces (lined max) (with_newlines whole ++ last) (whole ++ last_line last)
    pieces [] [] fit = refl
    pieces [] (byte ∷ last) fit =
        let line = All-head (FitsLine max) (byte ∷ last) [] fit in
        inr (
          record { is = refl; open' = plain_open newline max (byte ∷ last) line.plain line.fits; some = omega arith },
          refl,
        )
    pieces (line ∷ whole) last fit =
        let first = All-head (FitsLine max) line (whole ++ last_line last) fit in
        inl (
          with_newlines whole ++ last,
          record {
            piece = with_newline line;
            is = (first.plain, first.fits, refl);
            equal = append_assoc (with_newline line) (with_newlines whole) last;
          },
          pieces whole last (All-tail (FitsLine max) line (whole ++ last_line last) fit),
        )

-- no line is longer than the text
all_fit : (max : ℕ) (whole : List (List ℕ)) (last : List ℕ) → length (with_newlines whole ++ last) ≤ max
    → All IsLine (whole ++ last_line last) → All (FitsLine max) (whole ++ last_line last)
all_fit max [] [] few plain = All-nil (FitsLine max)
all_fit max [] (byte ∷ last) few plain =
    let line : FitsLine max (byte ∷ last) = record { plain = All-head IsLine (byte ∷ last) [] plain; fits = few } in
    All-cons (FitsLine max) (byte ∷ last) [] line (All-nil (FitsLine max))
all_fit max (line ∷ whole) last few plain =
    let more = whole ++ last_line last in
    let all = length-append (with_newline line ++ with_newlines whole) last in
    let ended = length-append (with_newline line) (with_newlines whole) in
    let behind = length-append (with_newlines whole) last in
    let fits : length line ≤ max = omega (arith, few, all, ended, length-append line (newline ∷ [])) in
    All-cons (FitsLine max) line more (record { plain = All-head IsLine line more plain; fits = fits })
    (all_fit max whole last (omega (arith, few, all, ended, behind)) (All-tail IsLine line more plain))

-- the lines of a text are pieces, of which the laws hold
text_pieces : (text : List ℕ) (lines : List (List ℕ)) → HasLines text lines → HasPieces (lined (length text)) text lines
text_pieces text lines has =
    let few : length (with_newlines has.whole ++ has.last) ≤ length text = omega (arith, ap length has.bytes) in
    pieces_of (length text) text lines has (subst (All (FitsLine (length text))) (sym has.all)
    (all_fit (length text) has.whole has.last few (subst (All IsLine) has.all has.plain)))

abbrev lined_law : (text : List ℕ) → IsLawful (lined (length text))
lined_law text = delimited_lawful newline (length text)

-- a text of no line is nothing
pub Lines-none : (text : List ℕ) → HasLines text [] → text ≡ []
Lines-none text = text_pieces text []

-- a text with a line and its end in front: that is its first line, and the others are those of what is behind
pub Lines-first : (line more text : List ℕ) (lines : List (List ℕ)) → IsLine line → text ≡ line ++ newline ∷ more
    → HasLines text lines → (later : List (List ℕ)) × (lines ≡ line ∷ later) × HasLines more later
Lines-first line more text lines plain front has =
    let max = length text in
    let fits : length line ≤ max = omega (arith, ap length front, length-append line (newline ∷ more)) in
    let first = Pieces-first (lined max) (lined_law text) text line more lines (record {
      piece = with_newline line;
      is = (plain, fits, refl);
      equal = front ∙ sym (append_assoc line (newline ∷ []) more);
    }) (text_pieces text lines has) in
    (first.0, first.1, lines_of max more first.0 first.2)

-- a text without an end is its one line, or none
pub Lines-last : (text : List ℕ) (lines : List (List ℕ)) → IsLine text → HasLines text lines → lines ≡ last_line text
Lines-last [] lines plain has = Pieces-none (lined 0) (lined_law []) [] lines refl (text_pieces [] lines has)
Lines-last (byte ∷ more) lines plain has =
    let text = byte ∷ more in
    let open' = plain_open newline (length text) text plain (omega arith) in
    Pieces-last (lined (length text)) (lined_law text) text text lines (record { is = refl; open' = open'; some = omega arith })
    (text_pieces text lines has)

-- the lines of a text are settled by it
pub Lines-same : (text : List ℕ) (lines others : List (List ℕ)) → HasLines text lines → HasLines text others
    → lines ≡ others
Lines-same text lines others has has' =
    Pieces-same (lined (length text)) (lined_law text) text lines others (text_pieces text lines has)
    (text_pieces text others has')

-- lines, each with its end, are a text of these lines
pub Lines-with_ends : (lines : List (List ℕ)) → All IsLine lines → HasLines (with_newlines lines) lines
Lines-with_ends lines plain = record {
  whole = lines;
  last = [];
  bytes = sym (append-nil (with_newlines lines));
  all = sym (append-nil lines);
  plain = plain;
}

-- a line that fits is a line
pub all_plain : (max : ℕ) (lines : List (List ℕ)) → All (FitsLine max) lines → All IsLine lines
all_plain max [] fit = All-nil IsLine
all_plain max (line ∷ lines) fit = All-cons IsLine line lines (All-head (FitsLine max) line lines fit).plain
    (all_plain max lines (All-tail (FitsLine max) line lines fit))
