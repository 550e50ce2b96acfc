-- Laws of lines.
use Rattle.std.specs.Prelude.{◌≡◌, ℕ, ◌+◌, ◌≤◌, ◌⊎◌, List, [], ◌∷◌, ◌++◌, length, take}
use Rattle.std.proofs.Common.{sym, ap, subst, ◌∙◌, refl, arith, inl, inr, append_assoc, length-append}
use Rattle.std.proofs.lemmas.Bool.{cases_lt}
use Rattle.std.proofs.lemmas.List.{take-append-le}
use Rattle.std.proofs.lemmas.List.Elements.{All-nil, All-cons, All-head, All-tail, All-take}
use Rattle.piece_reader.specs.DelimitedLaws.{end-within, first_end, isnt_end}
use Rattle.piece_reader.specs.Grammar.{Begins}
use Rattle.line_reader.specs.Lines.{newline, BeginsTooLong, IsLine, with_newline}
use Rattle.line_reader.specs.LineReader.{lined}

-- the end of a line of at most max bytes is one of the first max + 1
pub no-end-within : (line more : List ℕ) (max : ℕ) → length line ≤ max
    → ¬ (IsLine (take (1 + max) (line ++ newline ∷ more)))
no-end-within = end-within newline

-- a beginning of what has no end has none
pub take_plain : (count : ℕ) (line : List ℕ) → IsLine line → IsLine (take count line)
take_plain = All-take (isnt_end newline)

-- there is an end among bytes, or none
pub line_or_end : (bytes : List ℕ)
    → IsLine bytes ⊎ ((line : List ℕ) × (more : List ℕ) × IsLine line × (bytes ≡ line ++ newline ∷ more))
line_or_end = first_end newline

-- a line that has an end fits, or is too long
pub line_or_long : (max : ℕ) (bytes line more : List ℕ) → IsLine line → bytes ≡ line ++ newline ∷ more
    → Begins (lined max) bytes ⊎ BeginsTooLong max bytes
line_or_long max bytes line more plain equal = elim (cases_lt max (length line)) [
  | inl long ↦ inr (record {
    above = omega (arith, long, ap length equal, length-append line (newline ∷ more));
    plain = subst IsLine
        (sym (ap (λ l. take (1 + max) l) equal ∙ take-append-le (1 + max) line (newline ∷ more) (omega (arith, long))))
        (take_plain (1 + max) line plain);
  })
  | inr fits ↦ inl (record {
    piece = with_newline line;
    payload = line;
    more = more;
    is = (plain, fits, refl);
    equal = equal ∙ sym (append_assoc line (newline ∷ []) more);
  })
]

-- more bytes behind leave a line too long
pub too_long-append : (max : ℕ) (bytes more : List ℕ) → BeginsTooLong max bytes → BeginsTooLong max (bytes ++ more)
too_long-append max bytes more long = record {
  above = omega (arith, long.above, length-append bytes more);
  plain = subst IsLine (sym (take-append-le (1 + max) bytes more (omega (arith, long.above)))) long.plain;
}

-- the front of what has no end has none
pub front_plain : (front more : List ℕ) → IsLine (front ++ more) → IsLine front
front_plain [] more plain = All-nil (isnt_end newline)
front_plain (byte ∷ front) more plain =
    All-cons (isnt_end newline) byte front (All-head (isnt_end newline) byte (front ++ more) plain)
    (front_plain front more (All-tail (isnt_end newline) byte (front ++ more) plain))
