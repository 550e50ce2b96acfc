-- The fields of a head, and the parameters of a value.
use Rattle.std.specs.Prelude.{ℕ, ◌-◌, ◌==◌, ◌||◌, ◌&&◌, List, [], ◌∷◌, length, take, drop, Bool, false, not, if◌then◌else◌, nat_eq, Option, None, Some, slice_index}
use Rattle.std.specs.Char.{is_ascii_whitespace}
use Rattle.std.specs.List.{before_first, prefix_len, starts_with, suffix_len}
use Rattle.std.specs.Option.{option_and_then, option_map, option_map_or, option_or}
use Rattle.std.specs.Str.{str_eq_ignore_ascii_case}
use Rattle.part_fields.specs.declared.fields.Sought.{Sought}
use Rattle.part_fields.specs.declared.fields.Sought.TheVariants.{LineEnd, Field, Parameter}

abbrev pub is_blank : ℕ → Bool
is_blank byte = (byte == 32) || (byte == 9)

abbrev pub crlf : List ℕ
crlf = 13 ∷ 10 ∷ []

-- without ASCII white space around it
abbrev pub trimmed : List ℕ → List ℕ
trimmed text =
    let rest = drop (prefix_len is_ascii_whitespace text) text in take (length rest - suffix_len is_ascii_whitespace rest) rest

-- what stands behind this front, whatever the case of its letters
abbrev pub after_front : List ℕ → List ℕ → Option (List ℕ)
after_front front text =
    if str_eq_ignore_ascii_case (take (length front) text) front then Some (drop (length front) text) else None

-- the same where white space may stand before it
abbrev pub next : List ℕ → List ℕ → Option (List ℕ)
next front text = after_front front (drop (prefix_len is_ascii_whitespace text) text)

-- what a place says of what is sought: the end of a line, which no blank continues, and what stands behind that; what stands
-- behind a field's name, that begins a line, and a colon; or behind a parameter's, with `;` in front, and `=`, outside quotes
abbrev pub said_at : Sought → List ℕ → Bool → List ℕ → Option (List ℕ)
said_at LineEnd name quoted text =
    if starts_with nat_eq text crlf && not (is_blank (slice_index text 2)) then Some text else None
said_at Field name quoted text =
    option_and_then (after_front (58 ∷ [])) (option_and_then (after_front name) (after_front crlf text))
said_at Parameter name quoted text = if quoted then None
    else option_and_then (next (61 ∷ [])) (option_and_then (next name) (after_front (59 ∷ []) text))

-- what the first place says that says something: a quote begins and ends quotes
abbrev pub first_said : Sought → List ℕ → Bool → List ℕ → Option (List ℕ)
first_said sought name quoted [] = None
first_said sought name quoted (byte ∷ rest) = option_or (said_at sought name quoted (byte ∷ rest))
    (first_said sought name (if byte == 34 then not quoted else quoted) rest)

-- up to the end of the line
abbrev pub line : List ℕ → List ℕ
line text = option_map_or (λ rest. take (length text - length rest) text) (first_said LineEnd [] false text) text

-- the value of the first field of this name
abbrev pub field_of : List ℕ → List ℕ → Option (List ℕ)
field_of head name = option_map (λ value. trimmed (line value)) (first_said Field name false head)

-- what is said behind `=`: what stands in quotes, or else up to `;`
abbrev pub said : List ℕ → List ℕ
said text =
    option_map_or (before_first (λ byte. byte == 34)) (next (34 ∷ []) text) (trimmed (before_first (λ byte. byte == 59) text))

-- by the first parameter of this name
abbrev pub parameter_of : List ℕ → List ℕ → Option (List ℕ)
parameter_of value name = option_map said (first_said Parameter name false value)
