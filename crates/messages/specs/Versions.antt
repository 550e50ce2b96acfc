-- Which version of HTTP the first line of a head names, at its end.
use Rattle.std.specs.Prelude.{ℕ, ◌+◌, ◌-◌, ◌==◌, ◌&&◌, ◌||◌, not, nat_eq, nat_lt, if◌then◌else◌, Bool, List, codes, drop, length, slice_index, slice_set, take, Option, None, Some}
use Rattle.std.specs.List.{prefix_len, starts_with}
use Rattle.std.specs.Char.{is_ascii_digit}

abbrev pub is_end : ℕ → Bool
is_end b = (b == 13) || (b == 10)

-- what stands behind empty lines in front
abbrev pub behind_blank : List ℕ → List ℕ
behind_blank bytes = drop (prefix_len is_end bytes) bytes

-- an LF alone may end a line too (RFC 9112, section 2.2)
abbrev pub first_len : List ℕ → ℕ
first_len text = prefix_len (λ b. not (is_end b)) text

abbrev pub first_line : List ℕ → List ℕ
first_line text = take (first_len text) text

-- nine bytes name a version whose first number isn't 1
abbrev pub is_other_version : List ℕ → Bool
is_other_version bytes =
    starts_with nat_eq bytes (codes " HTTP/")
    && ((is_ascii_digit (slice_index bytes 6) && not (slice_index bytes 6 == 49))
    && ((slice_index bytes 7 == 46) && is_ascii_digit (slice_index bytes 8)))

-- a later one than 1.1, whose first number is 1
abbrev pub is_later_version : List ℕ → Bool
is_later_version bytes =
    starts_with nat_eq bytes (codes " HTTP/1.") && (nat_lt 49 (slice_index bytes 8) && is_ascii_digit (slice_index bytes 8))

-- a line ends with such
abbrev pub has_other_version : List ℕ → Bool
has_other_version line = nat_lt 8 (length line) && is_other_version (drop (length line - 9) line)

abbrev pub has_later_version : List ℕ → Bool
has_later_version line = nat_lt 8 (length line) && is_later_version (drop (length line - 9) line)

-- where the first line ends with such, the last byte of it
abbrev pub later_at : List ℕ → Option ℕ
later_at bytes =
    if has_later_version (first_line (behind_blank bytes))
    then Some (prefix_len is_end bytes + first_len (behind_blank bytes) - 1)
    else None

abbrev pub with_one : List ℕ → Option ℕ → List ℕ
with_one bytes (Some at) = slice_set bytes at 49
with_one bytes None = bytes

-- a head is read as one of 1.1 then (RFC 9110, section 2.5)
abbrev pub as_known : List ℕ → List ℕ
as_known bytes = with_one bytes (later_at bytes)
