-- How a head begins.
use Rattle.std.specs.Prelude.{ℕ, ◌==◌, ◌&&◌, ◌||◌, List, length, drop, Bool, IsTrue, nat_eq, nat_le}
use Rattle.std.specs.List.{prefix_len, starts_with}
use Rattle.body_reader.specs.Until.{IsNowhereIn}
use Rattle.part_fields.specs.Fields.{crlf, is_blank}

-- with blanks or none, no more than a line of a mail has bytes, and then the end of a line, or nothing
abbrev pub is_opening : List ℕ → Bool
is_opening head = let len = prefix_len is_blank head in
    nat_le len 998 && ((length (drop len head) == 0) || starts_with nat_eq (drop len head) crlf)

-- a head is so: it begins so, and what ends a text, a boundary that begins a line, stands nowhere in it
abbrev pub IsPartHead : List ℕ → List ℕ → Type 0
IsPartHead boundary head = IsTrue (is_opening head) × IsNowhereIn boundary head
