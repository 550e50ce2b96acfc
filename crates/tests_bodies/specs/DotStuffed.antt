-- Texts of mails, whose lines that begin with a dot are sent with one more.
use Rattle.std.specs.Prelude.{ℕ, ◌==◌, Bool, true, false, if◌then◌else◌}
use Rattle.body_reader.specs.ByByte.{TurnRules}
use Rattle.body_reader.specs.declared.by_byte.Turn.{Turn}
use Rattle.body_reader.specs.declared.by_byte.Turn.TheVariants.{Payload, Passed, Wrong}
use Rattle.tests_bodies.specs.declared.dot_stuffed.Alone.{Alone}
use Rattle.tests_bodies.specs.declared.dot_stuffed.Alone.TheVariants as alone
use Rattle.tests_bodies.specs.declared.dot_stuffed.Place.{Place}
use Rattle.tests_bodies.specs.declared.dot_stuffed.Place.TheVariants as at

-- what a byte of a line is
abbrev pub in_line : ℕ → Turn Place Alone
in_line byte = if byte == 13 then Payload at.Return else if byte == 10 then Wrong alone.Feed else Payload at.Within

-- what a byte is
abbrev pub turn : Place → ℕ → Turn Place Alone
turn at.Line byte = if byte == 46 then Passed at.Dot else in_line byte
turn at.Dot byte = if byte == 13 then Passed at.LastReturn else in_line byte
turn at.Return byte = if byte == 10 then Payload at.Line else Wrong alone.Return
turn at.LastReturn byte = if byte == 10 then Passed at.Done else Wrong alone.Return
turn place byte = in_line byte

abbrev pub is_done : Place → Bool
is_done at.Done = true
is_done place = false

-- the dot, and the CR and the line feed behind it
abbrev pub to_go : Place → ℕ
to_go at.Line = 3
to_go at.Dot = 2
to_go at.LastReturn = 1
to_go place = 0

abbrev pub dot_stuffed : TurnRules Place Alone
dot_stuffed = record { first = at.Line; is_end = is_done; turn = turn; between = to_go }
