-- Bulk strings, and the null string.
use Rattle.std.specs.Prelude.{ℕ, [], ◌∷◌, Bool, true, false, ◌&&◌, ◌==◌, if◌then◌else◌}
use Rattle.codec.specs.Scanning.{Scanning}
use Rattle.codec.specs.TextHeaders.{text_turn}
use Rattle.codec.specs.declared.number.Number.TheVariants.{Empty}
use Rattle.codec.specs.declared.scan.ScanStep.{ScanStep}
use Rattle.codec.specs.declared.scan.ScanStep.TheVariants.{More, Sized, Bad}
use Rattle.codec.specs.declared.text_header.TextHeaderState.{TextHeaderState}
use Rattle.codec.specs.declared.text_header.TextHeaderState.TheVariants.{Before, Length}
use Rattle.decoders.specs.TextWords.{bulk_strings}
use Rattle.decoders.specs.declared.nullable.StringState.{StringState}
use Rattle.decoders.specs.declared.nullable.StringState.TheVariants.{Text, Minus}

-- a length begins here
abbrev pub begins_length : TextHeaderState → Bool
begins_length (Length Empty) = true
begins_length place = false

-- a turn in the header of a bulk string
abbrev pub in_text : ScanStep TextHeaderState → ScanStep StringState
in_text (More place) = More (Text place)
in_text (Sized len) = Sized len
in_text Bad = Bad

-- where a length may begin, a minus and a one are the null string
abbrev pub nullable : ℕ → Scanning StringState
nullable max = record {
  start = Text (Before 0);
  turn = λ state byte. elim state as (λ _. ScanStep StringState) [
    | Text place ↦ if (byte == 45) && begins_length place then More Minus else in_text (text_turn (bulk_strings max) place byte)
    | Minus ↦ if byte == 49 then Sized 0 else Bad
  ];
  most_header = 21;
  max = max;
  tail = 13 ∷ 10 ∷ [];
}
