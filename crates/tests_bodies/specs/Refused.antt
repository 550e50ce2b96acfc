-- Codings that no law lets through.
use Rattle.std.specs.Prelude.{◌≡◌, ◌≢◌, ℕ, ◌+◌, ◌≤◌, ◌==◌, List, length, take, false, if◌then◌else◌}
use Rattle.std.specs.List.{AllByRecursion}
use Rattle.body_reader.specs.ByByte.{TurnRules}
use Rattle.body_reader.specs.Coding.{Grammar}
use Rattle.body_reader.specs.declared.by_byte.Turn.{Turn}
use Rattle.body_reader.specs.declared.by_byte.Turn.TheVariants.{Payload, Passed, Wrong}

-- so many bytes, of which none is handed out before all are shown
abbrev pub withheld : ℕ → Grammar ℕ (Unit {0})
withheld n = record {
  first = n;
  ahead = n;
  is_place = λ left. left ≤ n;
  completes = λ left rest payload. (length rest ≡ left) × (payload ≡ rest);
  carries = λ left bytes follow. (length bytes ≤ left) × (left ≤ length bytes + length follow);
  wrong = λ left shown why. ⊥;
  between = λ left. 0;
  sure = λ left. 0;
  heeds = false;
}

abbrev pub NoZero : List ℕ → Type 0
NoZero bytes = AllByRecursion (λ byte. byte ≢ 0) bytes

-- so many bytes without a 0, which is wrong only once all are shown
abbrev pub late : ℕ → Grammar ℕ (Unit {0})
late n = record {
  first = n;
  ahead = n;
  is_place = λ left. left ≤ n;
  completes = λ left rest payload. (length rest ≡ left) × (payload ≡ rest) × NoZero rest;
  carries = λ left bytes follow. (length bytes ≤ left) × (left ≤ length bytes + length follow);
  wrong = λ left shown why. (left ≤ length shown) × (¬ NoZero (take left shown));
  between = λ left. 0;
  sure = λ left. 0;
  heeds = false;
}

-- what a line feed ends, but a 0 leads to where nothing does
abbrev pub lost_turn : ℕ → ℕ → Turn ℕ (Unit {0})
lost_turn place byte =
    if place == 1 then (if byte == 10 then Passed 0 else if byte == 0 then Passed 2 else Payload 1)
    else if byte == 0 then Wrong tt else Payload place

abbrev pub lost : TurnRules ℕ (Unit {0})
lost = record {
  first = 1;
  is_end = λ place. place == 0;
  turn = lost_turn;
  between = λ place. if place == 1 then 1 else 0;
}
