-- Bodies that are just some bytes, or else end at a delimiter.
use Rattle.std.specs.Prelude.{◌≡◌, ℕ, ◌⊎◌, List, [], ◌++◌, length, true, ⊤}
use Rattle.body_reader.specs.declared.until.Part.TheVariants.{Inside}
use Rattle.body_reader.specs.Coding.{Agree, Grammar}
use Rattle.body_reader.specs.Until.{EndsPart, IsClear, most_left}
use Rattle.body_reader.specs.declared.just_or_until.JustOr.{JustOr}
use Rattle.body_reader.specs.declared.just_or_until.JustOr.TheVariants as at

-- just these bytes; or they don't begin so, and are a payload and then the delimiter, which stands nowhere before
abbrev pub EndsJust : List ℕ → List ℕ → JustOr → List ℕ → List ℕ → Type 0
EndsJust just needle at.Start rest payload =
    ((rest ≡ just) × (payload ≡ [])) ⊎ (((more : List ℕ) → ¬ (rest ≡ just ++ more)) × EndsPart needle Inside rest payload)
EndsJust just needle (at.Until part) rest payload = EndsPart needle part rest payload
EndsJust just needle at.Just rest payload = (rest ≡ []) × (payload ≡ [])

-- these bytes are its payload, whatever goes on as what follows
abbrev pub IsSurePayload : List ℕ → List ℕ → JustOr → List ℕ → List ℕ → Type 0
IsSurePayload just needle at.Start bytes follow = (¬ Agree just (bytes ++ follow)) × IsClear needle Inside bytes follow
IsSurePayload just needle (at.Until part) bytes follow = IsClear needle part bytes follow
IsSurePayload just needle at.Just bytes follow = ⊥

abbrev pub most_passed : List ℕ → JustOr → ℕ
most_passed needle at.Start = length needle
most_passed needle (at.Until part) = most_left needle part
most_passed needle at.Just = 0

abbrev pub just_or_until : List ℕ → List ℕ → ℕ → Grammar JustOr (Unit {0})
just_or_until just needle room = record {
  first = at.Start;
  ahead = room;
  is_place = λ place. ⊤;
  completes = EndsJust just needle;
  carries = IsSurePayload just needle;
  wrong = λ place shown why. ⊥;
  between = most_passed needle;
  sure = λ place. 0;
  heeds = true;
}
