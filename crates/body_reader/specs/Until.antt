-- Bodies that end at a delimiter.
use Rattle.std.specs.Prelude.{◌≡◌, ◌≢◌, ℕ, ◌+◌, ◌<◌, ◌≤◌, List, [], ◌++◌, length, drop, true, ⊤}
use Rattle.memchr.specs.Find.{Nowhere, OccursAt}
use Rattle.body_reader.specs.declared.until.Part.{Part}
use Rattle.body_reader.specs.declared.until.Part.TheVariants.{Inside, Behind}
use Rattle.body_reader.specs.Coding.{Agree, Grammar}

-- a payload and then the delimiter, which stands nowhere before
abbrev pub EndsPart : List ℕ → Part → List ℕ → List ℕ → Type 0
EndsPart needle Inside rest payload = (rest ≡ payload ++ needle) × Nowhere (OccursAt rest needle) 0 (length payload)
EndsPart needle Behind rest payload = (rest ≡ []) × (payload ≡ [])

abbrev pub IsNowhereIn : List ℕ → List ℕ → Type 0
IsNowhereIn needle bytes = (k : ℕ) → ¬ OccursAt bytes needle k

-- the delimiter begins in none of these bytes, whatever goes on as what follows
abbrev pub IsClear : List ℕ → Part → List ℕ → List ℕ → Type 0
IsClear needle Inside bytes follow =
    (rest : List ℕ) → Agree follow rest → Nowhere (OccursAt (bytes ++ rest) needle) 0 (length bytes)
IsClear needle Behind bytes follow = ⊥

-- where in bytes in which the delimiter doesn't stand it may begin: from there on they are its front, and from nowhere before
pub record MayBegin (needle shown : List ℕ) (at : ℕ) : Type 0 where
  pub within : at ≤ length shown
  pub front : (rest : List ℕ) × (needle ≡ drop at shown ++ rest)
  pub clear : (k : ℕ) → k < at → length shown < k + length needle → (rest : List ℕ) → needle ≢ drop k shown ++ rest

abbrev pub most_left : List ℕ → Part → ℕ
most_left needle Inside = length needle
most_left needle Behind = 0

abbrev pub until : List ℕ → Grammar Part (Unit {0})
until needle = record {
  first = Inside;
  ahead = length needle;
  is_place = λ place. ⊤;
  completes = EndsPart needle;
  carries = IsClear needle;
  wrong = λ place shown why. ⊥;
  between = most_left needle;
  sure = λ place. 0;
  heeds = true;
}
