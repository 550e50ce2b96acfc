-- Which bodies are too large to be taken whole.
use Rattle.std.specs.Prelude.{◌≡◌, ℕ, ◌+◌, ◌*◌, ◌≤◌, ◌⊎◌, ◌||◌, nat_lt, Bool, false, List, [], ◌++◌, length, IsTrue}
use Rattle.messages.specs.declared.head.Extent.{Extent}
use Rattle.messages.specs.declared.head.Extent.TheVariants.{Sized, Chunked}
use Rattle.body_reader.specs.BodyReader.{IsBodyReader, handed_of}
use Rattle.body_reader.specs.Coding.{Grammar, Leads, LeadsOpen}
use Rattle.body_reader.specs.declared.either.Side.{Side}
use Rattle.chunked.specs.declared.error.Malformed.{Malformed}
use Rattle.chunked.specs.declared.place.Place.{Place}
use Rattle.messages.specs.Limits.{usual}
use Rattle.messages.specs.Messages.{InBody, Reader, body_rules, coding_of}

-- the most payload, of 2 ^ 40 bytes
abbrev pub max_payload : ℕ
max_payload = 1099511627776

-- so many bytes were taken of a body, with so much payload, and that is too much; or its head says so. In chunks of one byte
-- each byte of payload takes six, and what else is none, as extensions and trailers, has a total
abbrev pub is_large : Extent → ℕ → ℕ → Bool
is_large (Sized all) taken payload = nat_lt max_payload payload || nat_lt max_payload all
is_large Chunked taken payload = nat_lt max_payload payload || nat_lt (16384 + 6 * payload) taken

-- it wasn't where the reader stood before the last read, which handed this out, or nothing; or nothing was read
abbrev pub IsNewlyLarge : {S : Type 0} → InBody S → Type 0
IsNewlyLarge {S} b = ((b.body.taken ≡ []) × (handed_of b.body ≡ []))
    ⊎ ((before : Reader S) × (wire : List ℕ) × (last : List ℕ) × IsBodyReader (body_rules b.body.coding) before
    × (b.body.taken ≡ before.taken ++ wire) × (handed_of b.body ≡ handed_of before ++ last)
    × ((last ≡ []) ⊎ ((last ≡ b.body.calls.reads.latest) × (length last ≤ 4096)))
    × (is_large b.said.extent (length before.taken) (length (handed_of before)) ≡ false))

-- what was taken of a body is too large with the payload in it
abbrev pub too_large : {S : Type 0} → InBody S → Bool
too_large b = is_large b.said.extent (length b.body.taken) (length (handed_of b.body))

-- and is so as soon as that was read
pub record TurnsLarge {S : Type 0} (b : InBody S) : Type 0 where
  pub large : IsTrue (too_large b)
  pub fresh : IsNewlyLarge b

-- the coding of a body under the usual limits
abbrev pub usual_rules : Extent → Grammar (Side ℕ Place) (Side (Unit {0}) Malformed)
usual_rules extent = body_rules (coding_of usual extent)

-- more of this body is to be asked for: nothing was handed out, and what is buffered, and comes, is no payload
abbrev pub AwaitsMore : {S : Type 0} → InBody S → List ℕ → List ℕ → Type 0
AwaitsMore b front behind = (front ≡ []) × LeadsOpen (body_rules b.body.coding) b.body.place [] behind

-- the bytes in front begin a body, and aren't too large; and it goes on behind those that follow, which are no payload
pub record IsAwaited (extent : Extent) (front behind : List ℕ) : Type 0 where
  pub payload : List ℕ
  pub place : Side ℕ Place
  pub leads : Leads (usual_rules extent) (usual_rules extent).first front payload place []
  pub small : is_large extent (length front) (length payload) ≡ false
  pub more : LeadsOpen (usual_rules extent) place [] behind
