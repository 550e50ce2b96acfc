-- Bodies in which a byte and its place say what it is.
use Rattle.std.specs.Prelude.{◌≡◌, ◌≢◌, ℕ, ◌<◌, ◌≤◌, ◌⊎◌, List, [], ◌∷◌, length, take, drop, Bool, true, false, ⊤}
use Rattle.body_reader.specs.declared.by_byte.Turn.{Turn}
use Rattle.body_reader.specs.declared.by_byte.Turn.TheVariants.{Payload, Passed, Wrong}
use Rattle.body_reader.specs.Coding.{Grammar}

-- the place before a body; in which places one ends; what a byte is in a place; and how many bytes there may be at most, from
-- a place to the next of payload or to the end
pub record TurnRules (P W : Type 0) : Type 0 where
  pub first : P
  pub is_end : P → Bool
  pub turn : P → ℕ → Turn P W
  pub between : P → ℕ

module _ {P W : Type 0} (t : TurnRules P W) where
  -- each byte leads on, and its payload are those that are payload
  abbrev pub CompletesByTurns : P → List ℕ → List ℕ → Type 0
  CompletesByTurns p [] payload = (t.is_end p ≡ true) × (payload ≡ [])
  CompletesByTurns p (byte ∷ rest) payload = (t.is_end p ≡ false)
      × (((q : P) × (later : List ℕ) × (t.turn p byte ≡ Payload q) × (payload ≡ byte ∷ later) × CompletesByTurns q rest later)
      ⊎ ((q : P) × (t.turn p byte ≡ Passed q) × CompletesByTurns q rest payload))

  -- a byte that is no payload leads on; in each place some byte is none; and from each some bytes lead to the end
  pub record AreLawful : Type 0 where
    pub nearer : (p q : P) (byte : ℕ) → t.turn p byte ≡ Passed q → t.between q < t.between p
    pub other : (p : P) → (byte : ℕ) × ((q : P) → t.turn p byte ≢ Payload q)
    pub alive : (p : P) → (rest payload : List ℕ) × CompletesByTurns p rest payload

  -- each of these bytes is payload, and they lead from the one place to the other
  abbrev pub LeadsByPayload : P → List ℕ → P → Type 0
  LeadsByPayload p [] q = p ≡ q
  LeadsByPayload p (byte ∷ bytes) q =
      (t.is_end p ≡ false) × (next : P) × (t.turn p byte ≡ Payload next) × LeadsByPayload next bytes q

  -- the next of these bytes is no payload
  abbrev pub NoPayloadNext : P → List ℕ → Type 0
  NoPayloadNext p [] = ⊤
  NoPayloadNext p (byte ∷ bytes) = (t.is_end p ≡ true) ⊎ ((q : P) → t.turn p byte ≢ Payload q)

  -- the next of these bytes can't stand there
  abbrev pub IsWrongTurn : P → List ℕ → W → Type 0
  IsWrongTurn p [] why = ⊥
  IsWrongTurn p (byte ∷ bytes) why = (t.is_end p ≡ false) × (t.turn p byte ≡ Wrong why)

  -- the first n of these bytes are payload and lead there, and the next is none
  pub record Ran (p : P) (bytes : List ℕ) (n : ℕ) (q : P) : Type 0 where
    pub within : n ≤ length bytes
    pub keeps : LeadsByPayload p (take n bytes) q
    pub stops : NoPayloadNext q (drop n bytes)

abbrev pub by_byte : {P W : Type 0} → TurnRules P W → Grammar P W
by_byte t = record {
  first = t.first;
  ahead = 1;
  is_place = λ p. ⊤;
  completes = CompletesByTurns t;
  carries = λ p bytes follow. (q : _) × LeadsByPayload t p bytes q;
  wrong = IsWrongTurn t;
  between = t.between;
  sure = λ p. 0;
  heeds = false;
}
