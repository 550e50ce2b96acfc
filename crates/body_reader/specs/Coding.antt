-- What a coding says of bytes.
use Rattle.std.specs.Prelude.{◌≡◌, ◌≢◌, ℕ, ◌+◌, ◌<◌, ◌≤◌, ◌⊎◌, List, [], ◌∷◌, ◌++◌, length, min, take, drop, Bool, if◌then◌else◌}
use Rattle.body_reader.specs.declared.coding.Look.{Look}
use Rattle.body_reader.specs.declared.coding.Look.TheVariants.{Payload, Passed, More, Wrong, Ended}

-- the one begins the other
abbrev pub Agree : List ℕ → List ℕ → Type 0
Agree a b = (x : List ℕ) × (y : List ℕ) × (a ++ x ≡ b ++ y)

-- the place before a body; how many bytes a look needs to be shown at most; which places there are; which bytes complete a body
-- from a place, and the payload in them; which bytes are payload in a place, where others follow that are shown; what is wrong
-- with the next bytes in it; how many bytes there may be at most, from it to the next of payload or to the end of the body; how
-- many of the next bytes are payload, whatever they are; and whether it hangs on what follows where bytes of payload lead
pub record Grammar (P W : Type 0) : Type 1 where
  pub first : P
  pub ahead : ℕ
  pub is_place : P → Type 0
  pub completes : P → List ℕ → List ℕ → Type 0
  pub carries : P → List ℕ → List ℕ → Type 0
  pub wrong : P → List ℕ → W → Type 0
  pub between : P → ℕ
  pub sure : P → ℕ
  pub heeds : Bool

-- what is heeded of the bytes that follow
abbrev pub heeded : {P W : Type 0} → Grammar P W → List ℕ → List ℕ
heeded g follow = if g.heeds then follow else []

-- what a look says, where a place is told so, and what is wrong so
abbrev pub look_as : {P Q V W : Type 0} → (P → Q) → (V → W) → Look P V → Look Q W
look_as at name (Payload n) = Payload n
look_as at name (Passed n p) = Passed n (at p)
look_as at name (More n) = More n
look_as at name (Wrong why) = Wrong (name why)
look_as at name Ended = Ended

module _ {P W : Type 0} (g : Grammar P W) where
  -- behind a body
  abbrev pub IsDone : P → Type 0
  IsDone p = g.completes p [] []

  -- these bytes are a body with this payload
  abbrev pub IsBody : List ℕ → List ℕ → Type 0
  IsBody bytes payload = g.completes g.first bytes payload

  -- where these bytes follow: some bytes, in which there is this payload, lead from one place to the other. With them in front,
  -- just what completes the body there completes it here; and they don't go past the end of the body
  pub record Leads (p : P) (wire handed : List ℕ) (q : P) (follow : List ℕ) : Type 0 where
    pub onward : (rest payload : List ℕ) → Agree follow rest → g.completes q rest payload
        → g.completes p (wire ++ rest) (handed ++ payload)
    pub back : (rest whole : List ℕ) → Agree follow rest → g.completes p (wire ++ rest) whole
        → (payload : List ℕ) × (whole ≡ handed ++ payload) × g.completes q rest payload
    pub within : (rest payload past : List ℕ) → g.completes p rest payload → wire ≡ rest ++ past → past ≡ []

  -- these bytes, which are no payload, lead from one place to the other
  pub record PassesOver (p : P) (wire : List ℕ) (q : P) (follow : List ℕ) : Type 0 where
    pub leads : Leads p wire [] q follow
    pub few : g.between q + length wire ≤ g.between p

  -- nothing is wrong with these bytes
  abbrev pub IsRight : P → List ℕ → Type 0
  IsRight p bytes = (why : W) → ¬ g.wrong p bytes why

  -- the bytes settle nothing: they are fewer than a look may need; what completes the body and agrees with them goes on behind
  -- them; and something does, with a payload that none of them begins, so none is known to be payload
  pub record IsOpen (p : P) (bytes : List ℕ) : Type 0 where
    pub few : length bytes < g.ahead
    pub further : (rest payload : List ℕ) → g.completes p rest payload → Agree bytes rest → length bytes < length rest
    pub behind : List ℕ
    pub payload : List ℕ
    pub completes : g.completes p (bytes ++ behind) payload
    pub unknown : (front : List ℕ) (byte : ℕ) (back later : List ℕ) → bytes ≡ front ++ byte ∷ back → payload ≢ byte ∷ later

  -- however they go on, fewer than n bytes settle nothing
  pub record IsOpenBelow (p : P) (n : ℕ) (bytes : List ℕ) : Type 0 where
    pub few : length bytes < n
    pub most : n ≤ g.ahead
    pub is_open : (more : List ℕ) → length (bytes ++ more) < n → IsOpen p (bytes ++ more)

  -- these bytes, in which there is this payload, lead on, where what follows of them settles nothing
  pub record LeadsOpen (p : P) (handed bytes : List ℕ) : Type 0 where
    pub wire : List ℕ
    pub shown : List ℕ
    pub place : P
    pub equal : bytes ≡ wire ++ shown
    pub leads : Leads p wire handed place (heeded g shown)
    pub is_place : g.is_place place
    pub settles_nothing : IsOpen place shown

  -- an ask where bytes lead on so, none of which is payload, for a slice that takes so many: where nothing was buffered it
  -- offered as much of that as surely is payload
  pub record AskedFor (p : P) (room offer : ℕ) (bytes : List ℕ) : Type 0 where
    pub leads : LeadsOpen p [] bytes
    pub enough : leads.shown ≡ [] → min room (g.sure leads.place) ≤ offer

  -- the next n bytes are payload, whatever follows what is shown
  pub record Carries (p : P) (n : ℕ) (shown : List ℕ) : Type 0 where
    pub some : 0 < n
    pub goes_on : ¬ IsDone p
    pub carries : (bytes follow more : List ℕ) → length bytes ≤ n → bytes ++ follow ≡ shown ++ more
        → g.carries p bytes follow

  -- so many of these bytes are known to be payload
  abbrev pub IsKnown : P → ℕ → List ℕ → Type 0
  IsKnown p known bytes = (known ≤ length bytes) × (0 < known → Carries p known bytes)

  -- no more of these bytes are payload, or as many are as surely are, whatever they are
  abbrev pub IsAllPayload : P → ℕ → List ℕ → Type 0
  IsAllPayload p n shown = (n ≡ g.sure p) ⊎ ((m : ℕ) → m ≤ length shown → Carries p m shown → m ≤ n)

  -- the next n bytes are payload, and no more of those that are shown, or as many as surely are
  abbrev pub IsNextPayload : P → ℕ → List ℕ → Type 0
  IsNextPayload p n shown = Carries p n shown × (g.sure p ≤ n) × IsAllPayload p n shown

  -- what each answer of a look means
  abbrev pub Looks : P → List ℕ → Look P W → Type 0
  Looks p shown (Payload n) = Carries p n shown × (g.sure p ≤ n) × IsAllPayload p n shown × IsRight p shown
  Looks p shown (Passed n q) = (0 < n) × (n ≤ length shown) × PassesOver p (take n shown) q (heeded g (drop n shown))
      × g.is_place q × (¬ IsDone p) × IsRight p shown
  Looks p shown (More n) = IsOpenBelow p n shown × (g.sure p ≡ 0)
  Looks p shown (Wrong why) = g.wrong p shown why × ¬ IsDone p
  Looks p shown Ended = IsDone p

  -- a look may need some byte; a body begins at a place; from each place something completes it; no byte holds no payload; what
  -- is wrong neither begins what completes a body nor goes on with it, is so for one reason, and stays so however it goes on; no
  -- more bytes surely are payload than it says; and no body begins another, and each has one payload
  pub record IsLawful : Type 0 where
    pub some : 0 < g.ahead
    pub begins : g.is_place g.first
    pub alive : (p : P) → g.is_place p → (rest payload : List ℕ) × g.completes p rest payload
    pub nothing : (p : P) (payload : List ℕ) → g.is_place p → g.completes p [] payload → payload ≡ []
    pub never : (p : P) (shown : List ℕ) (why : W) (rest payload : List ℕ) → g.is_place p → g.wrong p shown why
        → g.completes p rest payload → ¬ Agree shown rest
    pub reason : (p : P) (shown : List ℕ) (why other : W) → g.is_place p → g.wrong p shown why → g.wrong p shown other
        → why ≡ other
    pub stays : (p : P) (shown more : List ℕ) (why : W) → g.is_place p → g.wrong p shown why → g.wrong p (shown ++ more) why
    pub sure : (p : P) (n : ℕ) → g.is_place p → Carries p n [] → n ≤ g.sure p
    pub one : (a b x y xs ys : List ℕ) → IsBody a x → IsBody b y → a ++ xs ≡ b ++ ys → (a ≡ b) × (x ≡ y)
