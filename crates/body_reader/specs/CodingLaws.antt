-- Laws of places: traces of bytes join, and what is wrong completes no body.
use Rattle.std.proofs.Common.{◌≡◌, ◌⊎◌, ℕ, ◌<◌, ◌≤◌, Bool, true, false, if◌then◌else◌, List, [], ◌∷◌, ◌++◌, length, min, arith, inl, inr, sym, ap, subst, ◌∙◌, refl, append_assoc, append-nil, length-append}
use Rattle.std.proofs.lemmas.Bool.{cases_lt}
use Rattle.body_reader.specs.declared.coding.Look.{Look}
use Rattle.body_reader.specs.declared.coding.Look.TheVariants.{Payload, Passed, More, Wrong, Ended}
use Rattle.body_reader.specs.Coding.{Agree, AskedFor, Grammar, IsBody, IsDone, IsLawful, IsOpen, IsOpenBelow, Leads, LeadsOpen, Looks, heeded}

-- of two texts that begin the same bytes the shorter begins the other
pub begins_other : (a x b y : List ℕ) → length a ≤ length b → a ++ x ≡ b ++ y → (m : List ℕ) × (b ≡ a ++ m) × (x ≡ m ++ y)
begins_other [] x b y few same = (b, refl, same)
begins_other (h ∷ a) x [] y few same = absurd (omega (arith, few))
begins_other (h ∷ a) x (k ∷ b) y few same =
    let head : h ≡ k = cc in
    let found = begins_other a x b y (omega (arith, few)) (cc) in
    (found.0, ap (λ l. k ∷ l) found.1 ∙ ap (λ c. c ∷ (a ++ found.0)) (sym head), found.2)

pub overlaps : (a x b y : List ℕ) → a ++ x ≡ b ++ y
    → ((m : List ℕ) × (b ≡ a ++ m) × (x ≡ m ++ y)) ⊎ ((m : List ℕ) × (a ≡ b ++ m) × (m ++ x ≡ y))
overlaps a x b y same = elim (cases_lt (length b) (length a)) [
  | inl more ↦ let found = begins_other b y a x (omega (arith, more)) (sym same) in inr (found.0, found.1, sym found.2)
  | inr few ↦ inl (begins_other a x b y (omega (arith, few)) same)
]

pub Agree-less : (a more b : List ℕ) → Agree (a ++ more) b → Agree a b
Agree-less a more b agree = (more ++ agree.0, agree.1, sym (append_assoc a more agree.0) ∙ agree.2)

pub Agree-front : (a b c : List ℕ) → Agree b c → Agree (a ++ b) (a ++ c)
Agree-front a b c agree = grind (arith, append_assoc)

pub Agree-nothing : (a : List ℕ) → Agree a []
Agree-nothing a = ([], a, append-nil a)

pub nothing_behind : (rest past : List ℕ) → rest ++ past ≡ [] → past ≡ []
nothing_behind [] past same = same
nothing_behind (x ∷ rest) past same = cc

module _ {P W : Type 0} (g : Grammar P W) where
  -- no byte leads nowhere, whatever follows
  pub Leads-none : (p : P) (follow : List ℕ) → Leads g p [] [] p follow
  Leads-none p follow = grind (arith, nothing_behind)

  -- and where more follows
  pub Leads-more : (p q : P) (wire handed follow more : List ℕ) → Leads g p wire handed q follow
      → Leads g p wire handed q (follow ++ more)
  Leads-more p q wire handed follow more x = record {
    onward = λ rest payload agree c. x.onward rest payload (Agree-less follow more rest agree) c;
    back = λ rest whole agree c. x.back rest whole (Agree-less follow more rest agree) c;
    within = x.within;
  }

  -- two traces of bytes join
  module _ (p q r : P) (a b h k follow : List ℕ) (x : Leads g p a h q (b ++ follow)) (y : Leads g q b k r follow) where
    joined_within : (rest payload past : List ℕ) → g.completes p rest payload → a ++ b ≡ rest ++ past → past ≡ []
    joined_within rest payload past c same = elim (overlaps a b rest past same) [
      | inl found ↦
          let goes = x.back found.0 payload (follow_of found.0 past found.2) (subst (λ l. g.completes p l payload) found.1 c) in
          y.within found.0 goes.0 past goes.2 found.2
      | inr found ↦
          let none = x.within rest payload found.0 c found.1 in
          let all : a ≡ rest = found.1 ∙ ap (λ l. rest ++ l) none ∙ append-nil rest in
          let goes = x.back [] payload (Agree-nothing (b ++ follow))
          (subst (λ l. g.completes p l payload) (sym all ∙ sym (append-nil a)) c) in
          let nothing = y.within [] goes.0 b goes.2 refl in
          sym found.2 ∙ ap (λ l. l ++ b) none ∙ nothing
    ]
      where
        follow_of : (w m : List ℕ) → b ≡ w ++ m → Agree (b ++ follow) w
        follow_of w m is = ([], m ++ follow, append-nil (b ++ follow) ∙ ap (λ l. l ++ follow) is ∙ append_assoc w m follow)

    pub Leads-joins : Leads g p (a ++ b) (h ++ k) r follow
    Leads-joins = grind (arith, append_assoc, Agree-front, joined_within)

  -- what is heeded stands in front
  pub heeded_front : (follow : List ℕ) → (more : List ℕ) × (follow ≡ heeded g follow ++ more)
  heeded_front follow = front g.heeds
    where
      front : (h : Bool) → (more : List ℕ) × (follow ≡ (if h then follow else []) ++ more)
      front true = ([], sym (append-nil follow))
      front false = (follow, refl)

  -- what was heeded, and some more, is what was taken since, and then what is heeded
  pub heeded_on : (b before got after : List ℕ) → b ++ after ≡ before ++ got
      → (more : List ℕ) × (b ++ heeded g after ≡ heeded g before ++ more)
  heeded_on b before got after same = on g.heeds
    where
      on : (h : Bool) → (more : List ℕ) × (b ++ (if h then after else []) ≡ (if h then before else []) ++ more)
      on true = (got, same)
      on false = (b ++ [], refl)

  -- the same where the bytes that followed, and some more, are those that were taken then, and those that follow now
  pub Leads-then : (p q r : P) (a b h k before got after : List ℕ) → b ++ after ≡ before ++ got
      → Leads g p a h q (heeded g before) → Leads g q b k r (heeded g after)
      → Leads g p (a ++ b) (h ++ k) r (heeded g after)
  Leads-then p q r a b h k before got after same x y =
      let on = heeded_on b before got after same in
      Leads-joins p q r a b h k (heeded g after)
      (subst (Leads g p a h q) (sym on.1) (Leads-more p q a h (heeded g before) on.0 x)) y

  -- what leads from the beginning of a body to its end is a body
  pub Leads-whole : (bytes payload : List ℕ) (q : P) (follow : List ℕ) → Leads g g.first bytes payload q follow → IsDone g q
      → IsBody g bytes payload
  Leads-whole bytes payload q follow leads done = grind (arith, append-nil, Agree-nothing)

  -- and what leads to a place is one only where that is its end
  pub Leads-done : IsLawful g → (bytes payload : List ℕ) (q : P) (follow : List ℕ)
      → Leads g g.first bytes payload q follow → g.is_place q → IsBody g bytes payload → IsDone g q
  Leads-done lawful bytes payload q follow leads place body =
      let goes = leads.back [] payload (Agree-nothing follow) (subst (λ l. IsBody g l payload) (sym (append-nil bytes)) body) in
      subst (λ l. g.completes q [] l) (lawful.nothing q goes.0 place goes.2) goes.2

  -- what is left of a body, of which these bytes were taken: what completes it from there
  pub record LeftOver (taken handed : List ℕ) (q : P) (body payload xs more : List ℕ) : Type 0 where
    pub rest : List ℕ
    pub later : List ℕ
    pub equal : body ≡ taken ++ rest
    pub behind : more ≡ rest ++ xs
    pub front : payload ≡ handed ++ later
    pub completes : g.completes q rest later

  module _ (taken handed : List ℕ) (q : P) (follow : List ℕ) (leads : Leads g g.first taken handed q (heeded g follow))
      (body payload : List ℕ) (is : IsBody g body payload) where
    rest_of : (xs more : List ℕ) → body ++ xs ≡ taken ++ more
        → (rest : List ℕ) × (body ≡ taken ++ rest) × (more ≡ rest ++ xs)
    rest_of xs more same = elim (overlaps taken more body xs (sym same)) [
      | inl found ↦ found
      | inr found ↦
          let none = leads.within body payload found.0 is found.1 in (
            [],
            (sym (append-nil body) ∙ ap (λ l. body ++ l) (sym none) ∙ sym found.1) ∙ sym (append-nil taken),
            ap (λ l. l ++ more) (sym none) ∙ found.2,
          )
    ]

    -- of bytes that begin with a body, and with those that were taken of it, the rest of the body is left
    pub Leads-left : (xs more : List ℕ) → body ++ xs ≡ taken ++ (follow ++ more)
        → LeftOver taken handed q body payload xs (follow ++ more)
    Leads-left xs more same =
        let found = rest_of xs (follow ++ more) same in
        let front = heeded_front follow in
        let agree : Agree (heeded g follow) found.0 = Agree-less (heeded g follow) front.0 found.0
        (subst (λ l. Agree l found.0) front.1 (more, xs, found.2)) in
        let goes = leads.back found.0 payload agree (subst (λ l. IsBody g l payload) found.1 is) in
        record {
          rest = found.0;
          later = goes.0;
          equal = found.1;
          behind = found.2;
          front = goes.1;
          completes = goes.2;
        }

  -- bytes that settle nothing lead nowhere, or on from where others led
  pub LeadsOpen-here : (p : P) (bytes : List ℕ) → g.is_place p → IsOpen g p bytes → LeadsOpen g p [] bytes
  LeadsOpen-here p bytes place is = record {
    wire = [];
    shown = bytes;
    place = p;
    equal = refl;
    leads = Leads-none p (heeded g bytes);
    is_place = place;
    settles_nothing = is;
  }

  pub LeadsOpen-behind : (p q : P) (wire h k follow more : List ℕ) → Leads g p wire h q (heeded g follow)
      → LeadsOpen g q k (follow ++ more) → LeadsOpen g p (h ++ k) (wire ++ (follow ++ more))
  LeadsOpen-behind p q wire h k follow more leads o = record {
    wire = wire ++ o.wire;
    shown = o.shown;
    place = o.place;
    equal = ap (λ l. wire ++ l) o.equal ∙ sym (append_assoc wire o.wire o.shown);
    leads = Leads-then p q o.place wire o.wire h k follow more o.shown (sym o.equal) leads o.leads;
    is_place = o.is_place;
    settles_nothing = o.settles_nothing;
  }

  -- the same of an ask
  pub AskedFor-here : (p : P) (room offer : ℕ) (bytes : List ℕ) → g.is_place p → IsOpen g p bytes
      → min room (g.sure p) ≤ offer → AskedFor g p room offer bytes
  unfolding LeadsOpen-here
  AskedFor-here p room offer bytes place is enough =
      record { leads = LeadsOpen-here p bytes place is; enough = λ none. enough }

  pub AskedFor-behind : (p q : P) (room offer : ℕ) (wire follow more : List ℕ) → Leads g p wire [] q (heeded g follow)
      → AskedFor g q room offer (follow ++ more) → AskedFor g p room offer (wire ++ (follow ++ more))
  unfolding LeadsOpen-behind
  AskedFor-behind p q room offer wire follow more leads asked = record {
    leads = LeadsOpen-behind p q wire [] [] follow more leads asked.leads;
    enough = asked.enough;
  }

  -- bytes of which fewer than n settle nothing settle nothing
  pub IsOpenBelow-open : (p : P) (n : ℕ) (bytes : List ℕ) → IsOpenBelow g p n bytes → IsOpen g p bytes
  IsOpenBelow-open p n bytes lacks = grind (arith, append-nil)

  -- where the body goes on, no byte settles nothing
  pub open_at : IsLawful g → (p : P) → g.is_place p → ¬ IsDone g p → (bytes : List ℕ) → length bytes < 1 → IsOpen g p bytes
  open_at lawful p place goes_on [] few = let end = lawful.alive p place in record {
    few = lawful.some;
    further = λ rest payload c agree. some rest payload c;
    behind = end.0;
    payload = end.1;
    completes = end.2;
    unknown = λ front byte back later same first. omega (arith, ap length same, length-append front (byte ∷ back));
  }
    where
      some : (rest payload : List ℕ) → g.completes p rest payload → 0 < length rest
      some [] payload c =
          absurd (goes_on (subst (λ l. g.completes p [] l) (lawful.nothing p payload place c) c))
      some (x ∷ rest) payload c = omega arith
  open_at lawful p place goes_on (x ∷ bytes) few = absurd (omega (arith, few))

  pub IsOpenBelow-one : IsLawful g → (p : P) → g.is_place p → ¬ IsDone g p → (bytes : List ℕ) → length bytes < 1
      → IsOpenBelow g p 1 bytes
  IsOpenBelow-one lawful p place goes_on bytes few = record {
    few = few;
    most = lawful.some;
    is_open = λ more short. open_at lawful p place goes_on (bytes ++ more) short;
  }

  -- behind bytes that settle nothing the body goes on
  pub IsOpen-goes_on : (p : P) (bytes : List ℕ) → IsOpen g p bytes → ¬ IsDone g p
  IsOpen-goes_on p bytes is done = omega (arith, is.further [] [] done (Agree-nothing bytes))

  -- no byte isn't wrong
  pub none_wrong : IsLawful g → (p : P) (why : W) → g.is_place p → ¬ g.wrong p [] why
  none_wrong lawful p why place wrong = grind (arith, append-nil)

  -- behind a body a look says so
  pub looks_done : (p : P) (shown : List ℕ) (l : Look P W) → IsDone g p → Looks g p shown l → l ≡ Ended
  looks_done p shown (Payload n) done looks = absurd (looks.0.goes_on done)
  looks_done p shown (Passed n q) done looks = absurd (looks.4 done)
  looks_done p shown (More n) done looks = absurd (IsOpen-goes_on p shown (IsOpenBelow-open p n shown looks.0) done)
  looks_done p shown (Wrong why) done looks = absurd (looks.1 done)
  looks_done p shown Ended done looks = refl
