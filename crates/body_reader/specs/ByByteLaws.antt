-- Laws of bodies in which a byte and its place say what it is.
use Rattle.std.proofs.Common.{◌≡◌, ◌≢◌, ℕ, zero, suc, ◌<◌, ◌≤◌, ◌==◌, List, [], ◌∷◌, ◌++◌, length, take, drop, Bool, true, false, if◌then◌else◌, Option, Some, None, inl, inr, refl, sym, ap, subst, ◌∙◌, arith, append_assoc, append-nil, length-append, length-take-le, slice_index, take-append-drop}
use Rattle.std.proofs.lemmas.Bool.{eqb-true}
use Rattle.std.proofs.lemmas.List.{nil_from_length}
use Rattle.body_reader.specs.declared.coding.Look.TheVariants as look
use Rattle.body_reader.specs.declared.by_byte.Turn.{Turn}
use Rattle.body_reader.specs.declared.by_byte.Turn.TheVariants.{Payload, Passed, Wrong}
use Rattle.body_reader.specs.Coding.{Agree, IsDone, IsLawful, Leads, Looks}
use Rattle.body_reader.specs.CodingLaws.{IsOpenBelow-one, Leads-joins, Leads-none, begins_other}
use Rattle.body_reader.specs.ByByte.{AreLawful, CompletesByTurns, IsWrongTurn, LeadsByPayload, NoPayloadNext, Ran, TurnRules, by_byte}

module _ {P W : Type 0} (t : TurnRules P W) where
  not_done : (p : P) → t.is_end p ≡ false → ¬ IsDone (by_byte t) p
  not_done p open' done = let odd : false ≡ true = sym open' ∙ done.0 in cc

  -- where a body goes on, no byte goes past its end
  one_within : (p : P) (byte : ℕ) (rest payload past : List ℕ) → t.is_end p ≡ false → CompletesByTurns t p rest payload
      → byte ∷ [] ≡ rest ++ past → past ≡ []
  one_within p byte [] payload past open' c same = absurd (not_done p open' (c.0, refl))
  one_within p byte (x ∷ rest) payload past open' c same =
      let tail : rest ++ past ≡ [] = cc in nil_from_length past (omega (arith, ap length tail, length-append rest past))

  kept_back : (p q : P) (byte : ℕ) (rest whole : List ℕ) → t.turn p byte ≡ Payload q → CompletesByTurns t p (byte ∷ rest) whole
      → (payload : List ℕ) × (whole ≡ byte ∷ payload) × CompletesByTurns t q rest payload
  kept_back p q byte rest whole is c = grind arith

  passed_back : (p q : P) (byte : ℕ) (rest whole : List ℕ) → t.turn p byte ≡ Passed q → CompletesByTurns t p (byte ∷ rest) whole
      → CompletesByTurns t q rest whole
  passed_back p q byte rest whole is c = grind arith

  -- a byte of payload leads on
  kept_leads : (p q : P) (byte : ℕ) (follow : List ℕ) → t.is_end p ≡ false → t.turn p byte ≡ Payload q
      → Leads (by_byte t) p (byte ∷ []) (byte ∷ []) q follow
  kept_leads p q byte follow open' is = grind (arith, kept_back, one_within)

  -- and so does one that is none
  passed_leads : (p q : P) (byte : ℕ) (follow : List ℕ) → t.is_end p ≡ false → t.turn p byte ≡ Passed q
      → Leads (by_byte t) p (byte ∷ []) [] q follow
  passed_leads p q byte follow open' is = grind (arith, passed_back, one_within)

  -- payload leads on
  pub keeps_leads : (p : P) (bytes : List ℕ) (q : P) (follow : List ℕ) → LeadsByPayload t p bytes q
      → Leads (by_byte t) p bytes bytes q follow
  keeps_leads p [] q follow k = subst (λ r. Leads (by_byte t) p [] [] r follow) k (Leads-none (by_byte t) p follow)
  keeps_leads p (byte ∷ bytes) q follow k =
      Leads-joins (by_byte t) p k.1 q (byte ∷ []) bytes (byte ∷ []) bytes follow
      (kept_leads p k.1 byte (bytes ++ follow) k.0 k.2) (keeps_leads k.1 bytes q follow k.3)

  pub keeps_split : (p : P) (a b : List ℕ) (q : P) → LeadsByPayload t p (a ++ b) q
      → (m : P) × LeadsByPayload t p a m × LeadsByPayload t m b q
  keeps_split p [] b q k = (p, refl, k)
  keeps_split p (x ∷ a) b q k = let rest = keeps_split k.1 a b q k.3 in (rest.0, (k.0, k.1, k.2, rest.1), rest.2)

  -- where one byte more is payload
  pub keeps_more : (p : P) (a : List ℕ) (m : P) (byte : ℕ) (q : P) → LeadsByPayload t p a m → t.is_end m ≡ false
      → t.turn m byte ≡ Payload q → LeadsByPayload t p (a ++ byte ∷ []) q
  keeps_more p [] m byte q k open' is = subst (λ r. LeadsByPayload t r (byte ∷ []) q) (sym k) (open', q, is, refl)
  keeps_more p (x ∷ a) m byte q k open' is = (k.0, k.1, k.2, keeps_more k.1 a m byte q k.3 open' is)

  keeps_one : (p : P) (a : List ℕ) (q r : P) → LeadsByPayload t p a q → LeadsByPayload t p a r → q ≡ r
  keeps_one p [] q r k l = sym k ∙ l
  keeps_one p (x ∷ a) q r k l =
      let same : k.1 ≡ l.1 = (let both : Payload k.1 ≡ Payload l.1 = sym k.2 ∙ l.2 in cc) in
      keeps_one l.1 a q r (subst (λ m. LeadsByPayload t m a q) same k.3) l.3

  stops_none : (p : P) (bytes : List ℕ) (q : P) → NoPayloadNext t p bytes → LeadsByPayload t p bytes q → p ≡ q
  stops_none p bytes q s k = grind arith

  -- where all of the bytes are payload, a run of payload goes as far
  pub ran_all : (p : P) (bytes : List ℕ) (q : P) (n : ℕ) (r : P) → Ran t p bytes n r → LeadsByPayload t p bytes q → r ≡ q
  ran_all p bytes q n r ran k =
      let parts = keeps_split p (take n bytes) (drop n bytes) q
      (subst (λ l. LeadsByPayload t p l q) (sym (take-append-drop n bytes)) k) in
      let here = keeps_one p (take n bytes) parts.0 r parts.1 ran.keeps in
      stops_none r (drop n bytes) q ran.stops (subst (λ m. LeadsByPayload t m (drop n bytes) q) here parts.2)

  -- and where what follows is payload too, that is from there
  pub ran_still : (p : P) (bytes more : List ℕ) (q : P) (n : ℕ) (r : P) → Ran t p bytes n r → LeadsByPayload t p (bytes ++ more) q
      → ((q : P) × LeadsByPayload t r more q) × (0 < length more → ¬ IsDone (by_byte t) r)
  ran_still p bytes more q n r ran k =
      let parts = keeps_split p bytes more q k in
      let same = ran_all p bytes parts.0 n r ran parts.1 in
      let later : LeadsByPayload t r more q = subst (λ m. LeadsByPayload t m more q) (sym same) parts.2 in
      ((q, later), goes_on more later)
    where
      goes_on : (more : List ℕ) → LeadsByPayload t r more q → 0 < length more → ¬ IsDone (by_byte t) r
      goes_on [] k some = absurd (omega (arith, some))
      goes_on (x ∷ more) k some = not_done r k.0

  pub ran_leads : (p : P) (bytes : List ℕ) (q : P) (n : ℕ) (r : P) (follow : List ℕ) → Ran t p bytes n r
      → LeadsByPayload t p bytes q
      → Leads (by_byte t) p bytes bytes r follow
  ran_leads p bytes q n r follow ran k = grind (arith, ran_all, keeps_leads)

  -- what a look answers
  ran_some : (p : P) (shown : List ℕ) (n : ℕ) (r q : P) → (length shown == 0) ≡ false → t.is_end p ≡ false
      → t.turn p (slice_index shown 0) ≡ Payload q → Ran t p shown n r → 0 < n
  ran_some p shown n r q more open' is ran = grind arith

  -- no more of the bytes are payload
  ran_most : (bytes : List ℕ) (p r : P) (n m : ℕ) → LeadsByPayload t p (take n bytes) r → NoPayloadNext t r (drop n bytes)
      → m ≤ length bytes → (q : P) → LeadsByPayload t p (take m bytes) q → m ≤ n
  ran_most bytes p r n zero k s within q l = omega arith
  ran_most [] p r n (suc m) k s within q l = absurd (omega (arith, within))
  ran_most (x ∷ bytes) p r zero (suc m) k (inl done) within q l =
      let odd : false ≡ true = sym l.0 ∙ ap (λ j. t.is_end j) k ∙ done in cc
  ran_most (x ∷ bytes) p r zero (suc m) k (inr none) within q l =
      absurd (none l.1 (subst (λ j. t.turn j x ≡ Payload l.1) k l.2))
  ran_most (x ∷ bytes) p r (suc n) (suc m) k s within q l =
      let same : k.1 ≡ l.1 = (let both : Payload k.1 ≡ Payload l.1 = sym k.2 ∙ l.2 in cc) in
      omega (
        arith,
        ran_most bytes l.1 r n m (subst (λ j. LeadsByPayload t j (take n bytes) r) same k.3) s (omega (arith, within)) q l.3,
      )

  -- nothing is wrong where the next byte isn't
  right_turn : (p : P) (shown : List ℕ) → (length shown == 0) ≡ false → ((why : W) → t.turn p (slice_index shown 0) ≢ Wrong why)
      → (why : W) → ¬ IsWrongTurn t p shown why
  right_turn p shown more right why wrong = grind arith

  pub looks_payload : (p : P) (shown : List ℕ) (n : ℕ) (r q : P) → (length shown == 0) ≡ false → t.is_end p ≡ false
      → t.turn p (slice_index shown 0) ≡ Payload q → Ran t p shown n r → Looks (by_byte t) p shown (look.Payload n)
  looks_payload p shown n r q more open' is ran = (
    record {
      some = ran_some p shown n r q more open' is ran;
      goes_on = not_done p open';
      carries = λ bytes follow later few same.
          let front = begins_other bytes follow (take n shown) (drop n shown ++ later)
          (omega (arith, few, length-take-le n shown ran.within))
          (same ∙ ap (λ l. l ++ later) (sym (take-append-drop n shown)) ∙ append_assoc (take n shown) (drop n shown) later) in
          let parts = keeps_split p bytes front.0 r (subst (λ l. LeadsByPayload t p l r) front.1 ran.keeps) in
          (parts.0, parts.1);
    },
    omega arith,
    inr (λ m within c.
        let all = c.carries (take m shown) (drop m shown) [] (omega (arith, length-take-le m shown within))
        (take-append-drop m shown ∙ sym (append-nil shown)) in
        ran_most shown p r n m ran.keeps ran.stops within all.0 all.1),
    right_turn p shown more (λ why odd. (let both : Payload q ≡ Wrong why = sym is ∙ odd in cc)),
  )

  -- what can't stand there completes no body
  never : (p : P) (shown : List ℕ) (why : W) (rest payload : List ℕ) → IsWrongTurn t p shown why
      → CompletesByTurns t p rest payload
      → ¬ Agree shown rest
  never p [] why rest payload wrong c agree = wrong
  never p (x ∷ shown) why [] payload wrong c agree = let odd : false ≡ true = sym wrong.0 ∙ c.0 in cc
  never p (x ∷ shown) why (y ∷ rest) payload wrong (_, inl c) agree =
      let head : x ≡ y = (let same = agree.2 in cc) in
      let odd : Wrong why ≡ Payload c.0 = sym wrong.1 ∙ ap (λ b. t.turn p b) head ∙ c.2 in cc
  never p (x ∷ shown) why (y ∷ rest) payload wrong (_, inr c) agree =
      let head : x ≡ y = (let same = agree.2 in cc) in
      let odd : Wrong why ≡ Passed c.0 = sym wrong.1 ∙ ap (λ b. t.turn p b) head ∙ c.1 in cc

  -- no bytes begin with two bodies
  only_one : (p : P) (a b x y xs ys : List ℕ) → CompletesByTurns t p a x → CompletesByTurns t p b y → a ++ xs ≡ b ++ ys
      → (a ≡ b) × (x ≡ y)
  only_one p [] [] x y xs ys c d same = (refl, c.1 ∙ sym d.1)
  only_one p [] (k ∷ b) x y xs ys c d same = let odd : false ≡ true = sym d.0 ∙ c.0 in cc
  only_one p (h ∷ a) [] x y xs ys c d same = let odd : false ≡ true = sym c.0 ∙ d.0 in cc
  only_one p (h ∷ a) (k ∷ b) x y xs ys (open', inl c) d same =
      let head : h ≡ k = cc in
      let tail : a ++ xs ≡ b ++ ys = cc in
      let other = kept_back p c.0 h b y c.2 (subst (λ z. CompletesByTurns t p (z ∷ b) y) (sym head) d) in
      let found = only_one c.0 a b c.1 other.0 xs ys c.4 other.2 tail in (
        ap (λ l. h ∷ l) found.0 ∙ ap (λ z. z ∷ b) head,
        c.3 ∙ ap (λ l. h ∷ l) found.1 ∙ sym other.1,
      )
  only_one p (h ∷ a) (k ∷ b) x y xs ys (open', inr c) d same =
      let head : h ≡ k = cc in
      let tail : a ++ xs ≡ b ++ ys = cc in
      let other = passed_back p c.0 h b y c.1 (subst (λ z. CompletesByTurns t p (z ∷ b) y) (sym head) d) in
      let found = only_one c.0 a b x y xs ys c.2 other tail in
      (ap (λ l. h ∷ l) found.0 ∙ ap (λ z. z ∷ b) head, found.1)

  pub by_byte_lawful : AreLawful t → IsLawful (by_byte t)
  by_byte_lawful lawful = record {
    some = omega arith;
    begins = tt;
    alive = λ p is. lawful.alive p;
    nothing = λ p payload is c. c.1;
    never = λ p shown why rest payload is. never p shown why rest payload;
    reason = λ p shown why other is wrong so. grind arith;
    stays = λ p shown more why is wrong. grind arith;
    sure = λ p n is sure.
        let other = lawful.other p in
        let kept = sure.carries (other.0 ∷ []) [] (other.0 ∷ []) (omega (arith, sure.some)) refl in
        absurd (other.1 kept.1.1 kept.1.2);
    one = only_one t.first;
  }

  -- what a look answers where the next byte is no payload, or none is shown
  pub looks_passed : AreLawful t → (p q : P) (shown : List ℕ) → (length shown == 0) ≡ false → t.is_end p ≡ false
      → t.turn p (slice_index shown 0) ≡ Passed q → Looks (by_byte t) p shown (look.Passed 1 q)
  looks_passed lawful p q shown more open' is = grind (arith, passed_leads, right_turn)

  pub looks_none : AreLawful t → (p : P) (shown : List ℕ) → (length shown == 0) ≡ true → t.is_end p ≡ false
      → Looks (by_byte t) p shown (look.More 1)
  looks_none lawful p [] none open' =
      (IsOpenBelow-one (by_byte t) (by_byte_lawful lawful) p tt (not_done p open') [] (omega arith), refl)
  looks_none lawful p (byte ∷ shown) none open' = absurd (omega (arith, eqb-true (length (byte ∷ shown)) 0 none))

  -- whether these bytes lead from a place to the end
  abbrev pub place_behind : Turn P W → Option P
  place_behind (Payload q) = Some q
  place_behind (Passed q) = Some q
  place_behind (Wrong why) = None

  abbrev pub ends_from : Option P → List ℕ → Bool
  ends_from None bytes = false
  ends_from (Some p) [] = t.is_end p
  ends_from (Some p) (byte ∷ bytes) = if t.is_end p then false else ends_from (place_behind (t.turn p byte)) bytes

  abbrev LeadsToEnd : P → List ℕ → Type 0
  LeadsToEnd p bytes = (payload : List ℕ) × CompletesByTurns t p bytes payload

  ends_on : (p : P) (byte : ℕ) (bytes : List ℕ) → ((q : P) → ends_from (Some q) bytes ≡ true → LeadsToEnd q bytes)
      → (end : Bool) → t.is_end p ≡ end → (turn : Turn P W) → t.turn p byte ≡ turn
      → (if end then false else ends_from (place_behind turn) bytes) ≡ true → LeadsToEnd p (byte ∷ bytes)
  ends_on p byte bytes onward true at turn here is = let odd : false ≡ true = is in cc
  ends_on p byte bytes onward false at (Payload q) here is =
      let later = onward q is in (byte ∷ later.0, (at, inl (q, later.0, here, refl, later.1)))
  ends_on p byte bytes onward false at (Passed q) here is = let later = onward q is in (later.0, (at, inr (q, here, later.1)))
  ends_on p byte bytes onward false at (Wrong why) here is = let odd : false ≡ true = is in cc

  ends : (p : P) (bytes : List ℕ) → ends_from (Some p) bytes ≡ true → LeadsToEnd p bytes
  ends p [] is = ([], (is, refl))
  ends p (byte ∷ bytes) is = ends_on p byte bytes (λ q. ends q bytes) (t.is_end p) refl (t.turn p byte) refl is

  -- so it can be completed from there
  pub reaches : (p : P) (bytes : List ℕ) → ends_from (Some p) bytes ≡ true
      → (rest payload : List ℕ) × CompletesByTurns t p rest payload
  reaches p bytes is = let found = ends p bytes is in (bytes, found.0, found.1)
