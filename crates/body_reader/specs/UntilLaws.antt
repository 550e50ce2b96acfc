-- Laws of bodies that end at a delimiter.
use Rattle.std.proofs.Common.{◌≡◌, ℕ, ◌+◌, ◌-◌, ◌<◌, ◌≤◌, List, [], ◌∷◌, ◌++◌, length, take, drop, inl, inr, sym, ap, refl, subst, ◌∙◌, arith, append_assoc, append-nil, length-append}
use Rattle.std.proofs.Math.Seq.{take-append-add}
use Rattle.std.proofs.lemmas.Bool.{cases_lt}
use Rattle.std.proofs.lemmas.List.{append_cancel_left, length-take-le, nil_from_length, take-append-drop, take-append-le}
use Rattle.memchr.specs.Find.{Nowhere, OccursAt}
use Rattle.buffer_redux.specs.OccursLaws.{OccursAt-behind, OccursAt-fewer, OccursAt-front, OccursAt-last, OccursAt-later, OccursAt-more, OccursAt-one, OccursAt-self, OccursAt-take}
use Rattle.body_reader.specs.declared.coding.Look.TheVariants as look
use Rattle.body_reader.specs.declared.until.Part.{Part}
use Rattle.body_reader.specs.declared.until.Part.TheVariants.{Inside, Behind}
use Rattle.body_reader.specs.Coding.{Agree, Carries, IsAllPayload, IsDone, IsLawful, IsOpen, IsOpenBelow, Leads, Looks, PassesOver}
use Rattle.body_reader.specs.CodingLaws.{Agree-nothing, begins_other}
use Rattle.body_reader.specs.Until.{EndsPart, IsClear, MayBegin, until}

module _ (needle : List ℕ) (some : 0 < length needle) where
  not_there : (bytes follow rest : List ℕ) → IsClear needle Inside bytes follow → Agree follow rest → (k : ℕ)
      → k < length bytes → ¬ OccursAt (bytes ++ rest) needle k
  not_there bytes follow rest clear agree k within occurs = clear rest agree k (omega arith) within occurs

  clear_onward : (bytes follow rest payload : List ℕ) → IsClear needle Inside bytes follow → Agree follow rest
      → EndsPart needle Inside rest payload → EndsPart needle Inside (bytes ++ rest) (bytes ++ payload)
  clear_onward bytes follow rest payload clear agree c = (
    ap (λ l. bytes ++ l) c.0 ∙ sym (append_assoc bytes payload needle),
    λ k low high occurs. elim (cases_lt k (length bytes)) [
      | inl front ↦ not_there bytes follow rest clear agree k front occurs
      | inr behind ↦ c.1 (k - length bytes) (omega arith) (omega (arith, high, behind, length-append bytes payload))
          (OccursAt-behind bytes rest needle k behind occurs)
    ],
  )

  later_none : (bytes rest whole payload : List ℕ) → Nowhere (OccursAt (bytes ++ rest) needle) 0 (length whole)
      → whole ≡ bytes ++ payload → Nowhere (OccursAt rest needle) 0 (length payload)
  later_none bytes rest whole payload none is k low high occurs =
      none (length bytes + k) (omega arith) (omega (arith, high, ap length is, length-append bytes payload))
      (OccursAt-later bytes rest needle k occurs)

  clear_back : (bytes follow rest whole : List ℕ) → IsClear needle Inside bytes follow → Agree follow rest
      → EndsPart needle Inside (bytes ++ rest) whole
      → (payload : List ℕ) × (whole ≡ bytes ++ payload) × EndsPart needle Inside rest payload
  clear_back bytes follow rest whole clear agree c =
      let occurs : OccursAt (bytes ++ rest) needle (length whole) =
      subst (λ l. OccursAt l needle (length whole)) (sym c.0) (OccursAt-last whole needle) in
      let long : length bytes ≤ length whole = elim (cases_lt (length whole) (length bytes)) [
        | inl short ↦ absurd (not_there bytes follow rest clear agree (length whole) short occurs)
        | inr enough ↦ omega (arith, enough)
      ] in
      let found = begins_other bytes rest whole needle long c.0 in
      (found.0, found.1, (found.2, later_none bytes rest whole found.0 c.1 found.1))

  -- payload leads on
  pub clear_leads : (place : Part) (bytes follow : List ℕ) → IsClear needle place bytes follow
      → Leads (until needle) place bytes bytes Inside follow
  clear_leads Inside bytes follow clear = record {
    onward = λ rest payload agree c. clear_onward bytes follow rest payload clear agree c;
    back = λ rest whole agree c. clear_back bytes follow rest whole clear agree c;
    within = λ rest payload past c same.
        let last : OccursAt rest needle (length payload) =
        subst (λ l. OccursAt l needle (length payload)) (sym c.0) (OccursAt-last payload needle) in
        let here : OccursAt bytes needle (length payload) =
        subst (λ l. OccursAt l needle (length payload)) (sym same) (OccursAt-more rest past needle (length payload) last) in
        absurd (clear [] (Agree-nothing follow) (length payload) (omega arith)
        (omega (arith, some, here.fits))
        (OccursAt-more bytes [] needle (length payload) here));
  }
  clear_leads Behind bytes follow clear = absurd clear

  inside_open : ¬ (EndsPart needle Inside [] [])
  inside_open c = grind arith

  -- and what stands behind it is payload still
  pub clear_still : (place : Part) (bytes more follow : List ℕ) → IsClear needle place (bytes ++ more) follow
      → IsClear needle Inside more follow × (0 < length more → ¬ IsDone (until needle) Inside)
  clear_still Inside bytes more follow clear = (
    λ rest agree k low high occurs.
        clear rest agree (length bytes + k) (omega arith) (omega (arith, high, length-append bytes more))
        (subst (λ l. OccursAt l needle (length bytes + k)) (sym (append_assoc bytes more rest))
        (OccursAt-later bytes (more ++ rest) needle k occurs)),
    λ _. inside_open,
  )
  clear_still Behind bytes more follow clear = absurd clear

  end_back : (rest whole : List ℕ) → EndsPart needle Inside (needle ++ rest) whole
      → (payload : List ℕ) × (whole ≡ [] ++ payload) × EndsPart needle Behind rest payload
  end_back rest [] c = (
    [],
    refl,
    (nil_from_length rest (omega (arith, ap length c.0, length-append needle rest)), refl),
  )
  end_back rest (x ∷ whole) c =
      absurd (c.1 0 (omega arith) (omega arith) (OccursAt-more needle rest needle 0 (OccursAt-self needle)))

  end_passes : (follow : List ℕ) → PassesOver (until needle) Inside needle Behind follow
  end_passes follow = grind (arith, append-nil, nil_from_length, length-append, end_back)

  -- what a look answers
  pub looks_end : (shown : List ℕ) → OccursAt shown needle 0
      → Looks (until needle) Inside shown (look.Passed (length needle) Behind)
  looks_end shown here = grind (arith, end_passes, OccursAt-front, inside_open)

  looks_payload : (shown : List ℕ) (n : ℕ) → 0 < n
      → ((more : List ℕ) → Nowhere (OccursAt (shown ++ more) needle) 0 n) → Carries (until needle) Inside n shown
  looks_payload shown n more none = record {
    some = more;
    goes_on = inside_open;
    carries = λ bytes follow later few same rest agree k low high occurs.
        let further : OccursAt ((bytes ++ rest) ++ agree.1) needle k = OccursAt-more (bytes ++ rest) agree.1 needle k occurs in
        let equal : (bytes ++ rest) ++ agree.1 ≡ shown ++ (later ++ agree.0) =
        append_assoc bytes rest agree.1 ∙ ap (λ l. bytes ++ l) (sym agree.2) ∙ sym (append_assoc bytes follow agree.0)
        ∙ ap (λ l. l ++ agree.0) same ∙ append_assoc shown later agree.0 in
        none (later ++ agree.0) k low (omega (arith, high, few)) (subst (λ l. OccursAt l needle k) equal further);
  }

  -- up to where the delimiter stands
  pub looks_before : (shown : List ℕ) (n : ℕ) → 0 < n → Nowhere (OccursAt shown needle) 0 n → OccursAt shown needle n
      → Carries (until needle) Inside n shown
  looks_before shown n more none here = looks_payload shown n more (λ later k low high occurs.
      none k low high (OccursAt-fewer shown later needle k (omega (arith, high, here.fits)) occurs))

  -- where it stands in more than is shown, what is shown from there on is its front
  front_of : (shown more : List ℕ) (k : ℕ) → OccursAt (shown ++ more) needle k → k ≤ length shown
      → length shown < k + length needle → (rest : List ℕ) × (needle ≡ drop k shown ++ rest)
  front_of shown more k occurs within short =
      let left = (k + length needle) - length shown in
      let all : length shown + left ≡ k + length needle = omega (arith, short) in (
        take left more,
        sym (append_cancel_left (take k shown) (drop k shown ++ take left more) needle
            (sym (append_assoc (take k shown) (drop k shown) (take left more))
            ∙ ap (λ l. l ++ take left more) (take-append-drop k shown) ∙ sym (take-append-add shown more left)
            ∙ ap (λ n. take n (shown ++ more)) all ∙ OccursAt-take (shown ++ more) needle k occurs
            ∙ ap (λ l. l ++ needle) (take-append-le k shown more within))),
      )

  -- up to where it may begin
  pub looks_until : (shown : List ℕ) (at : ℕ) → 0 < at → ((k : ℕ) → ¬ OccursAt shown needle k) → MayBegin needle shown at
      → Carries (until needle) Inside at shown
  looks_until shown at more none begins = looks_payload shown at more (λ later k low high occurs.
      elim (cases_lt (length shown) (k + length needle)) [
        | inl beyond ↦
            let front = front_of shown later k occurs (omega (arith, high, begins.within)) beyond in
            begins.clear k high beyond front.0 front.1
        | inr fits ↦ none k (OccursAt-fewer shown later needle k fits occurs)
      ])

  -- no payload goes past where it stands in what is shown, or in what that may go on as
  all_before : (shown rest : List ℕ) (at : ℕ) → OccursAt (shown ++ rest) needle at
      → IsAllPayload (until needle) Inside at shown
  all_before shown rest at here = inr (λ m within c. elim (cases_lt at m) [
    | inr few ↦ few
    | inl more ↦
        let front = take m shown in
        let behind = drop m shown in
        let split : front ++ behind ≡ shown = take-append-drop m shown in
        let long : length front ≡ m = length-take-le m shown within in
        let equal : front ++ (behind ++ rest) ≡ shown ++ rest =
        sym (append_assoc front behind rest) ∙ ap (λ l. l ++ rest) split in
        absurd (c.carries front behind [] (omega (arith, long)) (split ∙ sym (append-nil shown)) (behind ++ rest)
        (rest, [], sym (append-nil (behind ++ rest))) at (omega arith) (omega (arith, more, long))
        (subst (λ l. OccursAt l needle at) (sym equal) here))
  ])

  pub all_found : (shown : List ℕ) (at : ℕ) → OccursAt shown needle at → IsAllPayload (until needle) Inside at shown
  all_found shown at here = all_before shown [] at (OccursAt-more shown [] needle at here)

  pub all_begun : (shown : List ℕ) (at : ℕ) → MayBegin needle shown at → IsAllPayload (until needle) Inside at shown
  all_begun shown at begins =
      let front = take at shown in
      let rest = begins.front.0 in
      let equal : front ++ needle ≡ shown ++ rest =
      ap (λ l. front ++ l) begins.front.1 ∙ sym (append_assoc front (drop at shown) rest)
      ∙ ap (λ l. l ++ rest) (take-append-drop at shown) in
      all_before shown rest at
      (subst (OccursAt (shown ++ rest) needle) (length-take-le at shown begins.within)
      (subst (λ l. OccursAt l needle (length front)) equal (OccursAt-last front needle)))

  -- just the delimiter ends it
  just_ends : EndsPart needle Inside needle []
  just_ends = (refl, λ k low high occurs. omega (arith, high))

  pub part_alive : (place : Part) → (rest payload : List ℕ) × EndsPart needle place rest payload
  part_alive Inside = (needle, [], just_ends)
  part_alive Behind = ([], [], (refl, refl))

  -- where it may begin at once, nothing is settled until a byte more is shown
  front_open : (shown rest : List ℕ) → needle ≡ shown ++ rest → length shown < length needle → IsOpen (until needle) Inside shown
  front_open shown rest is few = grind (arith, just_ends, length-append)

  no_more : (shown more : List ℕ) → length (shown ++ more) < length shown + 1 → shown ≡ shown ++ more
  no_more shown more few = grind (arith, nil_from_length, length-append, append-nil)

  pub looks_short : (shown : List ℕ) → length shown < length needle → MayBegin needle shown 0
      → IsOpenBelow (until needle) Inside (length shown + 1) shown
  looks_short shown few begins = grind (arith, front_open, no_more)

  until_nothing : (place : Part) (payload : List ℕ) → EndsPart needle place [] payload → payload ≡ []
  until_nothing Inside payload c = absurd (omega (arith, some, ap length c.0, length-append payload needle))
  until_nothing Behind payload c = c.1

  -- no byte is surely payload before it is shown: it may begin the delimiter
  pub clear_unsure : (place : Part) (n : ℕ) → 0 < n
      → ((bytes follow more : List ℕ) → length bytes ≤ n → bytes ++ follow ≡ more → IsClear needle place bytes follow) → ⊥
  clear_unsure Inside n more clear =
      let front = take 1 needle in
      let behind = drop 1 needle in
      let split : front ++ behind ≡ needle = take-append-drop 1 needle in
      let one : length front ≡ 1 = length-take-le 1 needle (omega (arith, some)) in
      clear front behind needle (omega (arith, one, more)) split behind ([], [], refl) 0 (omega arith) (omega (arith, one))
      (subst (λ l. OccursAt l needle 0) (sym split) (OccursAt-self needle))
  clear_unsure Behind n more clear = clear [] [] [] (omega arith) refl

  pub until_lawful : IsLawful (until needle)
  until_lawful = record {
    some = some;
    begins = tt;
    alive = λ place is. part_alive place;
    nothing = λ place payload is c. until_nothing place payload c;
    never = λ place shown why rest payload is wrong c agree. wrong;
    reason = λ place shown why other is wrong. absurd wrong;
    stays = λ place shown more why is wrong. wrong;
    sure = λ place n is c. absurd (clear_unsure place n c.some c.carries);
    one = λ a b x y xs ys p q same. OccursAt-one needle a b x y xs ys p.0 p.1 q.0 q.1 same;
  }
