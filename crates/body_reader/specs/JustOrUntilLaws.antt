-- Laws of bodies that are just some bytes, or else end at a delimiter.
use Rattle.std.proofs.Common.{◌≡◌, ℕ, ◌+◌, ◌<◌, ◌≤◌, List, [], ◌++◌, length, inl, inr, sym, ap, refl, subst, ◌∙◌, arith, append_assoc, append-nil, length-append, rules}
use Rattle.std.proofs.lemmas.List.{nil_from_length, take-append-drop, take_at}
use Rattle.body_reader.specs.declared.coding.Look.{Look}
use Rattle.body_reader.specs.declared.coding.Look.TheVariants as look
use Rattle.body_reader.specs.declared.until.Part.{Part}
use Rattle.body_reader.specs.declared.until.Part.TheVariants.{Inside}
use Rattle.body_reader.specs.AlikeLaws.{Alike, alike_leads, alike_looks}
use Rattle.body_reader.specs.Coding.{Agree, Carries, IsDone, IsLawful, IsOpen, IsOpenBelow, Leads, Looks, PassesOver, look_as}
use Rattle.body_reader.specs.CodingLaws.{begins_other, overlaps}
use Rattle.body_reader.specs.Until.{EndsPart, IsClear, until}
use Rattle.body_reader.specs.UntilLaws.{clear_leads, clear_still, clear_unsure, part_alive, until_lawful}
use Rattle.body_reader.specs.declared.just_or_until.JustOr.{JustOr}
use Rattle.body_reader.specs.declared.just_or_until.JustOr.TheVariants as at
use Rattle.body_reader.specs.JustOrUntil.{EndsJust, IsSurePayload, just_or_until}

module _ (just needle : List ℕ) (room : ℕ) (some : 0 < length just) (shorter : length just < length needle)
    (fits : length needle ≤ room) where
  abbrev pub Like : JustOr → Part → List ℕ → Type 0
  Like = Alike (until needle) (just_or_until just needle room) at.Until (λ why. why)

  pub alike_until : (part : Part) (shown : List ℕ) → Like (at.Until part) part shown
  alike_until part shown = grind arith

  -- what goes on as bytes that neither begin the others nor begin with them
  differs : (shown rest more : List ℕ) → ¬ Agree just shown → Agree shown rest → ¬ (rest ≡ just ++ more)
  differs shown rest more apart agree same = grind (arith, apart, append_assoc)

  pub alike_start : (shown : List ℕ) → ¬ Agree just shown → Like at.Start Inside shown
  alike_start shown apart = record {
    there = λ rest payload agree c. inr ((λ more same. differs shown rest more apart agree same), c);
    back = λ rest payload agree c. elim c [
      | inl here ↦ absurd (differs shown rest [] apart agree (here.0 ∙ sym (append-nil just)))
      | inr there ↦ there.1
    ];
    carried = λ bytes follow more same clear. (
      λ agree. apart (agree.0, more ++ agree.1, agree.2 ∙ ap (λ l. l ++ agree.1) same ∙ append_assoc shown more agree.1),
      clear,
    );
    clear = λ bytes follow text. text.1;
    between = refl;
    sure = refl;
    named = λ bytes why wrong. wrong;
    wrong = λ bytes why wrong. (why, wrong);
  }

  like_leads : (place : JustOr) (part q : Part) (wire handed follow : List ℕ) → Like place part (wire ++ follow)
      → Leads (until needle) part wire handed q follow
      → Leads (just_or_until just needle room) place wire handed (at.Until q) follow
  like_leads = alike_leads (until needle) (just_or_until just needle room) at.Until (λ why. why) fits (λ q is. tt) alike_until
      (λ follow. refl)

  pub like_looks : (place : JustOr) (part : Part) (shown : List ℕ) → Like place part shown → (l : Look Part (Unit {0}))
      → Looks (until needle) part shown l
      → Looks (just_or_until just needle room) place shown (look_as at.Until (λ why. why) l)
  like_looks place part shown like = alike_looks (until needle) (just_or_until just needle room) at.Until (λ why. why) fits
      (λ q is. tt) alike_until (λ follow. refl) place part shown like
      (λ n. subst (Like place part) (sym (take-append-drop n shown)) like)

  -- what begins with just the bytes is these
  just_passes : (follow : List ℕ) → PassesOver (just_or_until just needle room) at.Start just at.Just follow
  just_passes follow = grind (arith, append-nil, nil_from_length, length-append)

  start_goes_on : ¬ IsDone (just_or_until just needle room) at.Start
  start_goes_on done = grind arith

  pub looks_just : (shown more : List ℕ) → shown ≡ just ++ more
      → Looks (just_or_until just needle room) at.Start shown (look.Passed (length just) at.Just)
  looks_just shown more same = grind (arith, just_passes, start_goes_on, take_at, length-append)

  -- the beginning of just the bytes settles nothing
  begun_open : (shown rest : List ℕ) → just ≡ shown ++ rest → length shown < length just
      → IsOpen (just_or_until just needle room) at.Start shown
  begun_open shown rest is few = grind (arith, length-append)

  pub looks_begun : (shown rest : List ℕ) → just ≡ shown ++ rest → length shown < length just
      → IsOpenBelow (just_or_until just needle room) at.Start (length shown + 1) shown
  looks_begun shown rest is few = grind (arith, begun_open, nil_from_length, length-append, append-nil)

  -- bytes of which none begin the others differ
  pub apart : (shown : List ℕ) → ((more : List ℕ) → ¬ (shown ≡ just ++ more)) → ((more : List ℕ) → ¬ (just ≡ shown ++ more))
      → ¬ Agree just shown
  apart shown not_begins not_begun agree = grind (arith, overlaps)

  -- payload leads on, and what stands behind it is payload still
  pub text_leads : (place : JustOr) (bytes follow : List ℕ) → IsSurePayload just needle place bytes follow
      → Leads (just_or_until just needle room) place bytes bytes (at.Until Inside) follow
  text_leads at.Start bytes follow text = like_leads at.Start Inside Inside bytes bytes follow
      (alike_start (bytes ++ follow) text.0) (clear_leads needle (omega (arith, shorter)) Inside bytes follow text.1)
  text_leads (at.Until part) bytes follow text = like_leads (at.Until part) part Inside bytes bytes follow
      (alike_until part (bytes ++ follow)) (clear_leads needle (omega (arith, shorter)) part bytes follow text)
  text_leads at.Just bytes follow text = absurd text

  pub text_still : (place : JustOr) (bytes more follow : List ℕ) → IsSurePayload just needle place (bytes ++ more) follow
      → IsClear needle Inside more follow × (0 < length more → ¬ IsDone (just_or_until just needle room) (at.Until Inside))
  text_still at.Start bytes more follow text = clear_still needle (omega (arith, shorter)) Inside bytes more follow text.1
  text_still (at.Until part) bytes more follow text = clear_still needle (omega (arith, shorter)) part bytes more follow text
  text_still at.Just bytes more follow text = absurd text

  longer : (body payload : List ℕ) → EndsPart needle Inside body payload → length just < length body
  longer body payload c = omega (arith, shorter, ap length c.0, length-append payload needle)

  -- what begins with just the bytes is no longer body
  not_longer : (a b y xs ys : List ℕ) → a ≡ just → ((more : List ℕ) → ¬ (b ≡ just ++ more)) → length just < length b
      → ¬ (a ++ xs ≡ b ++ ys)
  not_longer a b y xs ys is not long' same = grind (arith, begins_other)

  only_one : (a b x y xs ys : List ℕ) → EndsJust just needle at.Start a x → EndsJust just needle at.Start b y
      → a ++ xs ≡ b ++ ys → (a ≡ b) × (x ≡ y)
  only_one a b x y xs ys (inl p) (inl q) same = (p.0 ∙ sym q.0, p.1 ∙ sym q.1)
  only_one a b x y xs ys (inl p) (inr q) same = absurd (not_longer a b y xs ys p.0 q.0 (longer b y q.1) same)
  only_one a b x y xs ys (inr p) (inl q) same = absurd (not_longer b a x ys xs q.0 p.0 (longer a x p.1) (sym same))
  only_one a b x y xs ys (inr p) (inr q) same =
      (until_lawful needle (omega (arith, shorter))).one a b x y xs ys p.1 q.1 same

  just_nothing : (place : JustOr) (payload : List ℕ) → EndsJust just needle place [] payload → payload ≡ []
  just_nothing at.Start payload (inl c) = c.1
  just_nothing at.Start payload (inr c) = absurd (omega (arith, longer [] payload c.1))
  just_nothing (at.Until part) payload c = (until_lawful needle (omega (arith, shorter))).nothing part payload tt c
  just_nothing at.Just payload c = c.1

  just_alive : (place : JustOr) → (rest payload : List ℕ) × EndsJust just needle place rest payload
  just_alive at.Start = (just, [], inl (refl, refl))
  just_alive (at.Until part) = part_alive needle (omega (arith, shorter)) part
  just_alive at.Just = ([], [], (refl, refl))

  just_unsure : (place : JustOr) (n : ℕ) → ¬ Carries (just_or_until just needle room) place n []
  just_unsure at.Start n c = clear_unsure needle (omega (arith, shorter)) Inside n c.some
      (λ bytes follow more few same. (c.carries bytes follow more few same).1)
  just_unsure (at.Until part) n c = clear_unsure needle (omega (arith, shorter)) part n c.some c.carries
  just_unsure at.Just n c = c.carries [] [] [] (omega arith) refl

  pub just_or_until_lawful : IsLawful (just_or_until just needle room)
  just_or_until_lawful = search (rules, just_alive, just_nothing, just_unsure, only_one, arith)
