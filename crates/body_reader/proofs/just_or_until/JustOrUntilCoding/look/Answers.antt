-- Bytes that neither begin with `just` nor begin it are looked at as those of a body that ends at the delimiter.
use Rattle.std.proofs.Common.{◌≡◌, ◌<◌, ℕ, List, [], ◌∷◌, ◌++◌, false, true, length, drop, refl, sym, ap, ◌∙◌, arith, length-append, append-nil}
use Rattle.std.proofs.lemmas.Bool.Decides.{Decides-eqb}
use Rattle.std.proofs.lemmas.Slice.Eq.{starts_is}
use Rattle.body_reader.specs.declared.just_or_until.JustOr.TheVariants as at
use Rattle.body_reader.specs.declared.until.Part.TheVariants.{Inside}
use Rattle.body_reader.specs.JustOrUntilLaws.{like_looks, alike_start, alike_until, apart, looks_begun, looks_just}
use Rattle.body_reader.proofs.just_or_until.JustOrUntilCoding.look.Goals as goal

-- what begins a text and isn't it is shorter
more_in : (shown just rest : List ℕ) → just ≡ shown ++ rest → ¬ (just ≡ shown) → (same : List ℕ) → just ≡ same
    → length shown < length same
more_in shown just [] is not same equal = absurd (not (is ∙ append-nil shown))
more_in shown just (x ∷ rest) is not same equal = omega (arith, ap length is, length-append shown (x ∷ rest), ap length equal)

pub returns-then-starts_with : goal.returns-then-starts_with
returns-then-starts_with c =
    let s = c.args.self.now in
    let shown = c.args.shown.now in
    let begins = (starts_is Decides-eqb shown c.as_slice-just.result.now _ c.starts_with.ensures.value).0 c.if-starts_with.true in
    rw (c.in-Start.is, c.as_slice-just.ensures.value)
    (looks_just s.just.items s.until.delimiter s.room s.some s.shorter s.fits shown _ (rw c.as_slice-just.ensures.value at
    begins))

pub returns-then-starts_with-2 : goal.returns-then-starts_with-2
returns-then-starts_with-2 c =
    let s = c.args.self.now in
    let shown = c.args.shown.now in
    let just = c.as_slice-just.result.now in
    let same : just ≡ s.just.items = c.as_slice-just.ensures.value in
    let begins : just ≡ shown ++ drop (length shown) just =
    (starts_is Decides-eqb _ _ _ c.starts_with-in-Start.ensures.value).0 c.if-starts_with-2.true in
    let longer = (starts_is Decides-eqb _ _ _ c.starts_with.ensures.value).1 in
    rw c.in-Start.is (
      looks_begun _ s.until.delimiter s.room s.some s.shorter s.fits shown (drop (length shown) just) (sym same ∙ begins)
          (more_in shown just (drop (length shown) just) begins (λ equal.
          let yes = longer [] (sym (append-nil shown) ∙ ap (λ l. l ++ []) (sym equal)) in
          let odd : false ≡ true = sym c.if-starts_with.false ∙ yes in cc)
          s.just.items same),
      refl,
    )

pub returns-else-starts_with-2 : goal.returns-else-starts_with-2
returns-else-starts_with-2 c =
    let s = c.args.self.now in
    let shown = c.args.shown.now in
    let just = c.as_slice-just.result.now in
    let same : just ≡ s.just.items = c.as_slice-just.ensures.value in
    let first = (starts_is Decides-eqb _ _ _ c.starts_with.ensures.value).1 in
    let second = (starts_is Decides-eqb _ _ _ c.starts_with-in-Start.ensures.value).1 in
    let differs = apart s.just.items s.until.delimiter s.room s.some s.shorter s.fits shown
    (λ more is. (let yes = first more (is ∙ ap (λ l. l ++ more) (sym same)) in
    let odd : false ≡ true = sym c.if-starts_with.false ∙ yes in cc))
    (λ more is. (let yes = second more (same ∙ is) in
    let odd : false ≡ true = sym c.if-starts_with-2.false ∙ yes in cc)) in
    rw (c.in-Start.is, c.until_of.ensures)
    (like_looks _ _ _ s.some s.shorter s.fits at.Start Inside shown (alike_start _ _ _ s.some s.shorter s.fits shown differs)
    _ c.look.ensures)

pub returns-in-Until : goal.returns-in-Until
returns-in-Until c =
    let s = c.args.self.now in
    let part = c.in-Until.part in
    rw (c.in-Until.is, c.until_of-in-Until.ensures)
    (like_looks _ _ _ s.some s.shorter s.fits (at.Until part) part _ (alike_until _ _ _ s.some s.shorter s.fits part _) _
    c.look-in-Until.ensures)
