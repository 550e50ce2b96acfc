-- Where there may be no further part no head but the two hyphens ends: none has a byte, and three hyphens begin with these.
use Rattle.std.proofs.Common.{◌≡◌, [], ◌∷◌, true, inl, inr, subst, sym, refl, ◌∙◌, arith}
use Rattle.std.proofs.lemmas.Bool.{le-leb}
use Rattle.std.proofs.lemmas.List.{nil_from_length}
use Rattle.body_reader.specs.BodyReader.{handed_of}
use Rattle.multipart.specs.Multipart.{BeginsHead, IsForm, is_full}
use Rattle.multipart.proofs.reader.Multipart.is_last.Goals as goal

pub returns-then-self-clause-last : goal.returns-then-self-clause-last
returns-then-self-clause-last g c = λ _.
    let d = c.args.self.now in
    let form = subst (λ x. IsForm x.stand x) c.self.view_is c.self.invariant in
    let is : BeginsHead d = subst (λ x. IsForm x d) c.requires.head form in
    let full : is_full d ≡ true = rw (← c.self.view_is) (le-leb _ _ c.if-self.true) in
    let none : handed_of d.body ≡ [] = sym is.all ∙ nil_from_length d.head (omega (arith, rw full at is.few)) in
    elim c.requires.whole [
      | inl just ↦ just.0 ∙ is.codings.hyphens
      | inr until ↦ absurd (until.0 (45 ∷ []) (rw (until.1.0, none, is.codings.end, full, is.codings.hyphens) refl))
    ]
