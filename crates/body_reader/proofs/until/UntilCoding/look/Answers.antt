-- In the bytes before the first place where the delimiter stands, or may begin, it begins nowhere, and no payload goes past that.
use Rattle.std.proofs.Common.{◌≡◌, arith, refl}
use Rattle.body_reader.specs.Until.{MayBegin}
use Rattle.body_reader.specs.UntilLaws.{all_begun, all_found, looks_before, looks_end, looks_short, looks_until}
use Rattle.body_reader.proofs.until.UntilCoding.look.Goals as goal

pub returns-in-Some-eq0 : goal.returns-in-Some-eq0
returns-in-Some-eq0 c =
    let first : c.in-Some-eq0.field-0 ≡ 0 = omega arith in
    let found = rw first at c.in-Some-eq0.ensures.1 in
    rw (c.in-Inside.is, c.needle-needle.ensures) (looks_end _ c.args.self.now.some c.args.shown.now found)

pub returns-in-Some : goal.returns-in-Some
returns-in-Some c =
    let s = c.args.self.now in
    let shown = c.args.shown.now in
    let found = c.in-Some.ensures in
    rw c.in-Inside.is (
      looks_before s.delimiter s.some shown c.in-Some.at (omega arith) found.0.before found.1,
      omega arith,
      all_found s.delimiter s.some shown c.in-Some.at found.1,
      λ why wrong. wrong,
    )

pub returns-then-at-eq0 : goal.returns-then-at-eq0
returns-then-at-eq0 c =
    let s = c.args.self.now in
    let shown = c.args.shown.now in
    let begins = rw (c.needle-needle.ensures, c.if-at-eq0.true) at c.may_begin-at.ensures in
    rw c.in-Inside.is (looks_short s.delimiter s.some shown (begins.short refl) begins.begins, refl)

pub returns-else-at-eq0 : goal.returns-else-at-eq0
returns-else-at-eq0 c =
    let s = c.args.self.now in
    let shown = c.args.shown.now in
    let at = c.may_begin-at.result in
    let begins : MayBegin s.delimiter shown at = rw c.needle-needle.ensures at c.may_begin-at.ensures.begins in
    rw c.in-Inside.is (
      looks_until s.delimiter s.some shown at (omega (arith, c.if-at-eq0.false))
          (λ k occurs. c.in-None.ensures k (omega arith) (omega (arith, occurs.fits)) occurs) begins,
      omega arith,
      all_begun s.delimiter s.some shown at begins,
      λ why wrong. wrong,
    )
