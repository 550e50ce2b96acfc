-- A list is its first element, up to a comma, and those behind.
use Rattle.std.proofs.Common.{◌≡◌, refl, ◌∙◌, ◌&&◌, ◌+◌, suc, drop, rules, arith, sym, ap}
use Rattle.std.specs.List.{list_all}
use Rattle.std.proofs.Math.Bool.{and-true}
use Rattle.http1.proofs.FieldsLemmas.{elements_at, elements_whole}
use Rattle.messages.specs.Names.{elements, is_expected}
use Rattle.std.proofs.lemmas.List.{take_rest}
use Rattle.messages.proofs.expect.are_expected.Goals.{After-is_expected}
use Rattle.messages.proofs.expect.are_expected.Goals as goal

-- so each element is so if that is, and those behind are
first : (c : After-is_expected) → list_all is_expected (elements c.loop-comma.rest.now)
    ≡ (c.is_expected.result && list_all is_expected (elements (drop (c.in-Some.comma + 1) c.loop-comma.rest.now)))
first c =
    let rest = c.loop-comma.rest.now in
    let at = c.in-Some.comma in
    let next : suc at ≡ at + 1 = omega arith in
    ap (list_all is_expected) (elements_at rest at (search rules) (search rules) (search rules))
    ∙ rw (next, c.is_expected.ensures, c.trim_ows.ensures) refl

pub returns-then-not-is_expected : goal.returns-then-not-is_expected
returns-then-not-is_expected c =
    let split = first (goal.at.returns-then-not-is_expected c).After-is_expected in
    sym (rw c.if-not-is_expected.true at split) ∙ c.loop-comma.invariant

pub loop-comma-preserved : goal.loop-comma-preserved
loop-comma-preserved c =
    let split = first (goal.at.loop-comma-preserved c).After-is_expected in
    ap (λ l. list_all is_expected (elements l)) (take_rest c.loop-comma.rest.now (c.in-Some.comma + 1))
    ∙ sym (rw c.if-not-is_expected.false at split) ∙ c.loop-comma.invariant

pub returns : goal.returns
returns c =
    c.is_expected-2.ensures ∙ ap is_expected c.trim_ows-2.ensures ∙ sym (and-true _)
    ∙ sym (ap (list_all is_expected) (elements_whole c.loop-comma.rest.now (search rules))) ∙ c.loop-comma.invariant
