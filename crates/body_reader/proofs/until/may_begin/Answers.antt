-- Where the bytes left are no front of the delimiter it begins nowhere, so the first place where they are is it.
use Rattle.std.proofs.Common.{◌≡◌, ◌≢◌, ℕ, ◌+◌, ◌-◌, ◌<◌, List, [], ◌++◌, true, false, length, take, drop, slice_index, sym, ap, ◌∙◌, arith}
use Rattle.std.proofs.lemmas.Bool.{cases_lt}
use Rattle.std.proofs.lemmas.Bool.Decides.{Decides-eqb}
use Rattle.std.proofs.lemmas.List.{drop_all, drop_more, take_rest}
use Rattle.std.proofs.lemmas.Slice.Eq.{starts_is}
use Rattle.body_reader.proofs.until.may_begin.Goals as goal
use Rattle.body_reader.proofs.until.may_begin.Goals.{else-shown-at-via-else-shown-at, else-shown-at-via-then-shown-at+else-starts_with}

-- what isn't the front of the delimiter here isn't in the next place before
goes_on : (needle shown : List ℕ) (at : ℕ)
    → ((k : ℕ) → k < at → length shown < k + length needle → (rest : List ℕ) → needle ≢ drop k shown ++ rest)
    → ((rest : List ℕ) → needle ≢ drop at shown ++ rest) → (k : ℕ) → k < at + 1 → length shown < k + length needle
    → (rest : List ℕ) → needle ≢ drop k shown ++ rest
goes_on needle shown at before here k low beyond rest is = grind (arith, cases_lt)

-- nor is what begins with another byte
other_first : (needle shown : List ℕ) (at : ℕ) → at < length shown → slice_index shown at ≢ slice_index needle 0
    → (rest : List ℕ) → needle ≢ drop at shown ++ rest
other_first needle shown at within differs rest is =
    differs (sym (ap (λ l. slice_index l 0) (is ∙ ap (λ l. l ++ rest) (drop_more shown at 0 within))))

pub loop-at-preserved : goal.loop-at-preserved
loop-at-preserved c =
    let shown = c.args.shown.now in
    let needle = c.args.needle.now in
    let at = c.loop-at.at in
    let before = c.loop-at.invariant in
    record {
      within = omega (arith, c.loop-at-test.true);
      short = λ none. absurd (omega (arith, none));
      clear = goes_on needle shown at before.clear (elim c.else-shown-at.branch [
        | else-shown-at-via-then-shown-at+else-starts_with w ↦ λ rest is.
            let tells = starts_is Decides-eqb needle (take (length shown - at) (drop at shown)) w.starts_with.result
            w.starts_with.ensures.value in
            let yes = tells.1 rest (is ∙ ap (λ l. l ++ rest) (sym (take_rest shown at))) in
            let odd : false ≡ true = sym w.if-starts_with.false ∙ yes in cc
        | else-shown-at-via-else-shown-at w ↦ other_first needle shown at c.loop-at-test.true w.if-shown-at.false
      ]);
    }

pub returns-then-starts_with-clause-begins : goal.returns-then-starts_with-clause-begins
returns-then-starts_with-clause-begins c =
    let shown = c.args.shown.now in
    let needle = c.args.needle.now in
    let at = c.loop-at.at in
    let part = take (length shown - at) (drop at shown) in
    let tells = starts_is Decides-eqb needle part c.starts_with.result c.starts_with.ensures.value in
    record {
      within = c.loop-at.invariant.within;
      front = (
        drop (length part) needle,
        tells.0 c.if-starts_with.true ∙ ap (λ l. l ++ drop (length part) needle) (take_rest shown at),
      );
      clear = c.loop-at.invariant.clear;
    }

pub returns-clause-begins : goal.returns-clause-begins
returns-clause-begins c =
    let shown = c.args.shown.now in
    let needle = c.args.needle.now in
    let end : c.loop-at.at ≡ length shown = omega (arith, c.loop-at-test.false, c.loop-at.invariant.within) in
    let none : drop (length shown) shown ≡ [] = drop_all (length shown) shown (omega arith) in
    record {
      within = omega arith;
      front = (needle, ap (λ l. l ++ needle) (sym none));
      clear = λ k low. c.loop-at.invariant.clear k (omega (arith, low, end));
    }
