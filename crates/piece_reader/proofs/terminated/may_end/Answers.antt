-- Where the end stands nowhere it may come only where the bytes left are its front.
use Rattle.std.proofs.Common.{◌≡◌, ◌-◌, ◌++◌, true, false, length, take, drop, inl, inr, sym, ap, ◌∙◌, arith}
use Rattle.std.proofs.lemmas.Bool.{cases_lt}
use Rattle.std.proofs.lemmas.Bool.Decides.{Decides-eqb}
use Rattle.std.proofs.lemmas.Slice.Eq.{starts_is}
use Rattle.buffer_redux.specs.OccursLaws.{OccursAt-last}
use Rattle.piece_reader.proofs.Terminating.{behind_place, comes_never, may_come}
use Rattle.piece_reader.proofs.terminated.may_end.Goals as goal

pub returns-then-bytes-max-clause-may : goal.returns-then-bytes-max-clause-may
returns-then-bytes-max-clause-may c so never =
    never c.args.end.now (length c.args.bytes.now) (omega arith) (omega (arith, c.if-bytes-max.true))
    (OccursAt-last c.args.bytes.now c.args.end.now)

pub loop-at-preserved : goal.loop-at-preserved
loop-at-preserved c =
    let bytes = c.args.bytes.now in
    let end = c.args.end.now in
    let at = c.loop-at.at in
    record {
      short = omega (arith, c.loop-at.invariant.short);
      clear = λ k low beyond rest is. elim (cases_lt k at) [
        | inl less ↦ c.loop-at.invariant.clear k less beyond rest is
        | inr last ↦
            let same : k ≡ at = omega (arith, last, low) in
            let begins = (starts_is Decides-eqb end (take (length bytes - at) (drop at bytes)) c.starts_with.result
            c.starts_with.ensures.value).1 rest
            (is ∙ ap (λ n. drop n bytes ++ rest) same ∙ ap (λ l. l ++ rest) (sym (behind_place at bytes))) in
            let odd : false ≡ true = sym c.if-starts_with.false ∙ begins in cc
      ];
    }

pub returns-then-starts_with-clause-may : goal.returns-then-starts_with-clause-may
returns-then-starts_with-clause-may c so =
    let bytes = c.args.bytes.now in
    let end = c.args.end.now in
    let at = c.loop-at.at in
    let part = take (length bytes - at) (drop at bytes) in
    let tells = starts_is Decides-eqb end part c.starts_with.result c.starts_with.ensures.value in
    may_come end c.args.max bytes at (drop (length part) end) (omega (arith, c.loop-at-test.true))
    (omega (arith, c.loop-at-test.true, c.if-bytes-max.false))
    (tells.0 c.if-starts_with.true ∙ ap (λ l. l ++ drop (length part) end) (behind_place at bytes))

pub returns-clause-never : goal.returns-clause-never
returns-clause-never c so =
    comes_never c.args.end.now c.args.max c.args.bytes.now (omega (arith, c.if-bytes-max.false)) c.requires.none
    (λ k low. c.loop-at.invariant.clear k (omega (arith, low, c.loop-at-test.false)))
