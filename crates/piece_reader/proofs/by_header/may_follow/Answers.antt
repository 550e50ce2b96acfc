-- What stands behind the place is the tail's front, or no tail begins so.
use Rattle.std.proofs.Common.{◌≡◌, ◌+◌, ◌-◌, ◌++◌, false, true, length, take, drop, sym, ap, ◌∙◌, arith, length-drop}
use Rattle.std.proofs.Math.Seq.{take-append-add}
use Rattle.std.proofs.lemmas.Bool.Decides.{Decides-eqb}
use Rattle.std.proofs.lemmas.List.{drop-append-le, take_all}
use Rattle.std.proofs.lemmas.Slice.Eq.{starts_is}
use Rattle.piece_reader.specs.HeaderFormatLaws.{may_follow_early}
use Rattle.piece_reader.proofs.Terminating.{behind_place}
use Rattle.piece_reader.proofs.by_header.may_follow.Goals as goal

pub returns-then-bytes-at-clause-may : goal.returns-then-bytes-at-clause-may
returns-then-bytes-at-clause-may c so =
    may_follow_early c.args.tail.now c.args.at c.args.bytes.now (omega (arith, c.if-bytes-at.true))

pub returns-else-bytes-at-clause-may : goal.returns-else-bytes-at-clause-may
returns-else-bytes-at-clause-may c so never =
    let bytes = c.args.bytes.now in
    let tail = c.args.tail.now in
    let at = c.args.at in
    let part = take (length bytes - at) (drop at bytes) in
    let rest = drop (length part) tail in
    let front = (starts_is Decides-eqb tail part c.starts_with.result c.starts_with.ensures.value).0 so in
    never rest (
    ap (take (length tail)) (drop-append-le at bytes rest (omega (arith, c.if-bytes-at.false))
    ∙ ap (λ l. l ++ rest) (sym (behind_place at bytes)) ∙ sym front)
    ∙ take_all (length tail) tail (omega arith)
    )

pub returns-else-bytes-at-clause-never : goal.returns-else-bytes-at-clause-never
returns-else-bytes-at-clause-never c lacks more is =
    let bytes = c.args.bytes.now in
    let tail = c.args.tail.now in
    let at = c.args.at in
    let part = take (length bytes - at) (drop at bytes) in
    let k = length tail - length part in
    let size : length tail ≡ length part + k =
    omega (arith, c.requires.part, c.if-bytes-at.false, ap length (behind_place at bytes), length-drop at bytes) in
    let here : drop at (bytes ++ more) ≡ part ++ more =
    drop-append-le at bytes more (omega (arith, c.if-bytes-at.false)) ∙ ap (λ l. l ++ more) (sym (behind_place at bytes)) in
    let begins = (starts_is Decides-eqb tail part c.starts_with.result c.starts_with.ensures.value).1 (take k more)
    (sym is ∙ ap (take (length tail)) here ∙ ap (λ n. take n (part ++ more)) size ∙ take-append-add part more k) in
    let odd : false ≡ true = sym lacks ∙ begins in cc
