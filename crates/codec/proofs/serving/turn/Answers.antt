-- What the service is given is the payload and the item of the piece that the fetch handed out.
use Rattle.std.proofs.Common.{Ok, ap, inl, refl, ◌∙◌}
use Rattle.codec.proofs.Turning.{answer_failed, service_failed, took_piece}
use Rattle.codec.proofs.serving.turn.Goals as goal

pub returns-in-Ok-true : goal.returns-in-Ok-true
returns-in-Ok-true g c =
    let said = c.in-Ok-Ok-Some.is ∙ ap (λ x. Ok x) (c.in-Ok-Ok-Some.field-0-is ∙ ap (λ x. Ok x) c.in-Ok-Ok-Some.field-0-0-is) in
    took_piece _ _ _ _ _ _ _ g.S.Service.fails _ _ c.fetch_on.new.writer c.fetch_on.result _ said c.fetch_on.ensures.next
    c.fetch_on.ensures.first _ c.lent.ensures _ _ c.in-Ok-true.field-0 _ c.in-Ok-true.field-0-test
    c.in-Ok-true.ensures

pub returns-in-Ok-false : goal.returns-in-Ok-false
returns-in-Ok-false g c =
    let said = c.in-Ok-Ok-Some.is ∙ ap (λ x. Ok x) (c.in-Ok-Ok-Some.field-0-is ∙ ap (λ x. Ok x) c.in-Ok-Ok-Some.field-0-0-is) in
    took_piece _ _ _ _ _ _ _ g.S.Service.fails _ _ c.fetch_on.new.writer c.fetch_on.result _ said c.fetch_on.ensures.next
    c.fetch_on.ensures.first _ c.lent.ensures _ _ c.in-Ok-false.field-0 _ c.in-Ok-false.field-0-test
    c.in-Ok-false.ensures

pub returns-in-Err-Write : goal.returns-in-Err-Write
returns-in-Err-Write g c =
    let said = c.in-Ok-Ok-Some.is ∙ ap (λ x. Ok x) (c.in-Ok-Ok-Some.field-0-is ∙ ap (λ x. Ok x) c.in-Ok-Ok-Some.field-0-0-is) in
    answer_failed _ _ _ _ _ _ _ g.S.Service.fails _ _ c.fetch_on.new.writer c.fetch_on.result _ said c.fetch_on.ensures.next
    c.fetch_on.ensures.first _ c.lent.ensures _ _ _ c.in-Err-Write.e c.in-Err-Write.field-0-is
    c.in-Err-Write.ensures

pub returns-in-Err-Failed : goal.returns-in-Err-Failed
returns-in-Err-Failed g c =
    let said = c.in-Ok-Ok-Some.is ∙ ap (λ x. Ok x) (c.in-Ok-Ok-Some.field-0-is ∙ ap (λ x. Ok x) c.in-Ok-Ok-Some.field-0-0-is) in
    service_failed _ _ _ _ _ _ _ g.S.Service.fails _ _ c.fetch_on.new.writer c.fetch_on.result _ said c.fetch_on.ensures.next
    c.fetch_on.ensures.first _ c.lent.ensures _ _ _ c.in-Err-Failed.why c.in-Err-Failed.field-0-is
    c.in-Err-Failed.ensures

pub returns-in-Err : goal.returns-in-Err
returns-in-Err g c = inl (record { first = c.in-Err.ensures.first; service = refl })
