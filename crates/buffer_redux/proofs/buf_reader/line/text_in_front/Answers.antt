-- Where std finds a fault, nothing that follows mends it; else at most part of a character is behind the text.
use Rattle.std.proofs.Common.{◌∙◌, ap, subst, sym, take}
use Rattle.std.specs.Str.{IsErrorLen}
use Rattle.buffer_redux.proofs.Utf8Fronts.{front_part, front_whole, never_at_fault}
use Rattle.buffer_redux.proofs.buf_reader.line.text_in_front.Goals as goal

pub returns-in-Ok-clause-front : goal.returns-in-Ok-clause-front
returns-in-Ok-clause-front c =
    let cases = c.in-Ok.ensures.cases in
    front_whole c.args.bytes.now c.in-Ok.text.now cases.0 cases.1

pub returns-in-Some-clause-none : goal.returns-in-Some-clause-none
returns-in-Some-clause-none c =
    let e = c.in-Err.ensures in
    never_at_fault c.args.bytes.now _ c.in-Some.field-0 e.cases.1 (sym e.fault ∙ sym c.error_len.ensures ∙ c.in-Some.is)

pub returns-in-Ok-from_utf8-clause-front : goal.returns-in-Ok-from_utf8-clause-front
returns-in-Ok-from_utf8-clause-front c =
    let e = c.in-Err.ensures in
    front_part c.args.bytes.now c.in-Ok-from_utf8.text.now _ e.cases.1
    (subst (IsErrorLen c.args.bytes.now _) (sym c.error_len.ensures ∙ c.in-None.is) e.error_len)
    (sym e.fault ∙ sym c.error_len.ensures ∙ c.in-None.is)
    (c.in-Ok-from_utf8.ensures.cases.0 ∙ ap (λ v. take v c.args.bytes.now) c.valid_up_to.ensures)
