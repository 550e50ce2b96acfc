-- The text begins with a letter, and behind the scheme stands `://`, so what follows decides.
use Rattle.std.proofs.Common.{◌+◌, ◌∙◌, IsTrue, codes, drop, nat_eq, rules, sym}
use Rattle.messages.specs.Names.{begins_with_letter, false≢true}
use Rattle.std.specs.List.{starts_with}
use Rattle.std.proofs.lemmas.List.{take_rest}
use Rattle.messages.proofs.target.is_absolute.Goals.{then-begins_with_letter, else-begins_with_letter}
use Rattle.messages.proofs.target.is_absolute.Goals as goal

pub returns-then-starts_with : goal.returns-then-starts_with
returns-then-starts_with c =
    let text = c.args.text.now in
    let len = c.scheme_len-len.result in
    let begins : IsTrue (begins_with_letter text) × IsTrue (starts_with nat_eq (drop len text) (codes "://")) =
    elim c.if-begins_with_letter.branch [
      | then-begins_with_letter w ↦ (
        sym c.begins_with_letter.ensures ∙ w.if-begins_with_letter.true,
        (let e = sym w.value-is ∙ c.if-starts_with.true in search rules),
      )
      | else-begins_with_letter w ↦ absurd (false≢true (sym w.if-begins_with_letter.false ∙ sym w.value-is
          ∙ c.if-starts_with.true))
    ] in
    let rest = rw (take_rest text (len + 3), c.is_web.ensures) at c.is_behind_scheme.ensures in
    rw (← c.scheme_len-len.ensures.value) (λ yes. (begins.0, begins.1, rest.0 yes), λ is. rest.1 is.2)
