-- It is no name, so it is a host just where what stands behind the bracket is bracketed.
use Rattle.std.proofs.Common.{inl, inr, sym, ◌∙◌}
use Rattle.messages.specs.Names.{false≢true}
use Rattle.std.proofs.lemmas.List.{take_rest}
use Rattle.messages.proofs.target.is_host_and_port.Goals as goal

pub returns-then-has_at : goal.returns-then-has_at
returns-then-has_at c =
    let is = rw (take_rest c.args.text.now 1) at c.is_bracketed.ensures in (
      λ yes. inr (sym c.has_at.ensures ∙ c.if-has_at.true, is.0 yes),
      λ host. elim host [
        | inl name ↦ absurd (false≢true (sym c.if-is_name.false ∙ c.is_name.ensures ∙ name))
        | inr bracketed ↦ is.1 bracketed.1
      ],
    )
