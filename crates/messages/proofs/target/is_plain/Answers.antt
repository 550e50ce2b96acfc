-- Of a field that is named `host`, plain is just a value that names a host.
use Rattle.std.proofs.Common.{◌∙◌, ap, sym}
use Rattle.std.specs.Prelude.{codes}
use Rattle.http1.specs.Text.{eq_ignore_case}
use Rattle.messages.proofs.target.is_plain.Goals as goal

pub returns-else-not-eq_ignore_case : goal.returns-else-not-eq_ignore_case
returns-else-not-eq_ignore_case c =
    let value = c.of-else-not-eq_ignore_case.ensures in
    let named = sym (c.eq_ignore_case.ensures ∙ ap (λ t. eq_ignore_case t (codes "host")) c.of.ensures)
    ∙ c.if-not-eq_ignore_case.false in
    rw (← value) (λ is named. c.is_host.ensures.0 is, λ plain. c.is_host.ensures.1 (plain named))
