-- A fill under a minimum of 16 bytes or more shows the first 16 that are left, or all, and drops none.
use Rattle.std.proofs.Common.{ℕ, take, unwrap_or, refl, sym, ap, ◌∙◌}
use Rattle.std.proofs.lemmas.List.{take_min}
use Rattle.std.proofs.lemmas.Option.{IfSome_then}
use Rattle.buffer_redux.specs.MinBuffered.{min_read_rules}
use Rattle.buffer_redux.specs.Remaining.{reader_remaining}
use Rattle.buffer_redux.specs.ReaderLaws.{FillBuf-first, FillBuf-keeps}
use Rattle.buffer_redux.specs.Policy.{ReadClaims}
use Rattle.buffer_redux.specs.declared.policy.min_buffered.MinBuffered.{MinBuffered}
use Rattle.uses.specs.Sniff.{format_of}
use Rattle.buffer_redux.specs.EmptyReads.{fill_once}
use Rattle.uses.proofs.Filling.{min_still}
use Rattle.uses.proofs.sniff.sniff.Goals as goal

abbrev of_claims : ReadClaims → MinBuffered
of_claims c = record { 0 = unwrap_or {T = ℕ} c.minimum 0 }

-- the claims tell the policy
pub returns-clause-policy : goal.returns-clause-policy
returns-clause-policy g c = ap of_claims c.fill_buf.follows.holds-at-none.fills.claims

pub returns-in_err-shown-clause-policy : goal.returns-in_err-shown-clause-policy
returns-in_err-shown-clause-policy g c = ap of_claims c.fill_buf.follows.holds-at-none.fills.claims

pub returns-clause-format : goal.returns-clause-format
returns-clause-format g c =
    let shown = c.in_ok-shown.shown.now in
    c.format_by.ensures ∙ ap (λ n. format_of (take n shown)) c.min.ensures ∙ ap format_of (take_min 16 shown)
    ∙ ap (λ l. format_of (take 16 l)) (rw c.in_ok-shown.was at c.fill_buf.follows.holds-at-none.shown)

pub returns-clause-known : goal.returns-clause-known
returns-clause-known g c =
    let known = reader_remaining g.R.TellRead.remaining min_read_rules c.args.reader.now in
    let filled = rw c.in_ok-shown.was at c.fill_buf.follows.holds-at-none in
    IfSome_then known
    (FillBuf-first _ min_read_rules 16 _ c.args.reader.now c.in_ok-shown.shown _ c.requires.enough refl filled)
    (λ xs same. returns-clause-format g c ∙ ap (λ l. format_of (take 16 l)) (sym filled.shown) ∙ ap format_of same)

pub returns-clause-left : goal.returns-clause-left
returns-clause-left g c = FillBuf-keeps _ _ _ _ _ c.fill_buf.follows.holds-at-none

pub returns-in_err-shown-clause-left : goal.returns-in_err-shown-clause-left
returns-in_err-shown-clause-left g c = FillBuf-keeps _ _ _ _ _ c.fill_buf.follows.holds-at-none

pub returns-clause-once : goal.returns-clause-once
returns-clause-once g c = fill_once min_read_rules _ _ _ c.fill_buf.follows.holds-at-none.fills.filled

pub returns-in_err-shown-clause-once : goal.returns-in_err-shown-clause-once
returns-in_err-shown-clause-once g c = fill_once min_read_rules _ _ _ c.fill_buf.follows.holds-at-none.fills.filled

pub returns-clause-still : goal.returns-clause-still
returns-clause-still g c = λ many. min_still _ _ _ many c.fill_buf.follows.holds-at-none.fills.filled

pub returns-in_err-shown-clause-still : goal.returns-in_err-shown-clause-still
returns-in_err-shown-clause-still g c = λ many. min_still _ _ _ many c.fill_buf.follows.holds-at-none.fills.filled
