-- What the fill shows is appended and consumed, and where it shows nothing the reader ran dry.
use Rattle.std.proofs.Common.{◌∙◌, ◌<◌, length, rules, Ok, [], sym, append-nil, vec_items, ap, arith}
use Rattle.std.proofs.lemmas.Result.{err_from_is_err_and}
use Rattle.buffer_redux.specs.EmptyReads.{none_before_fault, none_where_shown, fill_once}
use Rattle.buffer_redux.specs.ReaderLaws.{ReadsAlong-none, ReadsAlong-shown, ReadsToEnd-of, FillBuf-along}
use Rattle.uses.proofs.survive.read_turn.Goals as goal

pub returns-in_err-shown-clause-gained : goal.returns-in_err-shown-clause-gained
returns-in_err-shown-clause-gained g c = record {
  handed = [];
  along = FillBuf-along _ _ _ _ _ c.fill_buf.follows.holds-at-none;
  gained = sym (append-nil (vec_items c.args.into.now));
}

pub returns-clause-gained : goal.returns-clause-gained
returns-clause-gained g c =
    let filled = rw c.in_ok-shown.was at c.fill_buf.follows.holds-at-none in record {
      handed = c.in_ok-shown.shown.now;
      along = ReadsAlong-shown _ _ _ _ [] _ _ (ReadsAlong-none _ _ _) filled _
          c.consume.ensures.inner c.consume.ensures.consumed;
      gained = rw c.in_ok-extend_from_slice.was at c.extend_from_slice.ensures.items;
    }

pub returns-clause-dry : goal.returns-clause-dry
returns-clause-dry g c is =
    let filled = rw c.in_ok-shown.was at c.fill_buf.follows.holds-at-none in
    let end = ReadsToEnd-of _ _ _ _ [] _ _ (ReadsAlong-none _ _ _) filled c.requires.wants c.requires.capacity (cc) in
    omega (arith, end.dry, ap (λ l. l.reads.zero_reads) c.consume.ensures.consumed.told)

pub returns-in_err-shown-clause-once : goal.returns-in_err-shown-clause-once
returns-in_err-shown-clause-once g c orders =
    let p = err_from_is_err_and c.from_residual.result c.from_residual.ensures.1 in
    let filled = rw c.in_err-shown.was at c.fill_buf.follows.holds-at-none in
    rw p.1 (none_before_fault g.P.ReaderPolicy.rules orders _ _ _ filled.fills.filled)

pub returns-in_err-extend_from_slice-clause-once : goal.returns-in_err-extend_from_slice-clause-once
returns-in_err-extend_from_slice-clause-once g c orders =
    let r = c.from_residual-in_err-extend_from_slice in
    let p = err_from_is_err_and r.result r.ensures.1 in
    let filled = rw c.in_ok-shown.was at c.fill_buf.follows.holds-at-none in
    let some : 0 < length c.in_ok-shown.shown.now = search rules in
    rw p.1 (none_where_shown g.P.ReaderPolicy.rules orders _ _ c.in_ok-shown.shown filled.fills.filled
    (omega (arith, some, ap length filled.shown)))

pub returns-clause-once : goal.returns-clause-once
returns-clause-once g c orders =
    let filled = rw c.in_ok-shown.was at c.fill_buf.follows.holds-at-none in
    let told = ap (λ l. l.reads.zero_reads) c.consume.ensures.consumed.told in (
      λ none. omega (
        arith,
        told,
        returns-clause-dry g c (ap Ok none),
        fill_once g.P.ReaderPolicy.rules _ _ (Ok c.in_ok-shown.shown) filled.fills.filled,
      ),
      λ some. told ∙ none_where_shown g.P.ReaderPolicy.rules orders _ _ c.in_ok-shown.shown filled.fills.filled
          (omega (arith, some, ap length filled.shown)),
    )
