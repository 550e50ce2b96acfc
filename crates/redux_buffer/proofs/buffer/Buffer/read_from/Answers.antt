-- The read fills the lent tail: the front that it gave is taken in, and nothing where it failed.
use Rattle.std.proofs.Common.{◌≡◌, ◌≤◌, length, arith, rules, ◌∙◌, ap, sym}
use Rattle.std.proofs.lemmas.Result.{err_from_is_err_and}
use Rattle.redux_buffer.specs.Block.{usable}
use Rattle.redux_buffer.specs.BufImpl.{as_placed}
use Rattle.redux_buffer.proofs.Written.{tail_whole, written_adds, written_leaves, leaves_extends}
use Rattle.redux_buffer.proofs.buffer.Buffer.read_from.Goals as goal

pub returns-clause-read : goal.returns-clause-read
returns-clause-read g c =
    let n = c.in_ok-n.n in
    let w = c.read_told.new.buf in
    let whole : length w ≡ usable (as_placed c.self.inside.imp).block = search rules in
    let given : n ≤ length w = c.in_ok-n.ensures.bound.0 in
    let room : n ≤ usable (as_placed c.self.inside.imp).block = omega arith in
    rw (← c.self.view_is) (record {
      no_room = λ none. absurd
          (c.if-usable_space-eq0.false (c.usable_space.ensures.value ∙ ap usable (sym c.self.view_is) ∙ none));
      read = λ some. record {
        out = w;
        offered = whole;
        bound = c.in_ok-n.ensures.bound;
        told = c.in_ok-n.ensures.told;
        added = written_adds c.self.inside.imp c.bytes_written.new.self w n c.self.invariant.0
            c.bytes_written.ensures.whole whole room c.bytes_written.ensures.bytes c.bytes_written.ensures.shift
            c.self.inside.limit;
      };
    })

pub returns-in_err-n-clause-read : goal.returns-in_err-n-clause-read
returns-in_err-n-clause-read g c =
    let w = c.read_told.new.buf in
    let p = err_from_is_err_and c.from_residual.result c.from_residual.ensures.1 in
    let whole : length w ≡ usable (as_placed c.self.inside.imp).block = search rules in
    rw (p.1, p.2, ← c.self.view_is) (record {
      no_room = λ none. absurd
          (c.if-usable_space-eq0.false (c.usable_space.ensures.value ∙ ap usable (sym c.self.view_is) ∙ none));
      read = λ some. record {
        out = w;
        offered = whole;
        bound = tt;
        told = c.in_err-n.ensures.told;
        added = leaves_extends _ _ (written_leaves c.self.inside.imp w c.self.inside.limit);
      };
    })

pub invariant_of-self : goal.invariant_of-self
invariant_of-self g c = tail_whole _ _ _ c.self.invariant
