-- No bytes are no read; else the reads of what is left join the first one.
use Rattle.std.proofs.Common.{◌≡◌, [], Ok, length, sym, ◌∙◌}
use Rattle.std.proofs.lemmas.List.{nil_from_length}
use Rattle.buffer_redux.specs.ReadAll.{ReadsExactly}
use Rattle.buffer_redux.proofs.ReadAll.{all_none, one_read}
use Rattle.buffer_redux.proofs.Testing.{zero_of}
use Rattle.buffer_redux.proofs.buf_reader.BufReader.read_rest.Goals as goal

-- nothing is to be read
nothing : (g : _) (c : goal.Then-is_empty g)
    → ReadsExactly g.R.TellRead.remaining g.P.ReaderPolicy.rules c.args.self.now c.args.out.now (Ok tt) c.args.out.now
    c.args.self.now
nothing g c =
    let empty : c.args.out.now ≡ [] = nil_from_length c.args.out.now
    (zero_of (length c.args.out.now) (sym c.is_empty.ensures ∙ c.if-is_empty.true)) in
    rw empty (rw (← c.self.view_is) (all_none _ _ _ c.self.invariant))

pub returns-then-is_empty : goal.returns-then-is_empty
returns-then-is_empty g c = record { exact = nothing g c }

pub returns : goal.returns
returns g c =
    let r = c.read-answer.ensures in
    record {
      exact = c.read_on.ensures.exact c.args.self.now c.args.out.now
          (one_read _ _ _ _ _ c.read-answer.new.out _ (rw (← c.self.view_is) c.self.invariant) r.bound r.steps r.in_order r.keeps
          r.caused r.empty);
    }
