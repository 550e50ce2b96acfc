-- A piece is what had begun and what `read_until` appended; where that is no bytes, the stream has ended.
use Rattle.std.proofs.Common.{◌≡◌, ℕ, ◌-◌, ◌==◌, ◌∙◌, List, Ok, inl, inr, length, refl, sym, subst, ap, arith}
use Rattle.std.specs.Global.{Vec}
use Rattle.std.specs.Prelude.{vec_capacity}
use Rattle.std.proofs.lemmas.Bool.{eqb-true}
use Rattle.std.proofs.lemmas.List.{nil_from_length}
use Rattle.buffer_redux.specs.Pieces.{Ended, GivesWhole, GoesOnWith, Splitting, Stopped}
use Rattle.buffer_redux.specs.ReadUntil.{ReadsUntil}
use Rattle.buffer_redux.proofs.Testing.{some_of}
use Rattle.buffer_redux.proofs.buf_reader.pieces.Split.next_whole.Goals as goal
use Rattle.buffer_redux.proofs.buf_reader.pieces.Split.next_whole.Goals.{After-is_empty}

abbrev before : (g : _) → goal.After-is_empty g → Splitting g.row.R.Denot g.row.P.Denot
before g c =
    let own = c.self.inside in
    record { reader = own.reader; byte = own.byte; begun = own.begun.items; room = vec_capacity own.begun; left = own.left }

abbrev after : (g : _) → goal.After-is_empty g → Vec ℕ → Splitting g.row.R.Denot g.row.P.Denot
after g c begun =
    let own = c.self.inside in record {
      reader = c.read_until.new.self;
      byte = own.byte;
      begun = begun.items;
      room = vec_capacity begun;
      left = own.left - 1;
    }

went : (g : _) (c : goal.After-is_empty g) (begun : Vec ℕ)
    → GoesOnWith g.R.TellRead.remaining g.P.ReaderPolicy.rules (before g c) (Ok c.in_default.field-0)
    c.read_until.new.out.items (after g c begun)
went g c begun =
    let own = c.self.inside in record {
      reads = subst (λ r. ReadsUntil g.R.TellRead.remaining g.P.ReaderPolicy.rules own.byte own.reader own.begun.items r
          c.read_until.new.out.items c.read_until.new.self) c.in_default.is c.read_until.ensures.until;
      byte = refl;
      called = omega (arith, c.if-self-eq0.false);
      more = omega (arith, c.if-self-eq0.false, c.if-self-eq0-2.false);
    }

counted : (g : _) (c : goal.After-is_empty g) → (length c.read_until.new.out.items == 0) ≡ c.is_empty.result
counted g c = ap (λ n. n == 0) (sym c.read_until.new.out.ok.0) ∙ sym c.is_empty.ensures

pub returns-clause-gives : goal.returns-clause-gives
returns-clause-gives g c =
    let at = (goal.at.returns-clause-gives g c).After-is_empty in
    let piece = c.read_until.new.out.items in
    let t = after g at c.replace.new.dest in
    let whole : GivesWhole g.R.TellRead.remaining g.P.ReaderPolicy.rules (before g at) piece t = record {
      count = c.in_default.field-0;
      went = went g at c.replace.new.dest;
      some = some_of (length piece) (counted g at ∙ c.if-is_empty.false);
      begun = ap (λ v. v.items) c.replace.ensures.after ∙ c.new-next.ensures.items;
      room = ap vec_capacity c.replace.ensures.after ∙ c.new-next.ensures.capacity;
    } in (
      piece,
      subst (λ s. GivesWhole g.R.TellRead.remaining g.P.ReaderPolicy.rules s piece t) c.self.view_is whole,
      ap (λ v. v.items) c.replace.ensures.value,
    )

pub returns-then-is_empty-clause-gives : goal.returns-then-is_empty-clause-gives
returns-then-is_empty-clause-gives g c =
    let at = (goal.at.returns-then-is_empty-clause-gives g c).After-is_empty in
    let piece = c.read_until.new.out.items in
    let t = after g at c.read_until.new.out in
    let none = nil_from_length piece (eqb-true (length piece) 0 (counted g at ∙ c.if-is_empty.true)) in
    subst (λ s. Ended g.R.TellRead.remaining g.P.ReaderPolicy.rules s t) c.self.view_is (inr (
      c.in_default.field-0,
      subst (λ l. GoesOnWith g.R.TellRead.remaining g.P.ReaderPolicy.rules (before g at) (Ok c.in_default.field-0) l t)
          none (went g at c.read_until.new.out),
      none,
    ))

pub returns-in-Err-clause-gives : goal.returns-in-Err-clause-gives
returns-in-Err-clause-gives g c =
    let own = c.self.inside in
    subst (λ s. Stopped g.R.TellRead.remaining g.P.ReaderPolicy.rules s c.in-Err.e (record {
      reader = c.read_until.new.self;
      byte = own.byte;
      begun = c.read_until.new.out.items;
      room = vec_capacity c.read_until.new.out;
      left = own.left - 1;
    })) c.self.view_is (inl (
      record {
        reads = c.in-Err.ensures.until;
        byte = refl;
        called = omega (arith, c.if-self-eq0.false);
        more = omega (arith, c.if-self-eq0.false, c.if-self-eq0-2.false);
      },
      c.in-Err.ensures.full,
    ))
