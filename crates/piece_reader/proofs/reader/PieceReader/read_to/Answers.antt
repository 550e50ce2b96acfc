-- The policy's number is `need`, so one fill asks until so many bytes came, or the stream ended or failed.
use Rattle.std.proofs.Common.{◌≡◌, ◌<◌, ◌≤◌, Ok, Err, ap, subst, ◌∙◌, arith, length, refl}
use Rattle.std.proofs.lemmas.Bool.{leb-true, leb-false}
use Rattle.std.proofs.lemmas.Result.{err_from_is_err_and}
use Rattle.piece_reader.specs.PieceReader.{ReaderState, rest}
use Rattle.piece_reader.specs.Steps.{AsksFor}
use Rattle.piece_reader.proofs.Reading.{AsksFor-ok, AsksFor-err}
use Rattle.piece_reader.proofs.reader.PieceReader.read_to.Goals as goal

pub returns-in_err-fill_buf : goal.returns-in_err-fill_buf
returns-in_err-fill_buf g c =
    let remaining = g.R.TellRead.remaining in
    let grammar = g.D.Decoder.grammar in
    let i = c.self.inside in
    let m : ReaderState g.row.R.Denot g.row.D.Denot =
    record { reader = i.reader; decoder = i.decoder; handed = i.handed; seen = i.seen; ended = i.ended } in
    let t : ReaderState g.row.R.Denot g.row.D.Denot = record m { reader = c.fill_buf.follows.lender-at-none } in
    let f = rw c.in_err-fill_buf.was at c.fill_buf.follows.holds-at-none in
    let handed : i.handed ≡ 0 = ap (λ x. x.handed) c.self.view_is ∙ c.requires.handed in
    let few : length (rest m) < c.args.need = omega (arith, c.requires.few, ap (λ x. length (rest x)) c.self.view_is) in
    let most : c.args.need ≤ (grammar i.decoder).most =
    omega (arith, c.requires.most, ap (λ x. (grammar x.decoder).most) c.self.view_is) in
    let p = err_from_is_err_and c.from_residual.result c.from_residual.ensures.1 in
    rw (p.1, p.2) (subst (λ x. AsksFor remaining (grammar x.decoder) c.args.need x (Err c.in_err-fill_buf.field-0.0) t)
    c.self.view_is
    (AsksFor-err remaining (grammar i.decoder) c.args.need m c.self.invariant.0 handed few most c.if-self.false _
    (ap (λ p. p.0) c.set_min.ensures.number) _ _ f _ refl))

pub returns : goal.returns
returns g c =
    let remaining = g.R.TellRead.remaining in
    let grammar = g.D.Decoder.grammar in
    let i = c.self.inside in
    let m : ReaderState g.row.R.Denot g.row.D.Denot =
    record { reader = i.reader; decoder = i.decoder; handed = i.handed; seen = i.seen; ended = i.ended } in
    let t : ReaderState g.row.R.Denot g.row.D.Denot = record m { reader = c.fill_buf.follows.lender-at-none } in
    let f = rw c.in_ok-fill_buf.was at c.fill_buf.follows.holds-at-none in
    let handed : i.handed ≡ 0 = ap (λ x. x.handed) c.self.view_is ∙ c.requires.handed in
    let few : length (rest m) < c.args.need = omega (arith, c.requires.few, ap (λ x. length (rest x)) c.self.view_is) in
    let most : c.args.need ≤ (grammar i.decoder).most =
    omega (arith, c.requires.most, ap (λ x. (grammar x.decoder).most) c.self.view_is) in
    subst (λ x. AsksFor remaining (grammar x.decoder) c.args.need x
    (Ok (lib.Dec.leb c.args.need (length c.in_ok-fill_buf.field-0.now))) t) c.self.view_is
    (AsksFor-ok remaining (grammar i.decoder) c.args.need m c.self.invariant.0 handed few most c.if-self.false _
    (ap (λ p. p.0) c.set_min.ensures.number) _ _ f _ refl _
    (λ many. omega (
      arith,
      leb-true c.args.need (length c.in_ok-fill_buf.field-0.now) many,
      ap length f.shown,
    ))
    (λ less. omega (
      arith,
      leb-false c.args.need (length c.in_ok-fill_buf.field-0.now) less,
      ap length f.shown,
    )))
