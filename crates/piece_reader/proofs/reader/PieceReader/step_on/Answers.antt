-- Each turn keeps that nothing was handed out, and that what is there settles nothing below `need` bytes.
use Rattle.std.proofs.Common.{Err, Ok, [], ap, false, inl, refl, subst, sym, true, ◌∙◌}
use Rattle.piece_reader.specs.declared.decoder.Found.TheVariants.{Piece, Wrong}
use Rattle.piece_reader.specs.Grammar.{IsOpen}
use Rattle.piece_reader.specs.Looking.{LookSays}
use Rattle.piece_reader.specs.PieceReader.{IsPieceReader, rest}
use Rattle.piece_reader.specs.PiecesWentLaws.{PiecesWent-joins}
use Rattle.piece_reader.specs.Steps.{AsksFor, TakesEnd}
use Rattle.piece_reader.proofs.Lending.{lends_end, lends_first}
use Rattle.piece_reader.proofs.Loading.{asked_as, end_open, load_fails, load_finished, loads_on, takes_loaded, turned, wrong_next}
use Rattle.piece_reader.proofs.Looking.{LooksTo, end_inside, looked_last, looks_more, looks_settle}
use Rattle.piece_reader.proofs.Saying.{hands_front, hands_last}
use Rattle.piece_reader.proofs.reader.PieceReader.step_on.Goals as goal

pub returns-in-Err : goal.returns-in-Err
returns-in-Err g c =
    let remaining = g.R.TellRead.remaining in
    let grammar = g.D.Decoder.grammar in
    let s = c.args.self.now in
    let m = c.turns.self in
    let t = c.read_to.new.self in
    let law = g.met.D.Decoder.lawful s.decoder in
    let inv = c.turns.invariant in
    let asked = subst (λ d. AsksFor remaining (grammar d) c.turns.need m (Err c.in-Err.e) t) inv.0.header.went.decoder
    c.in-Err.ensures in
    record {
      lends = tt;
      front = tt;
      looked = looked_last _ s c.args.need remaining (grammar s.decoder) m t c.turns.need inv.0 inv.1 (Err c.in-Err.e) t asked
          (inl (asked.failed c.in-Err.e refl).0) refl;
      next = load_fails remaining (grammar s.decoder) law s m c.turns.need inv.0 c.in-Err.e t asked;
    }

pub returns-in-Ok-false : goal.returns-in-Ok-false
returns-in-Ok-false g c =
    let remaining = g.R.TellRead.remaining in
    let grammar = g.D.Decoder.grammar in
    let s = c.args.self.now in
    let m = c.turns.self in
    let t = c.read_to.new.self in
    let v = c.take_end.new.self in
    let need = c.turns.need in
    let law = g.met.D.Decoder.lawful s.decoder in
    let inv = c.turns.invariant in
    let ends = c.take_end.ensures in
    let asked = asked_as remaining grammar s m t need _ false c.in-Ok-false.field-0-test inv.0.header.went.decoder
    c.in-Ok-false.ensures in
    let decoder = asked.went.decoder ∙ inv.0.header.went.decoder in
    record {
      lends = lends_end grammar t v c.read_to.ensures.handed (subst (λ d. IsOpen (grammar d) (rest t)) (sym decoder)
          (end_open remaining (grammar s.decoder) law s m need inv.0 t asked)) c.take_end.result ends.takes;
      front = hands_last s t v remaining (grammar s.decoder).most (grammar t.decoder)
          (PiecesWent-joins remaining (grammar s.decoder).most s m t [] [] inv.0.header.went asked.went) asked.handed
          c.take_end.result ends.takes;
      looked = looked_last _ s c.args.need remaining (grammar s.decoder) m t need inv.0 inv.1 (Ok false) v asked
          (inl (asked.end refl).0) (end_inside (grammar t.decoder) t v c.take_end.result ends.takes);
      next = load_finished remaining (grammar s.decoder) law s m need inv.0 t asked c.take_end.result v
          (subst (λ d. TakesEnd (grammar d) t c.take_end.result v) decoder ends.takes)
          (subst (λ d. IsPieceReader (grammar d) v) decoder ends.whole);
    }

pub returns-in-Piece : goal.returns-in-Piece
returns-in-Piece g c =
    let remaining = g.R.TellRead.remaining in
    let grammar = g.D.Decoder.grammar in
    let looks = LookSays g.D.Decoder.grammar g.D.Decoder.looks in
    let s = c.args.self.now in
    let m = c.turns.self in
    let t = c.read_to.new.self in
    let v = c.take.new.self in
    let need = c.turns.need in
    let found = Piece c.in-Piece.span c.in-Piece.field-1 in
    let inv = c.turns.invariant in
    let turn = turned remaining grammar g.met.D.Decoder.lawful s m t v need inv.0
    c.in-Ok-true.field-0-test c.in-Ok-true.ensures c.in-Piece.is c.take.ensures.takes c.take.ensures.whole in
    let asked = asked_as remaining grammar s m t need _ true c.in-Ok-true.field-0-test inv.0.header.went.decoder
    c.in-Ok-true.ensures in
    let same = ap (λ x. x.reader) turn.takes.1 in
    record {
      lends = lends_first grammar t v c.read_to.ensures.handed c.take.ensures.whole c.in-Piece.span c.in-Piece.field-1
          c.in-Piece.ensures.takes;
      front = hands_front s t v remaining (grammar s.decoder).most turn.header.went turn.handed same;
      looked = looked_last looks s c.args.need remaining (grammar s.decoder) m t need inv.0 inv.1 (Ok true) v asked
          (looks_settle looks s c.args.need remaining (grammar s.decoder) m t need inv.0 inv.1 asked found
          c.in-Piece.ensures.looks tt) same;
      next = takes_loaded remaining (grammar s.decoder) (g.met.D.Decoder.lawful s.decoder) s t v c.in-Piece.span
          c.in-Piece.field-1 turn;
    }

pub returns-in-Wrong : goal.returns-in-Wrong
returns-in-Wrong g c =
    let remaining = g.R.TellRead.remaining in
    let grammar = g.D.Decoder.grammar in
    let looks = LookSays g.D.Decoder.grammar g.D.Decoder.looks in
    let s = c.args.self.now in
    let m = c.turns.self in
    let t = c.read_to.new.self in
    let v = c.take.new.self in
    let need = c.turns.need in
    let found = Wrong c.in-Wrong.e in
    let inv = c.turns.invariant in
    let turn = turned remaining grammar g.met.D.Decoder.lawful s m t v need inv.0
    c.in-Ok-true.field-0-test c.in-Ok-true.ensures c.in-Wrong.is c.take.ensures.takes c.take.ensures.whole in
    let asked = asked_as remaining grammar s m t need _ true c.in-Ok-true.field-0-test inv.0.header.went.decoder
    c.in-Ok-true.ensures in
    record {
      lends = tt;
      front = tt;
      looked = looked_last looks s c.args.need remaining (grammar s.decoder) m t need inv.0 inv.1 (Ok true) v asked
          (looks_settle looks s c.args.need remaining (grammar s.decoder) m t need inv.0 inv.1 asked found
          c.in-Wrong.ensures.looks tt) (ap (λ x. x.reader) turn.takes.1);
      next = wrong_next remaining (grammar s.decoder) (g.met.D.Decoder.lawful s.decoder) s t v c.in-Wrong.e turn;
    }

pub turns-preserved : goal.turns-preserved
turns-preserved g c =
    let remaining = g.R.TellRead.remaining in
    let grammar = g.D.Decoder.grammar in
    let looks = LookSays g.D.Decoder.grammar g.D.Decoder.looks in
    let s = c.args.self.now in
    let m = c.turns.self in
    let t = c.read_to.new.self in
    let v = c.take.new.self in
    let need = c.turns.need in
    let inv = c.turns.invariant in
    let turn = turned remaining grammar g.met.D.Decoder.lawful s m t v need inv.0
    c.in-Ok-true.field-0-test c.in-Ok-true.ensures c.in-More.is c.take.ensures.takes c.take.ensures.whole in
    let asked = asked_as remaining grammar s m t need _ true c.in-Ok-true.field-0-test inv.0.header.went.decoder
    c.in-Ok-true.ensures in (
      loads_on remaining (grammar s.decoder) (g.met.D.Decoder.lawful s.decoder) s t v c.in-More.more turn,
      subst (λ l. LooksTo looks s c.args.need l c.in-More.more) (ap (λ x. rest x) (sym turn.takes.3))
          (looks_more looks s c.args.need remaining (grammar s.decoder) m t need inv.0 inv.1 asked c.in-More.more
          c.in-More.ensures.looks),
    )
