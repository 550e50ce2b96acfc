-- The reader's step answers, unless its end is known; a fault came behind bytes where more is left than before.
use Rattle.std.proofs.Common.{IfSome, Ok, length, nat_lt, refl, subst, sym, ◌∙◌}
use Rattle.piece_reader.specs.Decoding.{IsLent}
use Rattle.piece_reader.specs.NextPiece.{NextPiece, load_answer}
use Rattle.piece_filter.proofs.Calls.{asked_ended, asked_fault, asked_more, asked_none, asked_wrong}
use Rattle.piece_filter.proofs.answering.AnsweringFilter.ask.Goals as goal

pub returns-then-has_ended : goal.returns-then-has_ended
returns-then-has_ended g c =
    asked_ended g.R.TellRead.remaining g.D.Decoder.grammar g.S.Answer.answers c.requires.ready c.requires.lacks.0
    (sym c.has_ended.ensures.value ∙ c.if-has_ended.true)

pub returns-in-Ok-Some : goal.returns-in-Ok-Some
returns-in-Ok-Some g c =
    let m = c.step.new.self in
    let grammar = g.D.Decoder.grammar c.args.self.now.source.decoder in
    asked_more g.R.TellRead.remaining g.D.Decoder.grammar g.S.Answer.answers c.requires.ready c.requires.lacks.0 m
    (sym c.has_ended.ensures.value ∙ c.if-has_ended.false) c.in-Ok-Some.span
    (subst (λ found. IfSome found (IsLent (g.D.Decoder.grammar m.decoder) m.handed m.reader.block.bytes))
    c.in-Ok-Some.field-0-is c.in-Ok-Some.ensures.lends) c.requires.lacks.1
    (subst (λ found. NextPiece g.R.TellRead.remaining grammar c.args.self.now.source (load_answer (Ok found) m) m)
    c.in-Ok-Some.field-0-is c.in-Ok-Some.ensures.next)

pub returns-in-Ok-None : goal.returns-in-Ok-None
returns-in-Ok-None g c =
    let m = c.step.new.self in
    let grammar = g.D.Decoder.grammar c.args.self.now.source.decoder in
    asked_none g.R.TellRead.remaining g.D.Decoder.grammar g.S.Answer.answers c.requires.ready c.requires.lacks.0 m
    (sym c.has_ended.ensures.value ∙ c.if-has_ended.false)
    (subst (λ found. NextPiece g.R.TellRead.remaining grammar c.args.self.now.source (load_answer (Ok found) m) m)
    c.in-Ok-None.field-0-is c.in-Ok-None.ensures.next)

pub returns-in-Err-Wrong : goal.returns-in-Err-Wrong
returns-in-Err-Wrong g c =
    asked_wrong g.R.TellRead.remaining g.D.Decoder.grammar g.S.Answer.answers c.requires.ready c.requires.lacks.0 c.step.new.self
    (sym c.has_ended.ensures.value ∙ c.if-has_ended.false) c.in-Err-Wrong.why
    (rw c.in-Err-Wrong.field-0-is at c.in-Err-Wrong.ensures.next)

pub returns-in-Err-Io : goal.returns-in-Err-Io
returns-in-Err-Io g c =
    rw c.of_fault.ensures (asked_fault g.R.TellRead.remaining g.D.Decoder.grammar g.S.Answer.answers c.requires.ready
    c.requires.lacks.0 c.step.new.self (sym c.has_ended.ensures.value ∙ c.if-has_ended.false) c.in-Err-Io.e
    (rw c.in-Err-Io.field-0-is at c.in-Err-Io.ensures.next) (nat_lt (length c.rest-have.result.now) (length c.rest.result.now))
    (rw (c.rest-have.ensures.value, c.rest.ensures.value) refl))
