-- The pieces keep how far the text went since it began with this writer, and which error ended it.
use Rattle.std.proofs.Common.{[], IfSome, None, Some, ap, subst, sym, refl}
use Rattle.std.specs.Prelude.{is_ok}
use Rattle.buffer_redux.proofs.TextPieces.{pieces_none, text_failed, text_stopped, text_taken, text_written, went_so}
use Rattle.buffer_redux.specs.WriteFmt.{TextWent}
use Rattle.buffer_redux.proofs.buf_writer.text.write_text.Goals as goal

pub invariant_of-pieces-clause-went : goal.invariant_of-pieces-clause-went
invariant_of-pieces-clause-went g c =
    subst (λ o. ∥ IfSome o (λ s. TextWent g.W.Tell.log g.W.TellWrite.trace g.P.WriterPolicy.rules s None c.args.writer.now) ∥₁)
    (sym c.requires.began)
    ∣ (
      [],
      pieces_none g.W.Tell.log g.W.TellWrite.trace g.P.WriterPolicy.rules g.met.W.TellWrite.trace_none
          g.met.W.TellWrite.trace_joins c.args.writer.now,
    ) ∣₁

pub returns-in-Err-default-clause-text : goal.returns-in-Err-default-clause-text
returns-in-Err-default-clause-text g c =
    let gone = c.into_inner-writer.result in
    text_failed g.W.Tell.log g.W.TellWrite.trace g.P.WriterPolicy.rules g.met.W.TellWrite.trace_none
    g.met.W.TellWrite.trace_joins c.args.writer.now _ gone.ended _ gone.writer.now
    (went_so g.W.Tell.log g.W.TellWrite.trace g.P.WriterPolicy.rules g.met.W.TellWrite.trace_none
    g.met.W.TellWrite.trace_joins g.B.Began.writer c.args.writer.now gone.writer.now gone.ended gone.ended c.requires.began
    refl gone.went) c.from.ensures

pub returns-in-Ok-Some-clause-text : goal.returns-in-Ok-Some-clause-text
returns-in-Ok-Some-clause-text g c =
    let gone = c.into_inner-writer.result in
    text_stopped g.W.Tell.log g.W.TellWrite.trace g.P.WriterPolicy.rules g.met.W.TellWrite.trace_none
    g.met.W.TellWrite.trace_joins c.args.writer.now _ c.in-Ok-Some.e gone.writer.now
    (went_so g.W.Tell.log g.W.TellWrite.trace g.P.WriterPolicy.rules g.met.W.TellWrite.trace_none
    g.met.W.TellWrite.trace_joins g.B.Began.writer c.args.writer.now gone.writer.now gone.ended (Some c.in-Ok-Some.e)
    c.requires.began c.in-Ok-Some.is-1 gone.went)
    (text_taken g.W.Tell.log g.W.TellWrite.trace g.P.WriterPolicy.rules g.met.W.TellWrite.trace_none
    g.met.W.TellWrite.trace_joins (λ x. x.writer.now) (λ x. x.ended) c.new-f.result c.write-formatted.new.self _ gone
    (Some c.in-Ok-Some.e) c.write-formatted.result (g.D.Display.output c.args.text) c.write-formatted.ensures.writes
    c.new-f.ensures.plain (ap is_ok c.in-Ok-Some.is-0) c.new-f.ensures.writer c.into_inner-writer.ensures c.in-Ok-Some.is-1)

pub returns-in-Ok-None-clause-text : goal.returns-in-Ok-None-clause-text
returns-in-Ok-None-clause-text g c =
    let gone = c.into_inner-writer.result in
    text_written g.W.Tell.log g.W.TellWrite.trace g.P.WriterPolicy.rules g.met.W.TellWrite.trace_none
    g.met.W.TellWrite.trace_joins c.args.writer.now _ tt gone.writer.now
    (went_so g.W.Tell.log g.W.TellWrite.trace g.P.WriterPolicy.rules g.met.W.TellWrite.trace_none
    g.met.W.TellWrite.trace_joins g.B.Began.writer c.args.writer.now gone.writer.now gone.ended None
    c.requires.began c.in-Ok-None.is-1 gone.went)
    (text_taken g.W.Tell.log g.W.TellWrite.trace g.P.WriterPolicy.rules g.met.W.TellWrite.trace_none
    g.met.W.TellWrite.trace_joins (λ x. x.writer.now) (λ x. x.ended) c.new-f.result c.write-formatted.new.self _ gone
    None c.write-formatted.result (g.D.Display.output c.args.text) c.write-formatted.ensures.writes
    c.new-f.ensures.plain (ap is_ok c.in-Ok-None.is-0) c.new-f.ensures.writer c.into_inner-writer.ensures c.in-Ok-None.is-1)
