-- To hold a buffered piece hands nothing out, so what is said of one that is held is said from before it too.
use Rattle.piece_filter.proofs.Calls.{none_passes, passes_behind}
use Rattle.piece_filter.proofs.answering.AnsweringFilter.pass.Goals as goal

pub returns-in-Some-step_buffered : goal.returns-in-Some-step_buffered
returns-in-Some-step_buffered g c =
    let m = c.step_buffered.new.self in
    let next = c.in-Some-step_buffered.ensures in
    passes_behind g.R.TellRead.remaining g.D.Decoder.grammar g.S.Answer.answers c.requires c.in_default.is m
    c.in-Some-step_buffered.span next.lends next.next.0 next.next.1 c.pass_held-in-Some-step_buffered.new.filter
    c.pass_held-in-Some-step_buffered.result c.pass_held-in-Some-step_buffered.ensures

pub returns-in-None : goal.returns-in-None
returns-in-None g c =
    let m = c.step_buffered.new.self in
    none_passes g.R.TellRead.remaining g.D.Decoder.grammar g.S.Answer.answers c.requires c.in_default.is m
    c.in-None.ensures.next.0 c.in-None.ensures.next.1
