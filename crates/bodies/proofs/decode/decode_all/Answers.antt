-- From empty buffers on, what `forward` says of payloads is what the two logs say of the body and its payload.
use Rattle.std.proofs.Common.{◌∙◌, arith, sym}
use Rattle.programs.specs.OutcomeLaws.{Returns-count, Returns-says}
use Rattle.bodies.specs.Words.{begun-is, chunked, chunked_lawful, Forwards-runs}
use Rattle.bodies.specs.Decode.{DecodeRan}
use Rattle.bodies.specs.Decoding.{decoding_rules}
use Rattle.bodies.proofs.DecodeRuns.{ended, start, stopped}
use Rattle.bodies.proofs.decode.decode_all.Goals as goal

pub forward-answer-requires-clause-ready : goal.forward-answer-requires-clause-ready
forward-answer-requires-clause-ready g c =
    let a = c.args in
    rw (c.new-link.ensures, c.new.ensures.begun) (record {
      capacity = omega (arith, c.requires.source.capacity);
      whole = begun-is (chunked a.limits) (chunked_lawful a.limits) a.source (record { 0 = a.limits })
          (omega (arith, c.requires.source.capacity));
      target = c.requires.target;
      room = sym a.piece.ok.0 ∙ c.requires.room;
      held = omega arith;
    })

pub returns-clause-decodes : goal.returns-clause-decodes
returns-clause-decodes g c =
    let remaining = g.R.TellRead.remaining in
    let rules = decoding_rules {W = g.row.W.Denot} remaining in
    let a = c.args in
    let first = start a.limits a.source a.target a.piece in
    let t = c.forward-answer.new.link.filter in
    let over = rw (c.new-link.ensures, c.new.ensures.begun) at c.forward-answer.ensures.forwards in
    rw (c.into_inner_torn.ensures, c.into_inner-body.ensures) (record {
      ran = Returns-says rules first t (DecodeRan a.limits a.source.log t.source.reader.log a.target.log t.target.log)
          (ended remaining a.limits a.source a.target a.piece c.requires.source.bytes c.requires.empty t over.ready)
          (stopped remaining a.limits a.source a.target a.piece c.requires.source.bytes c.requires.empty t over.ready)
          c.forward-answer.result c.outcome.result c.outcome.ensures over.answers;
      promptly = rw (Returns-count c.forward-answer.result c.outcome.result c.outcome.ensures)
          at (Forwards-runs rules _ c.forward-answer.new.link c.forward-answer.result over);
    })
