-- From empty buffers on, what `forward` says of payloads is what the two logs say of frames and lines.
use Rattle.std.proofs.Common.{[], None, refl, subst, ◌∙◌}
use Rattle.forward.specs.Forward.{Forwards}
use Rattle.piece_filter.specs.PieceRuns.{rooms_kept, runs_unread}
use Rattle.piece_filter.specs.Pieces.{piece_rules}
use Rattle.programs.specs.OutcomeLaws.{Returns-count}
use Rattle.frames.specs.Unpacking.{unpacking}
use Rattle.frames.specs.declared.unpacking.Unpacking.{Unpacking}
use Rattle.frames.proofs.Unpacks.{unpacked_all}
use Rattle.frames.proofs.unpack.unpack_all.Goals as goal

pub returns : goal.returns
returns g c =
    let remaining = g.R.TellRead.remaining in
    let rules = piece_rules remaining (unpacking {W = g.row.W.Denot}) in
    let first : Unpacking g.row.R.Denot g.row.W.Denot =
    record { source = c.args.source; target = c.args.target; held = None } in
    let t = c.forward-answer.new.link in
    let answer = c.forward-answer.result in
    let over = subst (λ k. Forwards rules k answer t) c.new-link.ensures c.forward-answer.ensures.forwards in
    let rooms = rooms_kept remaining unpacking (λ grows. grows) (record { filter = first; states = [] }) t answer over in
    rw c.into_inner-source.ensures (record {
      read_room = rooms.0;
      write_room = rooms.1;
      unpacks = record {
        ran = unpacked_all remaining first t.filter (c.requires.empty, refl) c.requires.nothing c.requires.reads.told
            (rooms.0 ∙ c.requires.read) over.ready answer c.outcome.result c.outcome.ensures over.answers;
        promptly = rw (Returns-count answer c.outcome.result c.outcome.ensures)
            at (runs_unread remaining unpacking (record { filter = first; states = [] }) t answer c.requires.nothing over);
      };
    })
