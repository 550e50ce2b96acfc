-- The writer's flush answers, and leaves the kind and the capacity of its buffer as they were.
use Rattle.std.proofs.Common.{refl}
use Rattle.piece_filter.specs.PiecesCalls.{flushed}
use Rattle.frames.specs.Unpacking.{unpacking}
use Rattle.frames.proofs.Unpacks.{frames_on}
use Rattle.frames.proofs.unpacking.UnpackingFilter.flush.Goals as goal

pub returns : goal.returns
returns g c =
    let t = record c.args.self.now { target = c.flush.new.self } in
    let sent = c.flush.ensures.flushed in
    let frames = c.requires.also in
    flushed g.R.TellRead.remaining unpacking c.requires t refl
    (frames_on c.args.self.now t frames refl frames.told sent.kind sent.capacity)
    refl refl _ _ (λ drops. absurd drops) c.flush.result sent (λ all. all)
