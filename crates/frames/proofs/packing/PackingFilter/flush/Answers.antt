-- The writer's flush answers, and leaves the limits of lines and frames as they were.
use Rattle.std.proofs.Common.{refl}
use Rattle.piece_filter.specs.PiecesCalls.{flushed}
use Rattle.frames.specs.Packing.{packing}
use Rattle.frames.proofs.Packs.{lines_on}
use Rattle.frames.proofs.packing.PackingFilter.flush.Goals as goal

pub returns : goal.returns
returns g c =
    let t = record c.args.self.now { target = c.flush.new.self } in
    let also = c.requires.also in
    let lines = lines_on c.args.self.now t also refl c.flush.ensures.went.encoder also.open' also.fits in
    flushed g.R.TellRead.remaining packing c.requires t refl lines refl refl _ _
    (λ drops. absurd drops) c.flush.result c.flush.ensures.flushed (λ all. all)
