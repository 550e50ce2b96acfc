-- A new reader has nothing buffered and has moved no byte, so what went and what is left was given since.
use Rattle.piece_reader.specs.PiecesWentLaws.{PiecesWent-given, PiecesWent-moved}
use Rattle.line_play.proofs.since_new.Goals as goal

pub returns-clause-given : goal.returns-clause-given
returns-clause-given g c least most stream first bytes =
    PiecesWent-given g.R.TellRead.remaining g.R.Tell.log least most stream first.pieces.decoder first.pieces
    c.args.reader.now.pieces bytes

pub returns-clause-moved : goal.returns-clause-moved
returns-clause-moved g c least most stream first bytes =
    PiecesWent-moved g.R.TellRead.remaining g.R.Tell.log least most stream first.pieces.decoder first.pieces
    c.args.reader.now.pieces bytes
