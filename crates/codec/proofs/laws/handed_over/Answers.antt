-- The second reader has left what the first one had, so what both hand out joins.
use Rattle.std.proofs.Common.{◌≡◌, rules}
use Rattle.piece_reader.specs.PiecesWentLaws.{PiecesWent-then}
use Rattle.piece_reader.specs.PieceReader.{left_of}
use Rattle.codec.proofs.Handover.{on_ok}
use Rattle.codec.proofs.laws.handed_over.Goals as goal

pub returns-clause-over : goal.returns-clause-over
returns-clause-over g c = on_ok _ _ (λ next is. (_, _, c.into_inner_with_buffer-inner.ensures.apart, is)) c.with_buffer.result
    c.with_buffer.ensures.made

pub returns-clause-went : goal.returns-clause-went
returns-clause-went g c =
    on_ok (λ next. left_of next ≡ left_of c.args.reader) _
    (λ next same most more first last bytes later p q.
    PiecesWent-then g.R.TellRead.remaining most more first c.args.reader next last bytes later p same q) c.with_buffer.result
    (search rules)
