-- While no write has failed, each piece goes on from those before it; the first failed write ends the text.
use Rattle.std.proofs.Common.{ap, ◌∙◌, subst}
use Rattle.std.specs.Prelude.{not}
use Rattle.buffer_redux.proofs.TextPieces.{piece_stopped, piece_taken, went_piece}
use Rattle.buffer_redux.specs.WriteFmt.{TakesOnePiece}
use Rattle.buffer_redux.proofs.buf_writer.text.PiecesWrite.write_str.Goals as goal
use Rattle.buffer_redux.proofs.buf_writer.text.PiecesWrite.write_str.Goals.{After-kept-self, In_default}

stopped : (g : _) (c : goal.After-kept-self g) → TakesOnePiece g.W.Tell.log g.W.TellWrite.trace g.P.WriterPolicy.rules
    c.args.self.now.writer.now c.args.self.now.ended c.args.piece.now c.write_whole.new.self c.kept-self.result
stopped g c = subst (λ l. TakesOnePiece g.W.Tell.log g.W.TellWrite.trace g.P.WriterPolicy.rules c.args.self.now.writer.now
    c.args.self.now.ended l c.write_whole.new.self c.kept-self.result) c.as_bytes.ensures.value
    (rw c.kept-self.ensures (piece_stopped _ _ _ g.met.W.TellWrite.trace_none g.met.W.TellWrite.trace_joins
    c.args.self.now.ended _ _ c.in-Err.e _ (c.is_none.ensures ∙ ap not c.if-is_none.true) c.in-Err.ensures.steps))

taken : (g : _) (c : goal.In_default g) → TakesOnePiece g.W.Tell.log g.W.TellWrite.trace g.P.WriterPolicy.rules
    c.args.self.now.writer.now c.args.self.now.ended c.args.piece.now c.write_whole.new.self c.args.self.now.ended
taken g c = subst (λ l. TakesOnePiece g.W.Tell.log g.W.TellWrite.trace g.P.WriterPolicy.rules c.args.self.now.writer.now
    c.args.self.now.ended l c.write_whole.new.self c.args.self.now.ended) c.as_bytes.ensures.value
    (piece_taken _ _ _ g.met.W.TellWrite.trace_none g.met.W.TellWrite.trace_joins c.args.self.now.ended _ _ _
    (c.is_none.ensures ∙ ap not c.if-is_none.true) c.in_default.ensures.steps)

pub invariant_of-self-clause-went : goal.invariant_of-self-clause-went
invariant_of-self-clause-went g c = went_piece _ _ _ g.met.W.TellWrite.trace_none g.met.W.TellWrite.trace_joins
    g.B.Began.writer _ _ _ _ _ c.args.self.now.went (stopped g c)

pub invariant_of-self-in_default-clause-went : goal.invariant_of-self-in_default-clause-went
invariant_of-self-in_default-clause-went g c = went_piece _ _ _ g.met.W.TellWrite.trace_none g.met.W.TellWrite.trace_joins
    g.B.Began.writer _ _ _ _ _ c.args.self.now.went (taken g c)

pub returns-in-Err-clause-takes : goal.returns-in-Err-clause-takes
returns-in-Err-clause-takes g c = stopped g (goal.at.returns-in-Err-clause-takes g c).After-kept-self

pub returns-in_default-clause-takes : goal.returns-in_default-clause-takes
returns-in_default-clause-takes g c = taken g (goal.at.returns-in_default-clause-takes g c).In_default
