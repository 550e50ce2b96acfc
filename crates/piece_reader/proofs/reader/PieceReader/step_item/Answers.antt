-- Calls hand out one list of bytes, so those at the buffer's front are the piece, and say its item.
use Rattle.std.proofs.Common.{◌-◌, Err, None, Ok, Some, ap, drop, subst, take, ◌∙◌}
use Rattle.buffer_redux.specs.Unbuffer.{HandsOutInOrder}
use Rattle.buffer_redux.specs.UnbufferLaws.{HandsOutInOrder-same}
use Rattle.piece_reader.specs.NextPiece.{NextPiece, load_answer}
use Rattle.piece_reader.specs.NextPieceLaws.{NextPiece-kept}
use Rattle.piece_reader.specs.PieceReader.{left_of}
use Rattle.piece_reader.proofs.Lending.{lends_piece}
use Rattle.piece_reader.proofs.Loading.{next_looked}
use Rattle.piece_reader.proofs.Looking.{looks_on}
use Rattle.piece_reader.proofs.Saying.{loaded_front, loaded_next, part_front, says_piece, whole_front, whole_piece, wrong_now}
use Rattle.piece_reader.proofs.reader.PieceReader.step_item.Goals as goal

pub said-item-requires-clause-whole : goal.said-item-requires-clause-whole
said-item-requires-clause-whole g c =
    whole_piece g.D.Decoder.grammar c.args.self.now c.take.new.self c.self.inside.handed c.in-Piece.span c.in-Piece.field-1
    (ap (λ x. x.handed) c.self.view_is) c.in-Piece.ensures.takes

pub said-item-requires-in-Ok-Some-clause-whole : goal.said-item-requires-in-Ok-Some-clause-whole
said-item-requires-in-Ok-Some-clause-whole g c =
    let found = c.in-Ok-Some.is ∙ ap (λ x. Ok x) c.in-Ok-Some.field-0-is in
    whole_front g.D.Decoder.grammar c.take.new.self c.load_apart.new.self g.R.TellRead.remaining _
    (loaded_next g.D.Decoder.grammar c.take.new.self c.load_apart.new.self g.R.TellRead.remaining c.load_apart.result
    c.in-Ok-Some.span found c.load_apart.ensures.next)
    (loaded_front c.take.new.self c.load_apart.new.self c.load_apart.result c.in-Ok-Some.span found
    c.load_apart.ensures.front)

pub returns-in-Piece-clause-next : goal.returns-in-Piece-clause-next
returns-in-Piece-clause-next g c =
    let s = c.args.self.now in
    says_piece g.R.TellRead.remaining g.D.Decoder.grammar g.D.Items.item_of s c.take.new.self
    (g.met.D.Decoder.lawful s.decoder) c.take.ensures.before c.take.ensures.whole c.self.inside.handed
    (ap (λ x. x.handed) c.self.view_is) c.in-Piece.span c.in-Piece.field-1 c.in-Piece.ensures.takes _ c.said-item.ensures

pub returns-in-Piece-clause-lends : goal.returns-in-Piece-clause-lends
returns-in-Piece-clause-lends g c =
    lends_piece g.D.Decoder.grammar c.args.self.now c.take.new.self c.self.inside.handed (ap (λ x. x.handed) c.self.view_is)
    c.take.ensures.whole c.in-Piece.span c.in-Piece.field-1 c.in-Piece.ensures.takes

pub returns-in-Ok-Some-clause-next : goal.returns-in-Ok-Some-clause-next
returns-in-Ok-Some-clause-next g c =
    let remaining = g.R.TellRead.remaining in
    let s = c.args.self.now in
    let m = c.take.new.self in
    let t = c.load_apart.new.self in
    let wants = c.in-More.ensures.takes in
    let found = c.in-Ok-Some.is ∙ ap (λ x. Ok x) c.in-Ok-Some.field-0-is in
    let next = next_looked remaining g.D.Decoder.grammar s m t c.in-More.need
    (load_answer (Ok (Some c.in-Ok-Some.span)) t) c.take.ensures.before wants
    (loaded_next g.D.Decoder.grammar m t remaining c.load_apart.result c.in-Ok-Some.span found c.load_apart.ensures.next)
    in
    let front = loaded_front m t c.load_apart.result c.in-Ok-Some.span found c.load_apart.ensures.front in
    let hands = subst (λ u. HandsOutInOrder u (take t.handed t.reader.block.bytes) (left_of t)) (ap (λ x. left_of x) wants.3)
    front in
    let bytes = part_front t ∙ HandsOutInOrder-same (left_of s) (left_of t) (take t.handed t.reader.block.bytes) next.bytes
    hands next.went.hands in
    record {
      next = next;
      says = c.said-item-in-Ok-Some.ensures
          ∙ ap (λ d. g.D.Items.item_of d (take (t.handed - 0) (drop 0 t.reader.block.bytes))) next.went.decoder
          ∙ ap (g.D.Items.item_of s.decoder) bytes;
    }

pub returns-in-Ok-None : goal.returns-in-Ok-None
returns-in-Ok-None g c =
    let remaining = g.R.TellRead.remaining in
    let s = c.args.self.now in
    let m = c.take.new.self in
    let t = c.load_apart.new.self in
    record {
      lends = tt;
      kept = tt;
      looked = looks_on _ s m t c.in-More.need c.in-More.ensures.looks c.in-More.ensures.takes.3
          c.load_apart.ensures.looked;
      next = record {
        next = next_looked remaining g.D.Decoder.grammar s m t c.in-More.need (Ok None) c.take.ensures.before
            c.in-More.ensures.takes
            (subst (λ r. NextPiece remaining (g.D.Decoder.grammar m.decoder) m (load_answer r t) t)
            (c.in-Ok-None.is ∙ ap (λ x. Ok x) c.in-Ok-None.field-0-is) c.load_apart.ensures.next);
        says = tt;
      };
    }

pub returns-in-Err : goal.returns-in-Err
returns-in-Err g c =
    let remaining = g.R.TellRead.remaining in
    let s = c.args.self.now in
    let m = c.take.new.self in
    let t = c.load_apart.new.self in
    let next = next_looked remaining g.D.Decoder.grammar s m t c.in-More.need (Err c.in-Err.e) c.take.ensures.before
    c.in-More.ensures.takes
    (subst (λ r. NextPiece remaining (g.D.Decoder.grammar m.decoder) m (load_answer r t) t) c.in-Err.is
    c.load_apart.ensures.next) in
    record {
      lends = tt;
      kept = NextPiece-kept remaining (g.D.Decoder.grammar s.decoder) s t (Err c.in-Err.e) next;
      looked = looks_on _ s m t c.in-More.need c.in-More.ensures.looks c.in-More.ensures.takes.3
          c.load_apart.ensures.looked;
      next = record { next = next; says = tt };
    }

pub returns-in-Wrong-clause-next : goal.returns-in-Wrong-clause-next
returns-in-Wrong-clause-next g c =
    let s = c.args.self.now in
    record {
      next = wrong_now g.R.TellRead.remaining (g.D.Decoder.grammar s.decoder) (g.met.D.Decoder.lawful s.decoder) s c.take.new.self
          c.in-Wrong.e c.in-Wrong.ensures.takes.0 c.in-Wrong.ensures.takes.1 c.take.ensures.before;
      says = tt;
    }

pub returns-in-Ok-Some-clause-looked : goal.returns-in-Ok-Some-clause-looked
returns-in-Ok-Some-clause-looked g c =
    looks_on _ c.args.self.now c.take.new.self c.load_apart.new.self c.in-More.need c.in-More.ensures.looks
    c.in-More.ensures.takes.3 c.load_apart.ensures.looked
