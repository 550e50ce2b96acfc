-- What a whole run over pieces comes to.
use Rattle.std.proofs.Common.{◌≡◌, ℕ, ◌⊎◌, List, [], ◌++◌, Option, None, Result, refl, sym, ap, subst, ◌∙◌, append-nil, append_assoc}
use Rattle.buffer_redux.specs.BufReader.{RanDry}
use Rattle.buffer_redux.specs.WriterLaws.{WritesInOrder-fresh}
use Rattle.piece_reader.specs.PieceReader.{rest}
use Rattle.piece_reader.specs.PiecesWentLaws.{drop_none}
use Rattle.forward.specs.Filter.{FilterRules, Moves}
use Rattle.forward.specs.Forward.{Forwarded, ForwardedFirst, Forwards}
use Rattle.forward.specs.ForwardLaws.{Forwards-moves, Forwards-runs}
use Rattle.forward.specs.Link.{Linked}
use Rattle.forward.specs.Prompt.{RunsPromptly}
use Rattle.forward.specs.PromptLaws.{RunsPromptly-such}
use Rattle.forward.specs.Target.{failure_count}
use Rattle.forward.specs.declared.error.Stopped.{Stopped}
use Rattle.programs.specs.Streams.{AllSent}
use Rattle.piece_filter.specs.Pieces.{AnswersAll, HasEnded, IsText, Piecewise, grammar_of, held_of, piece_rules}
use Rattle.piece_filter.specs.PiecesLaws.{given_since, none_held}

-- where nothing is buffered, what is due is that of what is given
pub runs_unread : {T R D X A W E : Type 0} (remaining : R → Option (List ℕ)) (f : Piecewise T R D X A W E) (s t : Linked T)
    (answer : Result ℕ (Stopped E)) → (f.source s.filter).reader.block.bytes ≡ [] → Forwards (piece_rules remaining f) s answer t
    → RunsPromptly (f.due (f.source s.filter).decoder (f.service s.filter)) (failure_count answer)
    (f.source s.filter).reader.log (f.source t.filter).reader.log (f.target s.filter).log (f.target t.filter).log
runs_unread remaining f s t answer unread over =
    let rules = piece_rules remaining f in
    let m = f.source s.filter in
    let due = f.due m.decoder (f.service s.filter) in
    RunsPromptly-such (rules.due s.filter) due
    (λ bytes are is. subst (λ left. due (left ++ bytes) are) (drop_none m.handed m.reader.block.bytes unread) is)
    (Forwards-runs rules s t answer over)

-- neither buffer grew, where none may
pub rooms_kept : {T R D X A W E : Type 0} (remaining : R → Option (List ℕ)) (f : Piecewise T R D X A W E) → ¬ f.grows
    → (s t : Linked T) (answer : Result ℕ (Stopped E)) → Forwards (piece_rules remaining f) s answer t
    → ((f.source t.filter).reader.block.capacity ≡ (f.source s.filter).reader.block.capacity)
    × ((f.target t.filter).block.capacity ≡ (f.target s.filter).block.capacity)
rooms_kept remaining f fixed s t answer over =
    let (handed, taken, moves) = Forwards-moves (piece_rules remaining f) s t answer over in
    (moves.hands.went.capacity, moves.takes.room fixed)

-- from empty buffers on
module _ {T R D X A W E : Type 0} (remaining : R → Option (List ℕ)) (f : Piecewise T R D X A W E) (s t : T)
    (fresh : (piece_rules remaining f).fresh s) (unread : (f.source s).reader.block.bytes ≡ []) where
  abbrev rules : FilterRules T E
  rules = piece_rules remaining f

  -- these payloads were handed out, and what becomes of those was taken in
  pub record Over (handed taken : List (List ℕ)) : Type 0 where
    pub bytes : List ℕ
    pub text : IsText (grammar_of f s) bytes handed (f.source t).ended
    pub given : (f.source t).reader.log.reads.given
        ≡ (f.source s).reader.log.reads.given ++ (bytes ++ rest (f.source t))
    pub reply : List ℕ
    pub answers : AnswersAll f.answers (f.service s) taken reply (f.service t)
    pub received : (f.target t).log.writes.received ++ (f.target t).block.bytes ≡ (f.target s).log.writes.received ++ reply
    pub decoder : (f.source t).decoder ≡ (f.source s).decoder
    pub dry : HasEnded f t → HasEnded f s ⊎ RanDry (f.source s).reader (f.source t).reader

  -- all that was written for these was received
  pub all_received : (handed taken : List (List ℕ)) (over : Over handed taken) → AllSent (f.target t)
      → (f.target t).log.writes.received ≡ (f.target s).log.writes.received ++ over.reply
  all_received handed taken over sent =
      let received = (f.target t).log.writes.received in
      sym (append-nil received) ∙ ap (λ l. received ++ l) (sym sent.empty) ∙ over.received

  over_of : (handed taken : List (List ℕ)) → Moves rules s handed taken t → (all : List (List ℕ))
      → handed ++ held_of f t ≡ all → Over all taken
  over_of handed taken moves all is =
      let hands = moves.hands in
      record {
        bytes = hands.bytes;
        text = subst (λ l. IsText (grammar_of f s) hands.bytes l (f.source t).ended)
            (sym (ap (λ l. l ++ hands.got) (none_held remaining f s fresh.1)) ∙ hands.order ∙ is) hands.text;
        given = given_since (f.source s) (f.source t) hands.bytes unread hands.went.hands;
        reply = moves.takes.reply;
        answers = moves.takes.answers;
        received = WritesInOrder-fresh (f.target s) (f.target t) moves.takes.reply fresh.0 moves.takes.in_order;
        decoder = hands.went.decoder;
        dry = hands.dry;
      }

  module _ (count : ℕ) where
    -- where none is held, just those that went over were handed out
    pub all_over : (p : Forwarded rules count s t) → f.held t ≡ None → Over p.payloads p.payloads
    all_over p none = over_of p.payloads p.payloads p.moves p.payloads
        (ap (λ l. p.payloads ++ l) (none_held remaining f t none) ∙ append-nil p.payloads)

    -- where one is held, it was handed out too; where the writer failed, some may be lost in front of it
    pub over_held : (p : Forwarded rules count s t) → Over (p.payloads ++ held_of f t) p.payloads
    over_held p = over_of p.payloads p.payloads p.moves (p.payloads ++ held_of f t) refl

    pub over_lost : (p : ForwardedFirst rules count s t) → Over (p.payloads ++ (p.lost ++ held_of f t)) p.payloads
    over_lost p = over_of (p.payloads ++ p.lost) p.payloads p.moves (p.payloads ++ (p.lost ++ held_of f t))
        (append_assoc p.payloads p.lost (held_of f t))
