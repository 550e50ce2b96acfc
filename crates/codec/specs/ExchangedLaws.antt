-- How exchanges join, and what holds along a conversation.
use Rattle.std.specs.Prelude.{◌≡◌, ℕ, List, [], ◌∷◌, ◌++◌, Bool, true, Option}
use Rattle.std.proofs.lemmas.List.Elements.{All-append, All-nil}
use Rattle.std.proofs.Common.{ap, append-nil, append_assoc, refl, subst, sym, ◌∙◌}
use Rattle.buffer_redux.specs.BufWriter.{WritesAlong}
use Rattle.buffer_redux.specs.Policy.{std_write_rules}
use Rattle.buffer_redux.specs.StreamLog.{StreamLog}
use Rattle.buffer_redux.specs.WritesAlongLaws.{WritesAlong-joins, WritesAlong-none}
use Rattle.piece_reader.specs.Grammar.{Grammar}
use Rattle.piece_reader.specs.NextPiece.{PiecesWent}
use Rattle.piece_reader.specs.PiecesWentLaws.{PiecesWent-joins, PiecesWent-none}
use Rattle.codec.specs.Serving.{Converses, Exchange, Exchanged, IsWholeExchange, Server, joined_parts}

pub joined_parts-joins : (part : Exchange → List ℕ) (earlier later : List Exchange)
    → joined_parts part (later ++ earlier) ≡ joined_parts part earlier ++ joined_parts part later
joined_parts-joins part earlier [] = sym (append-nil (joined_parts part earlier))
joined_parts-joins part earlier (x ∷ later) = ap (λ l. l ++ part x) (joined_parts-joins part earlier later)
    ∙ append_assoc (joined_parts part earlier) (joined_parts part later) (part x)

module _ {A I : Type 0} (item_of : List ℕ → I) (Answers : A → I → List ℕ → List ℕ → Bool → A → Type 0) where
  -- one conversation behind another
  pub Converses-joins : (a b c : A) (earlier later : List Exchange) (more : Bool)
      → Converses item_of Answers a earlier true b → Converses item_of Answers b later more c
      → Converses item_of Answers a (later ++ earlier) more c
  Converses-joins a b c earlier [] more first (same, is) =
      subst (λ m. Converses item_of Answers a earlier m c) (sym is)
      (subst (λ x. Converses item_of Answers a earlier true x) same first)
  Converses-joins a b c earlier (x ∷ later) more first (between, talked, says) =
      (between, Converses-joins a b between earlier later true first talked, says)

  -- what each answer keeps holds behind all of them
  pub Converses-keeps : (Holds : A → Type 0)
      → ((a : A) (x : Exchange) (more : Bool) (b : A) → Answers a (item_of x.bytes) x.payload x.reply more b → Holds a → Holds b)
      → (a b : A) (exchanges : List Exchange) (more : Bool) → Converses item_of Answers a exchanges more b → Holds a → Holds b
  Converses-keeps Holds keeps a b [] more (same, is) h = subst Holds same h
  Converses-keeps Holds keeps a b (x ∷ earlier) more (between, talked, says) h =
      keeps between x more b says (Converses-keeps Holds keeps a between earlier true talked h)

module _ {S D W I A T P : Type 0} (remaining : S → Option (List ℕ)) (tells : T → StreamLog) (trace : T → T → Type 0)
    (g : Grammar W) (item_of : List ℕ → I) (Answers : A → I → List ℕ → List ℕ → Bool → A → Type 0) where
  pub Exchanged-none : ((u : T) → trace u u) → (s : Server S D A T P)
      → Exchanged remaining tells trace g item_of Answers s [] true s
  Exchanged-none none s = record {
    pieces = All-nil (IsWholeExchange g);
    taken = PiecesWent-none remaining g.most s.pieces;
    service = (refl, refl);
    along = WritesAlong-none tells trace std_write_rules none s.answers;
  }

  pub Exchanged-joins : ((u v w : T) → trace u v → trace v w → trace u w) → (s m t : Server S D A T P)
      (earlier later : List Exchange) (more : Bool)
      → Exchanged remaining tells trace g item_of Answers s earlier true m
      → Exchanged remaining tells trace g item_of Answers m later more t
      → Exchanged remaining tells trace g item_of Answers s (later ++ earlier) more t
  Exchanged-joins joins s m t earlier later more a b = record {
    pieces = All-append (IsWholeExchange g) later earlier b.pieces a.pieces;
    taken = subst (λ l. PiecesWent remaining g.most s.pieces l t.pieces) (sym (joined_parts-joins (λ x. x.bytes) earlier later))
        (PiecesWent-joins remaining g.most s.pieces m.pieces t.pieces _ _ a.taken b.taken);
    service = Converses-joins item_of Answers s.service m.service t.service earlier later more a.service b.service;
    along = subst (λ l. WritesAlong tells trace std_write_rules s.answers l t.answers)
        (sym (joined_parts-joins (λ x. x.reply) earlier later))
        (WritesAlong-joins tells trace std_write_rules joins s.answers m.answers t.answers _ _ a.along b.along);
  }
