-- How the pieces of a formatted text join.
use Rattle.std.proofs.Common.{◌≡◌, List, ℕ, [], ◌∷◌, ◌++◌, take, drop, Result, Ok, Err, Option, None, Some, refl, sym, ap, subst, ◌∙◌, append_assoc, take-append-drop, T, false, IfSome, inl, inr, append-nil}
use Rattle.std.specs.Prelude.{◌⊎◌, IsOk, is_some}
use Rattle.std.specs.Fmt.{DisplaysOnOk, IsPlainFormatter, formatter_writer}
use Rattle.std.specs.List.{FoldsTo, concat}
use Rattle.std.proofs.lemmas.List.Folds.{concat-append}
use Rattle.std.specs.declared.fmt.Error as fmt
use Rattle.std.specs.declared.fmt.Formatter.{Formatter}
use Rattle.std.specs.declared.io.Error.{Error}
use Rattle.std.proofs.Math.Logic.{∥∥₁_map}
use Rattle.redux_buffer.specs.StreamLog.{StreamLog}
use Rattle.buffer_redux.specs.Policy.{WriteRules}
use Rattle.buffer_redux.specs.Buffered.{Buffered}
use Rattle.buffer_redux.specs.BufWriter.{WritesAlong}
use Rattle.buffer_redux.specs.WriteAll.{WritesAll}
use Rattle.buffer_redux.specs.WriteFmt.{PieceFailed, StoppedIn, TakesOnePiece, TakesPieces, TextWent, WritesEach, WritesPieces, WritesText}
use Rattle.buffer_redux.specs.WritesAlongLaws.{WritesAll-along, WritesAll-took, WritesAlong-joins, WritesAlong-none}
use Rattle.std.specs.IoError.{error_kind}
use Rattle.std.specs.declared.io.ErrorKind.TheVariants.{Uncategorized}

module _ {S P : Type 0} (tells : S → StreamLog) (trace : S → S → Type 0) (rules : WriteRules P)
    (none : (u : S) → trace u u) (joins : (u v w : S) → trace u v → trace v w → trace u w) where
  -- no piece, one, and pieces behind others
  pub pieces_none : (s : Buffered S P) → WritesPieces tells trace rules s [] s
  pieces_none s =
      record { pieces = []; all = refl; each = refl; along = WritesAlong-none tells trace rules none s }

  one_piece : (s : Buffered S P) (piece : List ℕ) (t : Buffered S P)
      → WritesAll tells trace rules s piece (Ok tt) t → WritesPieces tells trace rules s piece t
  one_piece s piece t all = record {
    pieces = piece ∷ [];
    all = append-nil piece;
    each = (t, all, refl);
    along = WritesAll-took tells trace rules s piece tt t all;
  }

  each_joins : (s m t : Buffered S P) (xs ys : List (List ℕ)) → WritesEach tells trace rules s xs m
      → WritesEach tells trace rules m ys t → WritesEach tells trace rules s (xs ++ ys) t
  each_joins s m t [] ys same q = subst (λ u. WritesEach tells trace rules u ys t) (sym same) q
  each_joins s m t (x ∷ xs) ys (u, all, p) q = (u, all, each_joins u m t xs ys p q)

  pub pieces_behind : (s m t : Buffered S P) (a b : List ℕ) → WritesPieces tells trace rules s a m
      → WritesPieces tells trace rules m b t → WritesPieces tells trace rules s (a ++ b) t
  pieces_behind s m t a b p q = record {
    pieces = p.pieces ++ q.pieces;
    all = concat-append p.pieces q.pieces ∙ ap (λ l. l ++ concat q.pieces) p.all ∙ ap (λ l. a ++ l) q.all;
    each = each_joins s m t p.pieces q.pieces p.each q.each;
    along = WritesAlong-joins tells trace rules joins s m t a b p.along q.along;
  }

  -- a piece whose write failed
  stopped : (s : Buffered S P) (piece : List ℕ) (e : Error) (t : Buffered S P)
      → WritesAll tells trace rules s piece (Err e) t → StoppedIn tells trace rules s piece e t
  stopped s piece e t all = record {
    why = record { before = []; last = s; went = pieces_none s; piece = piece; steps = all };
    behind = [];
    piece_of = sym (append-nil piece);
    accepted = take all.count piece;
    more = drop all.count piece;
    all = sym (take-append-drop all.count piece);
    along = WritesAll-along tells trace rules s piece (Err e) t all;
  }

  failed_after : (s m t : Buffered S P) (a : List ℕ) (e : Error) → WritesPieces tells trace rules s a m
      → PieceFailed tells trace rules m e t → PieceFailed tells trace rules s e t
  failed_after s m t a e p q = record {
    before = a ++ q.before;
    last = q.last;
    went = pieces_behind s m q.last a q.before p q.went;
    piece = q.piece;
    steps = q.steps;
  }

  stopped_after : (s m t : Buffered S P) (a b : List ℕ) (e : Error) → WritesPieces tells trace rules s a m
      → StoppedIn tells trace rules m b e t → StoppedIn tells trace rules s (a ++ b) e t
  unfolding failed_after
  stopped_after s m t a b e p q = record {
    why = failed_after s m t a e p q.why;
    behind = q.behind;
    piece_of = ap (λ l. a ++ l) q.piece_of
        ∙ sym (append_assoc a (q.why.before ++ q.why.piece) q.behind)
        ∙ ap (λ l. l ++ q.behind) (sym (append_assoc a q.why.before q.why.piece));
    accepted = a ++ q.accepted;
    more = q.more;
    all = ap (λ l. a ++ l) q.all ∙ sym (append_assoc a q.accepted q.more);
    along = WritesAlong-joins tells trace rules joins s m t a q.accepted p.along q.along;
  }

  stopped_before : (s t : Buffered S P) (a b : List ℕ) (e : Error)
      → StoppedIn tells trace rules s a e t → StoppedIn tells trace rules s (a ++ b) e t
  stopped_before s t a b e p = record {
    why = p.why;
    behind = p.behind ++ b;
    piece_of = ap (λ l. l ++ b) p.piece_of ∙ append_assoc (p.why.before ++ p.why.piece) p.behind b;
    accepted = p.accepted;
    more = p.more ++ b;
    all = ap (λ l. l ++ b) p.all ∙ append_assoc p.accepted p.more b;
    along = p.along;
  }

  -- pieces, and pieces behind them
  pieces_join : (s m t : Buffered S P) (k l n : Option Error) (a b : List ℕ) → TakesPieces tells trace rules s k a m l
      → TakesPieces tells trace rules m l b t n → TakesPieces tells trace rules s k (a ++ b) t n
  pieces_join s m t None None None a b p q = pieces_behind s m t a b p q
  pieces_join s m t None None (Some e) a b p q = stopped_after s m t a b e p q
  pieces_join s m t None (Some e) None a b p q = absurd q
  pieces_join s m t None (Some e) (Some f) a b p q =
      subst (λ u. StoppedIn tells trace rules s (a ++ b) f u) q.1
      (subst (λ x. StoppedIn tells trace rules s (a ++ b) x m) q.0 (stopped_before s m a b e p))
  pieces_join s m t (Some e) None n a b p q = absurd p
  pieces_join s m t (Some e) (Some f) None a b p q = absurd q
  pieces_join s m t (Some e) (Some f) (Some h) a b p q = (p.0 ∙ q.0, p.1 ∙ q.1)

  no_pieces : (s : Buffered S P) (k : Option Error) → TakesPieces tells trace rules s k [] s k
  no_pieces s None = pieces_none s
  no_pieces s (Some e) = (refl, refl)

  -- all pieces, one after another
  pub pieces : {A : Type 0} (writer : A → Buffered S P) (ended : A → Option Error) (parts : List (List ℕ)) (f g : A)
      → FoldsTo (λ x bytes y. TakesPieces tells trace rules (writer x) (ended x) bytes (writer y) (ended y)) f parts g
      → TakesPieces tells trace rules (writer f) (ended f) (concat parts) (writer g) (ended g)
  pieces writer ended [] f g same = subst
      (λ x. TakesPieces tells trace rules (writer f) (ended f) [] (writer x) (ended x)) same
      (no_pieces (writer f) (ended f))
  pieces writer ended (a ∷ parts) f g (m, p, q) = pieces_join (writer f) (writer m) (writer g) (ended f) (ended m) (ended g)
      a (concat parts) p (pieces writer ended parts m g q)

  -- one more piece of a text that went so far
  pub went_piece : (o : Option (Buffered S P)) (k l : Option Error) (m t : Buffered S P) (a : List ℕ)
      → ∥ IfSome o (λ s. TextWent tells trace rules s k m) ∥₁ → TakesOnePiece tells trace rules m k a t l
      → ∥ IfSome o (λ s. TextWent tells trace rules s l t) ∥₁
  went_piece None k l m t a went p = ∣ tt ∣₁
  went_piece (Some s) None None m t a went p =
      ∥∥₁_map went (λ w. (w.0 ++ a, pieces_behind s m t w.0 a w.1 (one_piece m a t p)))
  went_piece (Some s) None (Some e) m t a went p = ∥∥₁_map went (λ w. failed_after s m t w.0 e w.1 (stopped m a e t p).why)
  went_piece (Some s) (Some e) None m t a went p = absurd p
  went_piece (Some s) (Some e) (Some f) m t a went p =
      subst (λ u. ∥ PieceFailed tells trace rules s f u ∥₁) p.1 (subst (λ x. ∥ PieceFailed tells trace rules s x m ∥₁) p.0 went)

  -- a text that went so far lost no byte
  went_along : (s : Buffered S P) (k : Option Error) (t : Buffered S P) → TextWent tells trace rules s k t
      → (accepted : List ℕ) × WritesAlong tells trace rules s accepted t
  went_along s None t w = (w.0, w.1.along)
  went_along s (Some e) t w = let took = take w.steps.count w.piece in (
    w.before ++ took,
    WritesAlong-joins tells trace rules joins s w.last t w.before took w.went.along
        (WritesAll-along tells trace rules w.last w.piece (Err e) t w.steps),
  )

  -- a piece as pieces, and as its write was answered where none had failed
  pub TakesPieces-one : (k l : Option Error) (s t : Buffered S P) (a : List ℕ) → TakesOnePiece tells trace rules s k a t l
      → TakesPieces tells trace rules s k a t l
  TakesPieces-one None None s t a p = one_piece s a t p
  TakesPieces-one None (Some e) s t a p = stopped s a e t p
  TakesPieces-one (Some e) None s t a p = absurd p
  TakesPieces-one (Some e) (Some f) s t a p = p

  pub piece_stopped : (k : Option Error) (s : Buffered S P) (a : List ℕ) (e : Error) (t : Buffered S P)
      → is_some k ≡ false → WritesAll tells trace rules s a (Err e) t → TakesOnePiece tells trace rules s k a t (Some e)
  piece_stopped None s a e t open' p = p
  piece_stopped (Some x) s a e t open' p = absurd (subst T open' tt)

  pub piece_taken : (k : Option Error) (s : Buffered S P) (a : List ℕ) (t : Buffered S P) → is_some k ≡ false
      → WritesAll tells trace rules s a (Ok tt) t → TakesOnePiece tells trace rules s k a t k
  piece_taken None s a t open' p = p
  piece_taken (Some x) s a t open' p = absurd (subst T open' tt)

  -- a text that is known was taken, where the formatting didn't fail
  pub text_taken : {A : Type 0} (writer : A → Buffered S P) (ended : A → Option Error) (f g : Formatter A) (a b : A)
      (k : Option Error) (formatted : Result (Unit {0}) fmt.Error) (text : Option (List ℕ))
      → DisplaysOnOk (λ x bytes y. TakesPieces tells trace rules (writer x) (ended x) bytes (writer y) (ended y))
      f formatted text g
      → IsPlainFormatter f → IsOk formatted → formatter_writer f ≡ a → b ≡ formatter_writer g → ended b ≡ k
      → IfSome text (λ bytes. TakesPieces tells trace rules (writer a) (ended a) bytes (writer b) k)
  text_taken writer ended f g a b k formatted None shown plain ok is gives so = tt
  text_taken writer ended f g a b k formatted (Some bytes) shown plain ok is gives so =
      let wrote = (shown plain ok).wrote in
      subst (λ l. TakesPieces tells trace rules (writer a) (ended a) bytes (writer b) l) so
      (subst (λ x. TakesPieces tells trace rules (writer a) (ended a) bytes (writer x) (ended x)) (sym gives)
      (subst (λ x. TakesPieces tells trace rules (writer x) (ended x) bytes (writer (formatter_writer g))
      (ended (formatter_writer g))) is
      (subst (λ l. TakesPieces tells trace rules (writer (formatter_writer f)) (ended (formatter_writer f)) l
      (writer (formatter_writer g)) (ended (formatter_writer g))) wrote.whole
      (pieces writer ended wrote.parts (formatter_writer f) (formatter_writer g) wrote.calls))))

  -- what went of a text that began so
  pub went_so : (o : Option (Buffered S P)) (s t : Buffered S P) (k l : Option Error) → o ≡ Some s → k ≡ l
      → ∥ IfSome o (λ s. TextWent tells trace rules s k t) ∥₁ → ∥ TextWent tells trace rules s l t ∥₁
  went_so o s t k l began so went = subst (λ n. ∥ TextWent tells trace rules s n t ∥₁) so
      (subst (λ b. ∥ IfSome b (λ s. TextWent tells trace rules s k t) ∥₁) began went)

  -- the formatting failed
  pub text_failed : (s : Buffered S P) (text : Option (List ℕ)) (k : Option Error) (e : Error) (t : Buffered S P)
      → ∥ TextWent tells trace rules s k t ∥₁ → error_kind e ≡ Uncategorized → WritesText tells trace rules s text (Err e) t
  text_failed s text k e t went failed = record {
    along = ∥∥₁_map went (λ w. went_along s k t w);
    went = ∥∥₁_map went (λ w. inl (failed, (k, w)));
    whole = tt;
    beginning = of text;
  }
    where
      of : (text : Option (List ℕ))
          → IfSome text (λ bytes. (error_kind e ≡ Uncategorized) ⊎ StoppedIn tells trace rules s bytes e t)
      of None = tt
      of (Some bytes) = inl failed

  -- the write of a piece failed
  pub text_stopped : (s : Buffered S P) (text : Option (List ℕ)) (e : Error) (t : Buffered S P)
      → ∥ TextWent tells trace rules s (Some e) t ∥₁
      → IfSome text (λ bytes. TakesPieces tells trace rules s None bytes t (Some e))
      → WritesText tells trace rules s text (Err e) t
  text_stopped s text e t went taken = record {
    along = ∥∥₁_map went (λ w. went_along s (Some e) t w);
    went = ∥∥₁_map went (λ w. inr w);
    whole = tt;
    beginning = of text taken;
  }
    where
      of : (text : Option (List ℕ)) → IfSome text (λ bytes. StoppedIn tells trace rules s bytes e t)
          → IfSome text (λ bytes. (error_kind e ≡ Uncategorized) ⊎ StoppedIn tells trace rules s bytes e t)
      of None p = tt
      of (Some bytes) p = inr p

  -- neither the formatting nor the write of a piece failed
  pub text_written : (s : Buffered S P) (text : Option (List ℕ)) (x : Unit {0}) (t : Buffered S P)
      → ∥ TextWent tells trace rules s None t ∥₁
      → IfSome text (λ bytes. TakesPieces tells trace rules s None bytes t None)
      → WritesText tells trace rules s text (Ok x) t
  text_written s text x t went taken =
      record { along = ∥∥₁_map went (λ w. went_along s None t w); went = went; whole = taken; beginning = tt }
