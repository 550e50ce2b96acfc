-- Laws of pieces that several bytes end.
use Rattle.std.specs.Prelude.{ℕ, ◌+◌, ◌<◌, List, [], ◌++◌, length}
use Rattle.std.proofs.Common.{sym, ap, subst, ◌∙◌, append-nil, append_assoc, arith, length-append}
use Rattle.memchr.specs.Find.{Nowhere, OccursAt}
use Rattle.buffer_redux.specs.OccursLaws.{OccursAt-last, OccursAt-more, OccursAt-one, OccursAt-self}
use Rattle.piece_reader.specs.Grammar.{IsLawful, IsOpen}
use Rattle.piece_reader.specs.Terminated.{NeverEnds, terminated}

module _ (end : List ℕ) (max : ℕ) where
  -- behind the payload of a piece stands the end, whatever comes behind that
  pub ends_there : (p a more : List ℕ) → (terminated end max).piece p a → OccursAt (p ++ more) end (length a)
  ends_there p a more is = OccursAt-more p more end (length a)
      (subst (λ l. OccursAt l end (length a)) (sym is.0) (OccursAt-last a end))

  -- where the end stands nowhere, and may come, nothing is settled
  pub terminated_open : (bytes : List ℕ) → ¬ (NeverEnds end (max + 1) bytes) → ((k : ℕ) → ¬ OccursAt bytes end k)
      → IsOpen (terminated end max) bytes
  terminated_open bytes may none = record {
    no_piece = λ b. none (length b.payload)
        (subst (λ l. OccursAt l end (length b.payload)) (sym b.equal) (ends_there b.piece b.payload b.more b.is));
    not_wrong = λ e wrong. may wrong.0;
  }

  pub terminated_lawful : 0 < length end → IsLawful (terminated end max)
  terminated_lawful some = record {
    one = λ p q xs ys a b is is' same. OccursAt-one end p q a b xs ys is.0 is.2 is'.0 is'.2 same;
    some = λ p a is. omega (arith, some, ap length is.0, length-append a end);
    room = omega (arith, some);
    apart = λ p a more e is wrong.
        wrong.0 [] (length a) (omega arith) (omega (arith, is.1)) (subst (λ l. OccursAt l end (length a))
        (sym (append-nil (p ++ more))) (ends_there p a more is));
    reason = λ bytes e e' wrong wrong'. wrong.1 ∙ sym wrong'.1;
    stays = λ bytes more e wrong. (
      λ later. subst (λ l. Nowhere (OccursAt l end) 0 (max + 1)) (sym (append_assoc bytes more later))
          (wrong.0 (more ++ later)),
      wrong.1,
    );
    nothing = λ e wrong. wrong.0 end 0 (omega arith) (omega arith) (OccursAt-self end);
    one_last = λ bytes a b is is'. is.0 ∙ sym is'.0;
    end_apart = λ bytes a e is cut. omega (arith, is.1, cut.0);
  }
