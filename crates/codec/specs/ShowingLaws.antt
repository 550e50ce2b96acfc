-- Laws of pieces whose payloads are shown otherwise.
use Rattle.std.specs.Prelude.{ℕ, List}
use Rattle.std.proofs.Common.{sym, ap, ◌∙◌, refl}
use Rattle.piece_reader.specs.Grammar.{Grammar, IsLawful, IsOpen}
use Rattle.piece_reader.specs.GrammarLaws.{open_as}
use Rattle.codec.specs.Showing.{showing}

module _ {W : Type 0} (show : List ℕ → List ℕ) (g : Grammar W) where
  -- what settles nothing settles nothing however it is shown
  pub open_showing : (bytes : List ℕ) → IsOpen (showing show g) bytes → IsOpen g bytes
  open_showing bytes =
      open_as (showing show g) g bytes (λ piece payload is. (show payload, (payload, is, refl))) (λ e wrong. (e, wrong))

  pub showing_lawful : IsLawful g → IsLawful (showing show g)
  showing_lawful law = record {
    one = λ p q xs ys a b is is' same.
        let parts = law.one p q xs ys is.0 is'.0 is.1 is'.1 same in
        (parts.0, is.2 ∙ ap show parts.1 ∙ sym is'.2);
    some = λ p a is. law.some p is.0 is.1;
    room = law.room;
    apart = λ p a more e is. law.apart p is.0 more e is.1;
    reason = law.reason;
    stays = law.stays;
    nothing = law.nothing;
    one_last = λ bytes a b is is'. is.2 ∙ ap show (law.one_last bytes is.0 is'.0 is.1 is'.1) ∙ sym is'.2;
    end_apart = λ bytes a e is. law.end_apart bytes is.0 e is.1;
  }
