-- Runs of a reader and of a writer go on by one step.
use Rattle.std.proofs.Common.{List, [], ◌∷◌, ◌++◌, refl, sym, subst}
use Rattle.redux_play.specs.PlayRoom.{Runs}

module _ {T Call Answer : Type 0} (step : T → Call → Answer → T → Type 0) where
  pub Runs-more : (s : T) (calls : List Call) (answers : List Answer) (m : T) (call : Call) (answer : Answer) (t : T)
      → Runs step s calls answers m → step m call answer t → Runs step s (calls ++ call ∷ []) (answers ++ answer ∷ []) t
  Runs-more s [] [] m call answer t e one = (t, subst (λ x. step x call answer t) (sym e) one, refl)
  Runs-more s [] (a ∷ answers) m call answer t e one = absurd e
  Runs-more s (c ∷ calls) [] m call answer t e one = absurd e
  Runs-more s (c ∷ calls) (a ∷ answers) m call answer t h one =
      (h.0, h.1, Runs-more h.0 calls answers m call answer t h.2 one)
