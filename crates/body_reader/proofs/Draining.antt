-- The rest of a body is taken, and its payload dropped.
use Rattle.std.proofs.Common.{◌≡◌, ℕ, ◌^◌, ◌-◌, ◌+◌, ◌<◌, ◌≤◌, List, ◌++◌, length, take, Option, Ok, Err, arith, inl, inr, refl, length-append}
use Rattle.std.proofs.lemmas.List.{length-take-le}
use Rattle.std.specs.IoError.{error_kind}
use Rattle.std.specs.Prelude.{⊤}
use Rattle.std.specs.declared.io.Error.{Error}
use Rattle.std.specs.declared.io.ErrorKind.TheVariants.{Other}
use Rattle.buffer_redux.specs.Policy.{ReadRules}
use Rattle.body_reader.specs.declared.error.BodyError.{BodyError}
use Rattle.body_reader.specs.declared.error.BodyError.TheVariants.{Io}
use Rattle.body_reader.specs.BetweenLaws.{StopsFor-after}
use Rattle.body_reader.specs.BodyReader.{BodyState, ConsumesPayload, Drains, FillsPayload}
use Rattle.body_reader.specs.Coding.{Grammar, IsLawful}
use Rattle.body_reader.specs.Taking.{TakenInPieces, filled_gave, fills_here, takes_filled, takes_more, takes_to}

-- this much was dropped so far, in so many pieces
pub record Dropped {S Q C P W : Type 0} (remaining : S → Option (List ℕ)) (rules : ReadRules Q) (g : Grammar P W)
    (s : BodyState S Q C P) (count : ℕ) (m : BodyState S Q C P) : Type 0 where
  pub payload : List ℕ
  pub taken : TakenInPieces remaining rules g (λ _. ⊤) s payload m
  pub many : count ≤ length payload

module _ {S Q C P W : Type 0} {remaining : S → Option (List ℕ)} {rules : ReadRules Q} (grammar : C → Grammar P W)
    {s : BodyState S Q C P} {count : ℕ} {m : BodyState S Q C P} (so : Dropped remaining rules (grammar s.coding) s count m) where
  abbrev g : Grammar P W
  g = grammar s.coding

  -- the body ended
  pub drained : {f : BodyState S Q C P} → FillsPayload remaining rules (grammar m.coding) m (Ok 0) f
      → Drains remaining rules g s (Ok tt) f
  drained fills = record {
    payload = so.payload;
    takes = takes_filled grammar so.taken fills tt;
    answers = (filled_gave grammar so.taken fills, (fills_here grammar so.taken fills).answers.2 refl);
  }

  -- or not
  pub not_drained : {e : BodyError W} {f : BodyState S Q C P} → FillsPayload remaining rules (grammar m.coding) m (Err e) f
      → Drains remaining rules g s (Err e) f
  not_drained {e} {f} fills = record {
    payload = so.payload;
    takes = takes_filled grammar so.taken fills tt;
    answers = inl (StopsFor-after _ _ _ s.reader m.reader f.reader so.taken.gave e (fills_here grammar so.taken fills).answers);
  }

  pub too_many : {e : Error} → error_kind e ≡ Other → 2 ^ 64 - 1 ≤ count → Drains remaining rules g s (Err (Io e)) m
  too_many {e} kind many = record {
    payload = so.payload;
    takes = takes_to remaining rules g (λ _. ⊤) so.taken;
    answers = inr (e, refl, kind, omega (arith, many, so.many), so.taken.gave);
  }

  -- one piece more
  pub dropped_more : {n : ℕ} {f : BodyState S Q C P} → FillsPayload remaining rules (grammar m.coding) m (Ok n) f → 0 < n
      → IsLawful g → (t : BodyState S Q C P) → ConsumesPayload remaining rules (grammar f.coding) n f t
      → Dropped remaining rules g s (count + 1) t
  dropped_more {n} {f} fills some lawful t takes = record {
    payload = so.payload ++ take f.known f.reader.block.bytes;
    taken = takes_more grammar so.taken fills tt some lawful t takes;
    many = grind (arith, fills_here grammar so.taken fills, length-append, length-take-le);
  }
