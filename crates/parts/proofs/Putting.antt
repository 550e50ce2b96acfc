-- The text of a part, piece by piece.
use Rattle.std.proofs.Common.{◌≡◌, ℕ, ◌+◌, ◌<◌, ◌≤◌, List, [], ◌++◌, length, take, Option, Result, Ok, Err, refl, ap, ◌∙◌, arith, length-append}
use Rattle.std.proofs.lemmas.List.{length-take-le}
use Rattle.std.specs.Prelude.{⊤}
use Rattle.body_reader.specs.declared.error.BodyError.{BodyError}
use Rattle.body_reader.specs.BetweenLaws.{StopsFor-after}
use Rattle.body_reader.specs.BodyReader.{ConsumesPayload, FillsPayload, IsBodyReader}
use Rattle.body_reader.specs.JustOrUntilLaws.{just_or_until_lawful}
use Rattle.body_reader.specs.Taking.{TakenInPieces, filled_gave, fills_here, takes_filled, takes_more, takes_none}
use Rattle.buffer_redux.specs.Policy.{std_read_rules}
use Rattle.buffer_redux.specs.declared.policy.StdPolicy.{StdPolicy}
use Rattle.multipart.specs.Multipart.{FormState, codes}
use Rattle.multipart.specs.declared.reader.Stand.TheVariants.{Part}
use Rattle.parts.specs.Sections.{TextEnds, TextFails, TookText}
use Rattle.parts.specs.declared.error.RunError.TheVariants.{Body}

abbrev Form : Type 0 → Type 0
Form S = FormState S StdPolicy

module _ {S : Type 0} (remaining : S → Option (List ℕ)) where
  -- so many pieces were taken, of a byte at least
  pub record TextSoFar (s : Form S) (count : ℕ) (payload : List ℕ) (t : Form S) : Type 0 where
    pub within : t ≡ record s { body = t.body }
    pub taken : TakenInPieces remaining std_read_rules (codes s.body.coding) (λ _. ⊤) s.body payload t.body
    pub stands : t.stand ≡ Part
    pub pieces : count ≤ length payload

  pub text_none : (s : Form S) → s.stand ≡ Part → IsBodyReader (codes s.body.coding) s.body → TextSoFar s 0 [] s
  text_none s stands is = record {
    within = refl;
    taken = takes_none remaining std_read_rules (codes s.body.coding) (λ _. ⊤) s.body is;
    stands = stands;
    pieces = omega arith;
  }

  module _ {s m : Form S} {count : ℕ} {payload : List ℕ} (so : TextSoFar s count payload m) where
    pub text_took : TookText remaining s payload m
    text_took = record { within = so.within; went = so.taken.went }

    -- a fill
    module _ {answer : Result ℕ (BodyError (Unit {0}))} {f : Form S} (within : f ≡ record m { body = f.body })
        (fills : m.stand ≡ Part → FillsPayload remaining std_read_rules (codes m.body.coding) m.body answer f.body) where
      pub text_filled : TookText remaining s payload f
      text_filled = record {
        within = within ∙ ap {A = Form S} (λ x. record x { body = f.body }) so.within;
        went = (takes_filled codes so.taken (fills so.stands) tt).went;
      }

    -- that showed nothing
    pub text_fails : {w : BodyError (Unit {0})} {f : Form S} → f ≡ record m { body = f.body }
        → (m.stand ≡ Part → FillsPayload remaining std_read_rules (codes m.body.coding) m.body (Err w) f.body)
        → TextFails s payload (Body w) f
    text_fails {w} {f} within fills = StopsFor-after _ _ _ s.body.reader m.body.reader f.body.reader so.taken.gave w
        (fills_here codes so.taken (fills so.stands)).answers

    module _ {n : ℕ} {f : Form S} (within : f ≡ record m { body = f.body })
        (fills : m.stand ≡ Part → FillsPayload remaining std_read_rules (codes m.body.coding) m.body (Ok n) f.body) where
      pub text_ends : {A : Type 0} (x : A) → n ≡ 0 → TextEnds s payload (Ok x) f
      text_ends x none = (
        (fills_here codes so.taken (fills so.stands)).answers.2 none,
        filled_gave codes so.taken (fills so.stands),
      )

      -- or some, which was consumed
      pub text_more : {t : Form S} → 0 < n → t ≡ record f { body = t.body }
          → (f.stand ≡ Part → ConsumesPayload remaining std_read_rules (codes f.body.coding) n f.body t.body)
          → TextSoFar s (count + 1) (payload ++ take f.body.known f.body.reader.block.bytes) t
      text_more {t} some within' takes =
          let stands : f.stand ≡ Part = ap (λ x. x.stand) within ∙ so.stands in
          let c = s.body.coding in
          record {
            within = within' ∙ ap {A = Form S} (λ x. record x { body = t.body }) (text_filled within fills).within;
            taken = takes_more codes so.taken (fills so.stands) tt some
                (just_or_until_lawful c.just.items c.until.delimiter c.room c.some c.shorter c.fits) t.body (takes stands);
            stands = ap (λ x. x.stand) within' ∙ stands;
            pieces = omega (
              arith,
              so.pieces,
              some,
              (fills so.stands).answers.0,
              length-append payload (take f.body.known f.body.reader.block.bytes),
              length-take-le f.body.known f.body.reader.block.bytes (fills so.stands).whole.known.0,
            );
          }
