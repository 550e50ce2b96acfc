-- The rest of a body is taken, and its payload appended.
use Rattle.std.proofs.Common.{◌≡◌, ℕ, ◌+◌, ◌<◌, ◌≤◌, List, [], ◌++◌, length, take, Option, Result, Ok, Err, sym, ap, ◌∙◌, arith, append_assoc, append-nil, length-append}
use Rattle.std.proofs.lemmas.List.{length-take-le}
use Rattle.buffer_redux.specs.Policy.{ReadRules}
use Rattle.body_reader.specs.declared.error.BodyError.{BodyError}
use Rattle.body_reader.specs.declared.error.CollectError.{CollectError}
use Rattle.body_reader.specs.declared.error.CollectError.TheVariants.{Body, TooLong, Memory, Refused}
use Rattle.body_reader.specs.BetweenLaws.{StopsFor-after}
use Rattle.body_reader.specs.BodyReader.{BodyState, CollectEnds, Collects, ConsumesPayload, FillsPayload, IsBodyReader}
use Rattle.body_reader.specs.Coding.{Grammar, IsLawful}
use Rattle.body_reader.specs.Taking.{TakenInPieces, filled_gave, fills_here, takes_filled, takes_more, takes_none}

-- so much was collected so far
pub record Collected {S Q C P W : Type 0} (remaining : S → Option (List ℕ)) (rules : ReadRules Q) (g : Grammar P W)
    (Allowed : List ℕ → Type 0) (most : ℕ) (s : BodyState S Q C P) (before : List ℕ) (m : BodyState S Q C P) (all : List ℕ)
    : Type 0 where
  pub payload : List ℕ
  pub taken : TakenInPieces remaining rules g (λ came. Allowed (before ++ came)) s payload m
  pub collected : all ≡ before ++ payload
  pub few : 0 < length payload → length all ≤ most
  pub allowed : Allowed all

pub collected_none : {S Q C P W : Type 0} (remaining : S → Option (List ℕ)) (rules : ReadRules Q) (g : Grammar P W)
    (Allowed : List ℕ → Type 0) (most : ℕ) (s : BodyState S Q C P) (before : List ℕ) → IsBodyReader g s → Allowed before
    → Collected remaining rules g Allowed most s before s before
collected_none remaining rules g Allowed most s before is allowed = record {
  payload = [];
  taken = takes_none remaining rules g (λ came. Allowed (before ++ came)) s is;
  collected = sym (append-nil before);
  few = λ some. omega (arith, some);
  allowed = allowed;
}

module _ {S Q C P W : Type 0} {remaining : S → Option (List ℕ)} {rules : ReadRules Q} (grammar : C → Grammar P W)
    {Allowed : List ℕ → Type 0} {most : ℕ} {s : BodyState S Q C P} {before : List ℕ} {m : BodyState S Q C P} {all : List ℕ}
    (so : Collected remaining rules (grammar s.coding) Allowed most s before m all) where
  lets : Allowed (before ++ so.payload)
  lets = grind arith

  -- a fill ends that
  ends : {n : Result ℕ (BodyError W)} {f : BodyState S Q C P} → FillsPayload remaining rules (grammar m.coding) m n f
      → (answer : Result (Unit {0}) (CollectError W))
      → CollectEnds remaining rules (grammar s.coding) Allowed most s all answer f
      → Collects remaining rules (grammar s.coding) Allowed most s before answer f all
  ends fills answer so_ends = record {
    payload = so.payload;
    takes = takes_filled grammar so.taken fills lets;
    collected = so.collected;
    few = so.few;
    allowed = so.allowed;
    ends = so_ends;
  }

  -- where none came
  pub collects_none : {w : BodyError W} {f : BodyState S Q C P} → FillsPayload remaining rules (grammar m.coding) m (Err w) f
      → Collects remaining rules (grammar s.coding) Allowed most s before (Err (Body w)) f all
  collects_none {w} {f} fills = ends fills (Err (Body w))
      (StopsFor-after _ _ _ s.reader m.reader f.reader so.taken.gave w (fills_here grammar so.taken fills).answers)

  module _ {n : ℕ} {f : BodyState S Q C P} (fills : FillsPayload remaining rules (grammar m.coding) m (Ok n) f) where
    -- or the body ended
    pub collects_all : n ≡ 0 → Collects remaining rules (grammar s.coding) Allowed most s before (Ok tt) f all
    collects_all none =
        ends fills (Ok tt) (filled_gave grammar so.taken fills, (fills_here grammar so.taken fills).answers.2 none)

    module _ (some : 0 < n) where
      known : 0 < f.known
      known = omega (arith, some, fills.answers.0)

      -- or there is too much of it, or no room, or it mayn't be
      pub collects_long : most < length all + n
          → Collects remaining rules (grammar s.coding) Allowed most s before (Err TooLong) f all
      collects_long long =
          ends fills (Err TooLong) (filled_gave grammar so.taken fills, known, omega (arith, long, fills.answers.0))

      module _ (fits : length all + n ≤ most) where
        fits_so : length all + f.known ≤ most
        fits_so = omega (arith, fits, fills.answers.0)

        pub collects_no_room : Collects remaining rules (grammar s.coding) Allowed most s before (Err Memory) f all
        collects_no_room = ends fills (Err Memory) (filled_gave grammar so.taken fills, known, fits_so)

        pub collects_refused : ¬ Allowed (all ++ take f.known f.reader.block.bytes)
            → Collects remaining rules (grammar s.coding) Allowed most s before (Err Refused) f all
        collects_refused refused = ends fills (Err Refused) (filled_gave grammar so.taken fills, known, fits_so, refused)

        -- or it goes on, one piece more
        pub collected_more : IsLawful (grammar s.coding) → (t : BodyState S Q C P)
            → ConsumesPayload remaining rules (grammar f.coding) n f t → Allowed (all ++ take f.known f.reader.block.bytes)
            → Collected remaining rules (grammar s.coding) Allowed most s before t (all ++ take f.known f.reader.block.bytes)
        collected_more lawful t takes allowed = let piece = take f.known f.reader.block.bytes in record {
          payload = so.payload ++ piece;
          taken = takes_more grammar so.taken fills lets some lawful t takes;
          collected = ap (λ l. l ++ piece) so.collected ∙ append_assoc before so.payload piece;
          few = λ _. grind (arith, fits_so, fills_here grammar so.taken fills, length-append, length-take-le);
          allowed = allowed;
        }
