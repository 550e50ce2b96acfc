-- Pieces of payload are taken, one after another, as a loop over `fill_payload` and `consume_payload` does.
use Rattle.std.proofs.Common.{◌≡◌, ℕ, zero, suc, ◌<◌, List, [], ◌++◌, min, take, Option, Result, Ok, subst, sym, ◌∙◌, arith, inl, inr, refl, append-nil}
use Rattle.buffer_redux.specs.Asking.{AskedWhere}
use Rattle.buffer_redux.specs.Policy.{ReadRules}
use Rattle.buffer_redux.specs.Unbuffer.{unbuffered}
use Rattle.body_reader.specs.declared.error.BodyError.{BodyError}
use Rattle.buffer_redux.specs.AskingLaws.{AskedWhere-same}
use Rattle.body_reader.specs.AskingLaws.{AskedWhere-behind}
use Rattle.body_reader.specs.Between.{EachGave}
use Rattle.body_reader.specs.BetweenLaws.{EachGave-joins, EachGave-none, EachGave-same}
use Rattle.body_reader.specs.BodyReader.{BodyState, BodyWent, ConsumesPayload, FillsPayload, IsBodyReader, TakesManyPieces, TakesTo, TookWholeBody, handed_of}
use Rattle.body_reader.specs.BodyReaderLaws.{BodyWent-joins, BodyWent-leads, BodyWent-none}
use Rattle.body_reader.specs.Coding.{Grammar, IsLawful, LeadsOpen, heeded}
use Rattle.body_reader.specs.CodingLaws.{Leads-done, LeadsOpen-behind}

module _ {S Q C P W : Type 0} (remaining : S → Option (List ℕ)) (rules : ReadRules Q) (g : Grammar P W)
    (Lets : List ℕ → Type 0) where
  -- such pieces, with this payload in them
  pub record TakenInPieces (s : BodyState S Q C P) (payload : List ℕ) (m : BodyState S Q C P) : Type 0 where
    pub went : BodyWent remaining rules g s payload m
    pub gave : EachGave s.reader m.reader
    pub count : ℕ
    pub pieces : TakesManyPieces remaining rules g count s m
    pub asked : AskedWhere (λ bytes. (came : List ℕ) × LeadsOpen g s.place came bytes × Lets came) (unbuffered s.reader)
        (unbuffered m.reader)
    pub ended : TookWholeBody g s → m ≡ s
    pub first : IsBodyReader g s
    pub whole : IsBodyReader g m

  pub takes_none : (s : BodyState S Q C P) → IsBodyReader g s → TakenInPieces s [] s
  takes_none s is = record {
    went = BodyWent-none remaining rules g s;
    gave = EachGave-none s.reader;
    count = zero;
    pieces = refl;
    asked = inl refl;
    ended = λ _. refl;
    first = is;
    whole = is;
  }

  pub takes_to : {s : BodyState S Q C P} {payload : List ℕ} {m : BodyState S Q C P} → TakenInPieces s payload m
      → TakesTo remaining rules g Lets s payload m
  takes_to {m = m} so = record {
    went = so.went;
    pieces = record { count = so.count; last = m; pieces = so.pieces; end = inl refl };
    asked = so.asked;
    ended = so.ended;
    whole = so.whole;
  }

-- behind those, by the coding that was there at first
module _ {S Q C P W : Type 0} {remaining : S → Option (List ℕ)} {rules : ReadRules Q} (grammar : C → Grammar P W)
    {Lets : List ℕ → Type 0} {s : BodyState S Q C P} {payload : List ℕ} {m : BodyState S Q C P}
    (so : TakenInPieces remaining rules (grammar s.coding) Lets s payload m) where
  abbrev codes_here : Grammar P W
  codes_here = grammar s.coding

  module _ {answer : Result ℕ (BodyError W)} {f : BodyState S Q C P}
      (fills : FillsPayload remaining rules (grammar m.coding) m answer f) where
    pub fills_here : FillsPayload remaining rules codes_here m answer f
    fills_here = subst (λ c. FillsPayload remaining rules (grammar c) m answer f) so.went.coding fills

    -- a fill ends them
    pub takes_filled : Lets payload → TakesTo remaining rules codes_here Lets s payload f
    takes_filled lets = record {
      went = subst (λ l. BodyWent remaining rules codes_here s l f) (append-nil payload)
          (BodyWent-joins remaining rules codes_here s m f payload [] so.went fills_here.went);
      pieces = record { count = so.count; last = m; pieces = so.pieces; end = inr (answer, fills_here) };
      asked = AskedWhere-behind s.reader m.reader f.reader so.went.wire so.went.along.in_order so.gave
          (λ bytes. (came : List ℕ) × LeadsOpen codes_here s.place came bytes × Lets came) (LeadsOpen codes_here m.place [])
          (λ more is. (
            payload ++ [],
            LeadsOpen-behind codes_here s.place m.place so.went.wire payload [] m.reader.block.bytes more
                (BodyWent-leads remaining rules codes_here s m payload so.first so.whole so.went) is,
            subst Lets (sym (append-nil payload)) lets,
          )) so.asked fills_here.asked;
      ended = λ whole.
          let first = so.ended whole in fills_here.still (inr (subst (TookWholeBody codes_here) (sym first) whole)) ∙ first;
      whole = fills_here.whole;
    }

  module _ {n : ℕ} {f : BodyState S Q C P} (fills : FillsPayload remaining rules (grammar m.coding) m (Ok n) f) where
    pub filled_gave : EachGave s.reader f.reader
    filled_gave = EachGave-joins s.reader m.reader f.reader so.gave fills.answers.1

    -- or shows one piece more, which is taken: where payload is known the body goes on
    pub takes_more : Lets payload → 0 < n → IsLawful codes_here → (t : BodyState S Q C P)
        → ConsumesPayload remaining rules (grammar f.coding) n f t
        → TakenInPieces remaining rules codes_here Lets s (payload ++ take f.known f.reader.block.bytes) t
    takes_more lets some lawful t takes =
        let to = takes_filled fills lets in
        let here : ConsumesPayload remaining rules codes_here n f t =
        subst (λ c. ConsumesPayload remaining rules (grammar c) n f t) to.went.coding takes in
        let all : min n f.known ≡ f.known = omega (arith, fills.answers.0) in
        record {
          went = BodyWent-joins remaining rules codes_here s f t payload (take f.known f.reader.block.bytes) to.went
              (subst (λ k. BodyWent remaining rules codes_here f (take k f.reader.block.bytes) t) all here.went);
          gave = EachGave-joins s.reader f.reader t.reader filled_gave (EachGave-same f.reader t.reader here.told);
          count = suc so.count;
          pieces = (
            m,
            so.pieces,
            record { shown = n; filled = f; some = some; fills = fills_here fills; consumes = here },
          );
          asked = AskedWhere-same (λ bytes. (came : List ℕ) × LeadsOpen codes_here s.place came bytes × Lets came)
              (unbuffered s.reader) (unbuffered f.reader) (unbuffered t.reader) here.told to.asked;
          ended = λ whole. absurd ((to.whole.known.1 (omega (arith, some, fills.answers.0))).goes_on
              (Leads-done codes_here lawful f.taken (handed_of f) f.place (heeded codes_here f.reader.block.bytes)
              to.whole.leads to.whole.place
              (subst (TookWholeBody codes_here) (sym (to.ended whole)) whole)));
          first = so.first;
          whole = here.whole;
        }
