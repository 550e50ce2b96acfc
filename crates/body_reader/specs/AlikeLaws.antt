-- Laws of two codings of which bodies go on alike, in a place of the one and in one of the other.
use Rattle.std.proofs.Common.{◌≡◌, ℕ, ◌≤◌, List, [], ◌++◌, take, drop, inl, inr, ap, sym, subst, ◌∙◌, arith, append_assoc, append-nil}
use Rattle.body_reader.specs.declared.coding.Look.{Look}
use Rattle.body_reader.specs.declared.coding.Look.TheVariants as look
use Rattle.body_reader.specs.Coding.{Agree, Carries, Grammar, IsAllPayload, IsDone, IsRight, Leads, Looks, heeded, look_as}
use Rattle.body_reader.specs.CodingLaws.{Agree-front, Agree-less, Agree-nothing}

module _ {P V R X : Type 0} (g : Grammar P V) (h : Grammar R X) (at : P → R) (name : V → X) where
  -- where what goes on as these bytes is the same in both
  pub record Alike (r : R) (p : P) (shown : List ℕ) : Type 0 where
    pub there : (rest payload : List ℕ) → Agree shown rest → g.completes p rest payload → h.completes r rest payload
    pub back : (rest payload : List ℕ) → Agree shown rest → h.completes r rest payload → g.completes p rest payload
    pub carried : (bytes follow more : List ℕ) → bytes ++ follow ≡ shown ++ more → g.carries p bytes follow
        → h.carries r bytes follow
    pub clear : (bytes follow : List ℕ) → h.carries r bytes follow → g.carries p bytes follow
    pub between : h.between r ≡ g.between p
    pub sure : h.sure r ≡ g.sure p
    pub named : (bytes : List ℕ) (why : V) → g.wrong p bytes why → h.wrong r bytes (name why)
    pub wrong : (bytes : List ℕ) (why : X) → h.wrong r bytes why → (v : V) × g.wrong p bytes v

  -- each place of the one is one of the other, where all goes on alike
  module _ (fits : g.ahead ≤ h.ahead) (is_place : (q : P) → g.is_place q → h.is_place (at q))
      (here : (q : P) (shown : List ℕ) → Alike (at q) q shown)
      (heeds : (follow : List ℕ) → heeded h follow ≡ heeded g follow) where
    pub alike_leads : (r : R) (p q : P) (wire handed follow : List ℕ) → Alike r p (wire ++ follow)
        → Leads g p wire handed q follow → Leads h r wire handed (at q) follow
    alike_leads r p q wire handed follow like leads = record {
      onward = λ rest payload agree c. like.there (wire ++ rest) (handed ++ payload) (Agree-front wire follow rest agree)
          (leads.onward rest payload agree ((here q follow).back rest payload agree c));
      back = λ rest whole agree c.
          let goes = leads.back rest whole agree (like.back (wire ++ rest) whole (Agree-front wire follow rest agree) c) in
          (goes.0, goes.1, (here q follow).there rest goes.0 agree goes.2);
      within = λ rest payload past c same. leads.within rest payload past (like.back rest payload
          ([], past ++ follow, append-nil (wire ++ follow) ∙ ap (λ l. l ++ follow) same ∙ append_assoc rest past follow) c) same;
    }

    -- in one place
    module _ (r : R) (p : P) (shown : List ℕ) (like : Alike r p shown) where
      more_alike : (more : List ℕ) → Alike r p (shown ++ more)
      more_alike more = grind (arith, Agree-less, append_assoc)

      goes_on : ¬ IsDone g p → ¬ IsDone h r
      goes_on on done = on (like.back [] [] (Agree-nothing shown) done)

      right : IsRight g p shown → IsRight h r shown
      right not why wrong = grind arith

      pub alike_sure : (n : ℕ) (bytes : List ℕ) → Carries h r n bytes → Carries g p n bytes
      alike_sure n bytes c = grind (arith, Agree-nothing)

      all_alike : (n : ℕ) → IsAllPayload g p n shown → IsAllPayload h r n shown
      all_alike n (inl same) = inl (same ∙ sym like.sure)
      all_alike n (inr all) = inr (λ m within c. all m within (alike_sure m shown c))

      pub alike_looks : ((n : ℕ) → Alike r p (take n shown ++ heeded g (drop n shown))) → (l : Look P V) → Looks g p shown l
          → Looks h r shown (look_as at name l)
      alike_looks front (look.Payload n) looks = (
        record {
          some = looks.0.some;
          goes_on = goes_on looks.0.goes_on;
          carries = λ bytes follow more few same.
              like.carried bytes follow more same (looks.0.carries bytes follow more few same);
        },
        omega (arith, looks.1, like.sure),
        all_alike n looks.2,
        right looks.3,
      )
      alike_looks front (look.Passed n q) looks = (
        looks.0,
        looks.1,
        record {
          leads = subst (Leads h r (take n shown) [] (at q)) (sym (heeds (drop n shown)))
              (alike_leads r p q (take n shown) [] (heeded g (drop n shown)) (front n) looks.2.leads);
          few = omega (arith, looks.2.few, like.between, (here q shown).between);
        },
        is_place q looks.3,
        goes_on looks.4,
        right looks.5,
      )
      alike_looks front (look.More n) looks = (
        record {
          few = looks.0.few;
          most = omega (arith, looks.0.most, fits);
          is_open = λ more short. (
              let o = looks.0.is_open more short in
              record {
                few = omega (arith, o.few, fits);
                further = λ rest payload c agree. o.further rest payload ((more_alike more).back rest payload agree c) agree;
                behind = o.behind;
                payload = o.payload;
                completes = (more_alike more).there ((shown ++ more) ++ o.behind) o.payload
                    (o.behind, [], sym (append-nil ((shown ++ more) ++ o.behind))) o.completes;
                unknown = o.unknown;
              }
              );
        },
        like.sure ∙ looks.1,
      )
      alike_looks front (look.Wrong why) looks = (like.named shown why looks.0, goes_on looks.1)
      alike_looks front look.Ended looks = like.there [] [] (Agree-nothing shown) looks
