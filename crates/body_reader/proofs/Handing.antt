-- Payload is handed out, and how that ends.
use Rattle.std.proofs.Common.{◌≡◌, ◌==◌, ◌+◌, false, ℕ, ◌-◌, ◌<◌, ◌≤◌, ◌⊎◌, List, [], ◌++◌, length, min, take, drop, Option, Some, Result, Ok, Err, IfOk, sym, ap, subst, ◌∙◌, arith, inl, inr, refl, append_assoc, append-nil, length-append}
use Rattle.std.proofs.lemmas.List.{append_cancel_left, length-drop, length-take-le, take-append-drop}
use Rattle.buffer_redux.specs.Buffered.{Buffered}
use Rattle.buffer_redux.specs.BufReader.{ReaderConsumes, ReaderKeeps}
use Rattle.buffer_redux.specs.Policy.{ReadRules}
use Rattle.body_reader.specs.declared.coding.Look.{Look}
use Rattle.body_reader.specs.declared.error.BodyError.{BodyError}
use Rattle.body_reader.specs.declared.progress.Progress.{Progress}
use Rattle.body_reader.specs.Between.{AllShown, EachGave, FindsKnown, HandsOn, HandsSome, KnowsAll, PayloadFails, SkipsOn, TakesBytes, TakesFront, Way, handed_out}
use Rattle.body_reader.specs.BetweenLaws.{EachGave-none, EachGave-same, PassesOn-way, PassesTo-none, Proceeds-after, Way-none}
use Rattle.body_reader.specs.Coding.{Carries, Grammar, IsDone, IsKnown, Leads, heeded}
use Rattle.body_reader.specs.CodingLaws.{Leads-none, Leads-then}
use Rattle.body_reader.proofs.Filling.{Proceeds-of, ended_here}
use Rattle.body_reader.proofs.Skipping.{Notes, consumes_left, consumes_parts, consumes_through, takes_front}

pub some_of : (n : ℕ) → false ≡ (n == 0) → 0 < n
some_of n is = grind arith

-- the first of bytes that are surely payload are payload
pub front_carries : {P W : Type 0} (g : Grammar P W) (p : P) (k n : ℕ) (bytes : List ℕ) → Carries g p k bytes → n ≤ k
    → n ≤ length bytes → g.carries p (take n bytes) (drop n bytes)
front_carries g p k n bytes carries few held = grind (arith, length-take-le, take-append-drop, append-nil)

-- of bytes of which a look showed k the first n are taken, and the rest of the k stays known
pub knows_rest : {P W : Type 0} {g : Grammar P W} {p : P} {taken taken' : List ℕ} {k n : ℕ} {bytes left : List ℕ} {k' : ℕ}
    → g.is_place p → AllShown g p k bytes → taken' ≡ taken ++ take n bytes → take n bytes ++ left ≡ bytes → n ≤ k
    → k ≤ length bytes → k' ≡ k - n → KnowsAll g p taken taken' (take n bytes) k' left
knows_rest {g = g} {p = p} {k = k} {n = n} {bytes = bytes} {left = left} {k' = k'} place all is parts few held rest =
    let size : k ≡ length (take n bytes) + k' = omega (arith, rest, few, length-take-le n bytes (omega (arith, few, held))) in
    record {
      wire = [];
      equal = is;
      place = p;
      is_place = place;
      leads = Leads-none g p (heeded g (take n bytes ++ left));
      all = subst (AllShown g p (length (take n bytes) + k')) (sym parts) (subst (λ j. AllShown g p j bytes) size all);
    }

-- the first bytes are taken, of those that are known to be payload
module _ {S Q P W : Type 0} (remaining : S → Option (List ℕ)) (rules : ReadRules Q) (g : Grammar P W) (n : ℕ)
    (s : Buffered S Q) (p : Progress P) (k : ℕ) (known : IsKnown g p.place k s.block.bytes) (some : 0 < n) (few : n ≤ k)
    (t : Buffered S Q) (inner : t.inner ≡ s.inner) (gone : ReaderConsumes rules n s t) (keeps : ReaderKeeps remaining rules s t)
    (there : P)
    (leads : (follow : List ℕ) → g.carries p.place (take n s.block.bytes) follow
    → Leads g p.place (take n s.block.bytes) (take n s.block.bytes) there (heeded g follow))
    (still : (more follow : List ℕ) → g.carries p.place (take n s.block.bytes ++ more) follow
    → g.carries there more follow × (0 < length more → ¬ IsDone g there))
    (place : g.is_place there) (q : Progress P) (notes : Notes p there (take n s.block.bytes) q) where
  held : n ≤ length s.block.bytes
  held = omega (arith, few, known.0)

  front : List ℕ
  front = take n s.block.bytes

  sure : Carries g p.place k s.block.bytes
  sure = known.1 (omega (arith, some, few))

  left : t.block.bytes ≡ drop n s.block.bytes
  left = consumes_left rules n s t held gone

  split : take n s.block.bytes ++ t.block.bytes ≡ s.block.bytes
  split = consumes_parts rules n s t held gone

  -- bytes behind those are payload as they were
  behind : (more follow later : List ℕ) → length more ≤ k - n → more ++ follow ≡ t.block.bytes ++ later
      → g.carries p.place (take n s.block.bytes ++ more) follow
  behind more follow later short is' =
      sure.carries (take n s.block.bytes ++ more) follow later
      (omega (arith, short, few, length-take-le n s.block.bytes held, length-append (take n s.block.bytes) more))
      (append_assoc (take n s.block.bytes) more follow ∙ ap (λ l. take n s.block.bytes ++ l) is'
      ∙ sym (append_assoc (take n s.block.bytes) t.block.bytes later) ∙ ap (λ l. l ++ later) split)

  rest_carries : 0 < k - n → Carries g there (k - n) t.block.bytes
  rest_carries rest =
      let enough : k - n ≤ length t.block.bytes = omega (arith, ap length left, length-drop n s.block.bytes, known.0, few) in
      let more = take (k - n) t.block.bytes in
      let size : length more ≡ k - n = length-take-le (k - n) t.block.bytes enough in
      record {
        some = rest;
        goes_on = (still more (drop (k - n) t.block.bytes)
            (behind more (drop (k - n) t.block.bytes) [] (omega (arith, size))
            (take-append-drop (k - n) t.block.bytes ∙ sym (append-nil t.block.bytes)))).1 (omega (arith, size, rest));
        carries = λ more' follow later short is'. (still more' follow (behind more' follow later short is')).0;
      }

  pub front_taken : (k' : ℕ) → k' ≡ k - n → TakesFront remaining rules g n s p k t q k'
  front_taken k' is = record {
    takes = takes_front remaining rules g n s p t q (take n s.block.bytes) held inner gone keeps there notes
        (leads (drop n s.block.bytes) (front_carries g p.place k n s.block.bytes sure few held)) place;
    consumed = gone;
    left = is;
    known = (
      omega (arith, is, ap length left, length-drop n s.block.bytes, known.0, few),
      (λ rest. subst (λ x. Carries g x k' t.block.bytes) (sym notes.place)
          (subst (λ j. Carries g there j t.block.bytes) (sym is) (rest_carries (omega (arith, rest, is))))),
    );
  }

-- what is told behind bytes that were taken is told from before them
module _ {S Q P W : Type 0} {remaining : S → Option (List ℕ)} {rules : ReadRules Q} {g : Grammar P W} where
  pub knows_behind : {s : Buffered S Q} {p : Progress P} {m : Buffered S Q} {q : Progress P} {t : Buffered S Q} {r : Progress P}
      {wire wire' h' last : List ℕ} {known : ℕ} → TakesBytes remaining rules g s p wire [] m q
      → TakesBytes remaining rules g m q wire' h' t r
      → KnowsAll g q.place q.taken.log.fills.consumed r.taken.log.fills.consumed last known t.block.bytes
      → KnowsAll g p.place p.taken.log.fills.consumed r.taken.log.fills.consumed last known t.block.bytes
  knows_behind {s} {p} {m} {q} {t} {r} {wire} {wire'} {h'} {last} before takes x =
      let rest = t.block.bytes in
      let order = takes.along.in_order in
      let same : wire' ≡ x.wire ++ last =
      append_cancel_left q.taken.log.fills.consumed wire' (x.wire ++ last) (sym takes.taken ∙ x.equal) in
      let equal : x.wire ++ (last ++ rest) ≡ m.block.bytes ++ order.got =
      sym (append_assoc x.wire last rest) ∙ ap (λ l. l ++ rest) (sym same) ∙ order.equal in
      record {
        wire = wire ++ x.wire;
        equal = x.equal ∙ ap (λ l. l ++ (x.wire ++ last)) before.taken
            ∙ append_assoc p.taken.log.fills.consumed wire (x.wire ++ last)
            ∙ ap (λ l. p.taken.log.fills.consumed ++ l) (sym (append_assoc wire x.wire last));
        place = x.place;
        is_place = x.is_place;
        leads = Leads-then g p.place q.place x.place wire x.wire [] [] m.block.bytes order.got (last ++ rest) equal before.leads
            x.leads;
        all = x.all;
      }

module _ {S Q P W : Type 0} (remaining : S → Option (List ℕ)) (rules : ReadRules Q) (g : Grammar P W) where
  -- what is known is handed out
  module _ (n : ℕ) (s : Buffered S Q) (p : Progress P) (k : ℕ) (t : Buffered S Q) (q : Progress P) (k' : ℕ) (out : List ℕ)
      (taken : TakesFront remaining rules g n s p k t q k') (known : IsKnown g p.place k s.block.bytes) (some : 0 < k)
      (is : n ≡ min k (length out)) (room : 0 < length out) (same : take n out ≡ take n s.block.bytes) where
    full : (n ≡ length out) ⊎ (k' ≡ 0)
    full = grind arith

    long : length (take n out) ≡ n
    long = length-take-le n out (omega (arith, is))

    -- as much as was known before, or as a look says
    pub hands_front : g.is_place p.place → (before : ℕ) → (before ≡ 0 → AllShown g p.place k s.block.bytes)
        → HandsOn remaining rules g before s p out (Ok n) t q k'
    hands_front place before all = (
      (
        record {
          wire = take n s.block.bytes;
          takes = subst (λ l. TakesBytes remaining rules g s p (take n s.block.bytes) l t q) (sym same) taken.takes;
          asked = inl taken.consumed.told;
          through = inl (consumes_through rules n s t (omega (arith, is, known.0)) taken.consumed);
          tells = record {
            front = s;
            place = p.place;
            passes = PassesTo-none;
            once = inr (
              omega (arith, is, some, room, long),
              inl (subst (λ j. ReaderConsumes rules j s t) (sym long) taken.consumed),
            );
          };
          idle = λ done. absurd ((known.1 some).goes_on done);
        },
        (
          EachGave-same s t taken.consumed.told,
          (
            omega (arith, is),
            (λ none _. absurd (omega (arith, none, is, some, room))),
            full,
            (λ unknown _. subst (λ l. KnowsAll g p.place p.taken.log.fills.consumed q.taken.log.fills.consumed l k'
                t.block.bytes) (sym same)
                (knows_rest place (all unknown) taken.takes.taken
                (consumes_parts rules n s t (omega (arith, is, known.0)) taken.consumed) (omega (arith, is)) known.0 taken.left)),
          ),
        ),
      ),
      λ none. absurd (omega (arith, none, room)),
    )

  -- into an empty slice nothing is
  pub hands_nothing : (known : ℕ) (s : Buffered S Q) (p : Progress P) (out : List ℕ) → g.is_place p.place → length out ≡ 0
      → HandsOn remaining rules g known s p out (Ok 0) s p known
  hands_nothing known s p out place none = ((Way-none place, grind (arith, EachGave-none)), λ _. (refl, refl, refl, refl))

  -- no more is handed out than fits
  pub hands_bound : {before after : ℕ} {s t : Buffered S Q} {p q : Progress P} (out : List ℕ)
      (answer : Result ℕ (BodyError W))
      → HandsOn remaining rules g before s p out answer t q after → IfOk answer (λ n. n ≤ length out)
  hands_bound out answer hands = grind arith

  -- behind what is no payload, which failed, or came to the end
  module _ (known after : ℕ) (s : Buffered S Q) (p : Progress P) (out : List ℕ) (m : Buffered S Q) (q : Progress P)
      (room : 0 < length out) where
    never : {t : Buffered S Q} {r : Progress P} {answer : Result ℕ (BodyError W)} → length out ≡ 0
        → (answer ≡ Ok 0) × (t ≡ s) × (r ≡ p) × (after ≡ known)
    never none = absurd (omega (arith, none, room))

    -- what an Ok means behind other calls
    abbrev Handed : Progress P → Buffered S Q → Progress P → ℕ → Type 0
    Handed at t r = HandsSome remaining rules g known at out t r after

    pub hands_failed : (e : BodyError W) → Way remaining rules g (length out) s p [] m q → PayloadFails remaining rules g s e m q
        → HandsOn remaining rules g known s p out (Err e) m q after
    hands_failed e way fails = ((way, fails), never)

    -- behind a way without payload, on which each read gave some
    pub hands_after : Way remaining rules g (length out) s p [] m q → EachGave s m → (answer : Result ℕ (BodyError W))
        → (t : Buffered S Q) (r : Progress P) → HandsOn remaining rules g known m q out answer t r after
        → HandsOn remaining rules g known s p out answer t r after
    hands_after way gave answer t r hands = (
      Proceeds-after way gave answer (Handed p t r)
          (Proceeds-of remaining rules g (length out) m q (handed_out out answer) answer (Handed q t r) (Handed p t r) t r
          (λ n means. (
            means.0,
            means.1,
            means.2,
            (λ none some. knows_behind way.takes hands.0.0.takes (means.3 none some)),
          )) hands.0),
      never,
    )

    -- behind what was passed, where none was known
    pub hands_passed : (l : Look P W) (k : ℕ) → FindsKnown remaining rules g s p known (Some l) m q k
        → (answer : Result ℕ (BodyError W)) (t : Buffered S Q) (r : Progress P)
        → HandsOn remaining rules g k m q out answer t r after → HandsOn remaining rules g known s p out answer t r after
    hands_passed l k finds answer t r hands =
        hands_after (PassesOn-way finds.passes) (EachGave-same s m finds.passes.told) answer t r
        (subst (λ j. HandsOn remaining rules g j m q out answer t r after) (omega (arith, finds.none.0, finds.none.1)) hands)

    pub hands_ended : after ≡ 0 → SkipsOn remaining rules g (length out) s p (Ok 0) m q
        → HandsOn remaining rules g known s p out (Ok 0) m q after
    hands_ended unknown skips = ((skips.0, grind (arith, ended_here)), never)
