-- What is written and sent, one after another.
use Rattle.std.proofs.Common.{◌≡◌, ℕ, ◌⊎◌, List, [], ◌∷◌, ◌++◌, length, Result, Ok, Err, OnOk, sym, ap, subst, inl, inr, refl, arith, length-append}
use Rattle.requests.proofs.Names.{AskedOver, AskedOver-on, AsksUnsettled, Both, Buffered, cases_lt, Error, HandsOutInOrder, HandsOutInOrder-joins, HandsOutInOrder-none, IsHeld, IsStep, IsUnsettled, nil_from_length, Prompt, SendsForRoom, SendsUnless, StdPolicy, StepsAlong, StreamLog, Unbuffered, WritesParts}
use Rattle.buffer_redux.specs.Block.{usable}

-- steps behind others, from where the stream had handed these bytes out: what is open then is so behind those
module _ {R W : Type 0} (tells : W → StreamLog) (trace : W → W → Type 0) (P Q : List ℕ → List ℕ → Type 0) (a m : Both R W)
    {bytes : List ℕ} (order : HandsOutInOrder a.0 bytes m.0)
    (so : (front behind : List ℕ) → P front behind → Q (bytes ++ front) behind) where
  asks_on : (s t : Unbuffered R) → AsksUnsettled P m.0 s t → AsksUnsettled Q a.0 s t
  asks_on s t asked = record {
    hands = asked.hands;
    front = bytes ++ asked.front;
    before = HandsOutInOrder-joins a.0 m.0 s bytes asked.front order asked.before;
    asked = AskedOver-on (P asked.front) (Q (bytes ++ asked.front)) s s t [] (HandsOutInOrder-none s) (omega arith)
        (omega arith) (λ more is. so asked.front (s.left ++ more) is) asked.asked;
  }

  unsettled_on : (s : Unbuffered R) → IsUnsettled P m.0 s → IsUnsettled Q a.0 s
  unsettled_on s (inl none) = inl none
  unsettled_on s (inr (front, before, is)) =
      inr (bytes ++ front, HandsOutInOrder-joins a.0 m.0 s bytes front order before, so front s.left is)

  IsStep-on : (x y : Both R W) (answer : Result (Unit {0}) Error) → IsStep tells trace P m.0 x answer y
      → IsStep tells trace Q a.0 x answer y
  IsStep-on x y answer (inl (well, same, inl hands)) = inl (well, same, inl hands)
  IsStep-on x y answer (inl (well, same, inr (all, asked))) = inl (well, same, inr (all, asks_on x.0 y.0 asked))
  IsStep-on x y (Ok r) (inr (some, flushed, asked)) = inr (some, flushed, asks_on x.0 y.0 asked)
  IsStep-on x y (Err e) (inr (some, flushed, (is, same))) = inr (some, flushed, (unsettled_on x.0 is, same))

  StepsAlong-joins : (b : Both R W) (answer : Result (Unit {0}) Error) (first then : List (Both R W))
      → StepsAlong tells trace Q a first (Ok tt) m → StepsAlong tells trace P m then answer b
      → StepsAlong tells trace Q a (then ++ first) answer b
  StepsAlong-joins b answer first [] p (same, well) =
      subst (λ r. StepsAlong tells trace Q a first r b) (sym well) (subst (StepsAlong tells trace Q a first (Ok tt)) same p)
  StepsAlong-joins b answer first (x ∷ earlier) p (before, step) =
      (StepsAlong-joins x (Ok tt) first earlier p before, IsStep-on x b answer step)

-- a stream that was asked was so from here on
asks_here : {R : Type 0} (Open : List ℕ → List ℕ → Type 0) {bytes : List ℕ} (s t : Unbuffered R) → HandsOutInOrder s bytes t
    → AskedOver (Open []) s t → AsksUnsettled Open s s t
asks_here Open {bytes} s t order over =
    record { hands = (bytes, order); front = []; before = HandsOutInOrder-none s; asked = over }

-- what the writer has buffered is all that wasn't sent, still: behind a step, and so behind all of them
module _ {R W : Type 0} (tells : W → StreamLog) (trace : W → W → Type 0) (Open : List ℕ → List ℕ → Type 0) where
  step_held : (first : Unbuffered R) (m b : Both R W) (answer : Result (Unit {0}) Error)
      → IsStep tells trace Open first m answer b → IsHeld m.1 → OnOk answer (IsHeld b.1)
  step_held first m b (Ok x) (inl (well, same, how)) held = subst IsHeld (sym same) held
  step_held first m b (Ok x) (inr (some, flushed, asked)) held =
      λ none. record { empty = flushed.ok.empty; flushed = flushed.ok.flushed }
  step_held first m b (Err e) step held = tt

  steps_held : (a b : Both R W) (between : List (Both R W)) (answer : Result (Unit {0}) Error)
      → StepsAlong tells trace Open a between answer b → IsHeld a.1 → OnOk answer (IsHeld b.1)
  steps_held a b [] answer (same, well) held =
      subst (λ r. OnOk r (IsHeld b.1)) (sym well) (subst (λ x. IsHeld x.1) same held)
  steps_held a b (m ∷ earlier) answer (before, step) held =
      step_held a.0 m b answer step (steps_held a m earlier (Ok tt) before held)

module _ {W : Type 0} {tells : W → StreamLog} {trace : W → W → Type 0} where
  pub Prompt-held : {R : Type 0} {Open : List ℕ → List ℕ → Type 0} {a b : Both R W} (answer : Result (Unit {0}) Error)
      → Prompt tells trace Open a answer b → IsHeld a.1 → OnOk answer (IsHeld b.1)
  Prompt-held {Open = Open} {a = a} {b = b} answer p = steps_held tells trace Open a b p.between answer p.steps

  -- and behind what was written
  pub WritesParts-held : {w v : Buffered W StdPolicy} {bytes : List ℕ} (answer : Result (Unit {0}) Error)
      → WritesParts tells trace w bytes answer v → IsHeld w → OnOk answer (IsHeld v)
  WritesParts-held {w} {v} {bytes} (Ok x) p held = λ none. elim (cases_lt (usable w.block) (length bytes)) [
    | inl few ↦
        absurd (omega (
          arith,
          few,
          ap length none,
          ap length (p.full few).2.added.bytes,
          length-append (p.full few).0.block.bytes bytes,
        ))
    | inr fit ↦
        (let put = (p.fits fit).1 in
        let same : v.log ≡ w.log = ap (λ x. x.log) put.others in
        let first = held (nil_from_length w.block.bytes
        (omega (arith, ap length none, ap length put.added.bytes, length-append w.block.bytes bytes))) in
        record { empty = none; flushed = subst (λ l. l.writes.flushed ≡ l.writes.received) (sym same) first.flushed })
  ]
  WritesParts-held (Err e) p held = tt

  pub SendsForRoom-held : {w v : Buffered W StdPolicy} {text : List ℕ} (answer : Result (Unit {0}) Error)
      → SendsForRoom tells trace w text answer v → IsHeld w → OnOk answer (IsHeld v)
  SendsForRoom-held answer (inl (lacks, well, same)) held = rw (well, same) held
  SendsForRoom-held answer (inr parts) held = WritesParts-held answer parts held

  module _ {R : Type 0} (Open : List ℕ → List ℕ → Type 0) where
    Prompt-one : (a : Both R W) (sending : Result (Unit {0}) Error) (b : Both R W) → IsStep tells trace Open a.0 a sending b
        → Prompt tells trace Open a sending b
    Prompt-one a sending b step = record { between = a ∷ []; steps = ((refl, refl), step) }

    -- nothing was done
    pub Prompt-none : (a : Both R W) → Prompt tells trace Open a (Ok tt) a
    Prompt-none a = record { between = []; steps = (refl, refl) }

    -- the stream handed out some of what it has
    pub Prompt-read : {s t : Unbuffered R} {bytes : List ℕ} (w : Buffered W StdPolicy) → HandsOutInOrder s bytes t
        → t.log ≡ s.log → Prompt tells trace Open (s, w) (Ok tt) (t, w)
    Prompt-read {s} {t} {bytes} w order same =
        Prompt-one (s, w) (Ok tt) (t, w) (inl (refl, refl, inl ((bytes, order), same)))

    -- what was held was sent, where the stream is to be asked, and then that was asked
    pub Prompt-asked : {P : Type 0} (s t : Unbuffered R) {bytes : List ℕ} (w v : Buffered W StdPolicy)
        → HandsOutInOrder s bytes t → SendsUnless tells trace P w (Ok tt) v → ((¬ P) → AskedOver (Open []) s t)
        → (P → t.log ≡ s.log) → Prompt tells trace Open (s, w) (Ok tt) (t, v)
    Prompt-asked s t w v order (inl (settled, well, same)) asked still = rw same (Prompt-read w order (still settled))
    Prompt-asked s t w v order (inr (unsettled, inl (all, well, same))) asked still =
        Prompt-one (s, w) (Ok tt) (t, v) (inl (refl, same, inr (all, asks_here Open s t order (asked unsettled))))
    Prompt-asked s t w v order (inr (unsettled, inr (some, flushed))) asked still =
        Prompt-one (s, w) (Ok tt) (t, v) (inr (some, flushed, asks_here Open s t order (asked unsettled)))

    -- that failed, and the stream wasn't asked
    pub Prompt-unsent : {P : Type 0} (s : Unbuffered R) (w v : Buffered W StdPolicy) (e : Error)
        → SendsUnless tells trace P w (Err e) v → ((¬ P) → (s.left ≡ []) ⊎ Open [] s.left)
        → Prompt tells trace Open (s, w) (Err e) (s, v)
    Prompt-unsent s w v e (inl (settled, well, same)) open' = absurd (cc)
    Prompt-unsent s w v e (inr (unsettled, inl (all, well, same))) open' = absurd (cc)
    Prompt-unsent s w v e (inr (unsettled, inr (some, flushed))) open' =
        let there : IsUnsettled Open s s = elim (open' unsettled) [
          | inl none ↦ inl none
          | inr is ↦ inr ([], HandsOutInOrder-none s, is)
        ] in
        Prompt-one (s, w) (Err e) (s, v) (inr (some, flushed, (there, refl)))

  -- more of that behind what the stream had handed out
  pub Prompt-on : {R : Type 0} (P Q : List ℕ → List ℕ → Type 0) (a m b : Both R W) {bytes : List ℕ}
      (sending : Result (Unit {0}) Error) → HandsOutInOrder a.0 bytes m.0
      → ((front behind : List ℕ) → P front behind → Q (bytes ++ front) behind)
      → Prompt tells trace Q a (Ok tt) m → Prompt tells trace P m sending b → Prompt tells trace Q a sending b
  Prompt-on P Q a m b sending order so p q = record {
    between = q.between ++ p.between;
    steps = StepsAlong-joins tells trace P Q a m order so b sending p.between q.between p.steps q.steps;
  }
