-- What is no payload is taken, and how that ends.
use Rattle.std.proofs.Common.{◌≡◌, ℕ, ◌<◌, ◌≤◌, List, [], ◌++◌, length, min, take, drop, Option, Result, Ok, Err, sym, subst, ◌∙◌, arith, inl, inr, refl, length-append}
use Rattle.std.proofs.lemmas.List.{length-drop, length-take, length-take-le, take-append-drop}
use Rattle.std.specs.declared.io.Error.{Error}
use Rattle.buffer_redux.specs.Buffered.{Buffered}
use Rattle.buffer_redux.specs.BufReader.{ReaderConsumes, ReaderKeeps}
use Rattle.buffer_redux.specs.Peek.{ReadsAhead}
use Rattle.buffer_redux.specs.Policy.{ReadRules}
use Rattle.buffer_redux.specs.Potential.{of_plain}
use Rattle.buffer_redux.specs.ReaderLaws.{ReaderConsumes-along}
use Rattle.body_reader.specs.declared.coding.Look.{Look}
use Rattle.body_reader.specs.declared.coding.Look.TheVariants as look
use Rattle.body_reader.specs.declared.error.BodyError.TheVariants.{Wrong, Truncated, Io}
use Rattle.body_reader.specs.declared.progress.Progress.{Progress}
use Rattle.body_reader.specs.Between.{EachGave, PassesTo, PassesOn, SkipsOn, TakenThrough, TakesBytes, Way}
use Rattle.body_reader.specs.BetweenLaws.{AsksWithRoom-here, EachGave-joins, EachGave-none, EachGave-same, FaultedOnce-after, GaveNothingOnce-after, PassesTo-joins, PassesTo-none, PassesTo-once, PassesOn-way, ReadsAhead-asks, ReadsAhead-ended, ReadsAhead-failed, ReadsAhead-gave, ReadsAhead-keeps, ReadsAhead-open, TakesBytes-joins, TakesBytes-none, TakesBytes-still, TellsOnce-none, Way-joins, Way-none}
use Rattle.body_reader.specs.Coding.{Grammar, IsDone, IsOpenBelow, Leads, Looks, heeded}
use Rattle.body_reader.specs.CodingLaws.{IsOpen-goes_on, IsOpenBelow-open}

-- these bytes were noted, which lead there
pub record Notes {P : Type 0} (p : Progress P) (there : P) (bytes : List ℕ) (q : Progress P) : Type 0 where
  pub place : q.place ≡ there
  pub taken : q.taken.log.fills.consumed ≡ p.taken.log.fills.consumed ++ bytes

-- the first bytes were consumed, and what is buffered of them is what stood behind
pub consumes_left : {S Q : Type 0} (rules : ReadRules Q) (n : ℕ) (s t : Buffered S Q) → n ≤ length s.block.bytes
    → ReaderConsumes rules n s t → t.block.bytes ≡ drop n s.block.bytes
consumes_left rules n s t held gone = grind arith

pub consumes_parts : {S Q : Type 0} (rules : ReadRules Q) (n : ℕ) (s t : Buffered S Q) → n ≤ length s.block.bytes
    → ReaderConsumes rules n s t → take n s.block.bytes ++ t.block.bytes ≡ s.block.bytes
consumes_parts rules n s t held gone = grind (arith, consumes_left, take-append-drop)

-- through the buffer
pub consumes_through : {S Q : Type 0} (rules : ReadRules Q) (n : ℕ) (s t : Buffered S Q) → n ≤ length s.block.bytes
    → ReaderConsumes rules n s t → TakenThrough s (take n s.block.bytes) t
consumes_through rules n s t held gone = grind (arith, length-take-le)

-- bytes that lead on are taken
module _ {S Q P W : Type 0} (remaining : S → Option (List ℕ)) (rules : ReadRules Q) (g : Grammar P W) (n : ℕ)
    (s : Buffered S Q) (p : Progress P) (t : Buffered S Q) (q : Progress P) (handed : List ℕ) where
  pub takes_front : n ≤ length s.block.bytes → t.inner ≡ s.inner → ReaderConsumes rules n s t
      → ReaderKeeps remaining rules s t → (there : P) → Notes p there (take n s.block.bytes) q
      → Leads g p.place (take n s.block.bytes) handed there (heeded g (drop n s.block.bytes)) → g.is_place there
      → TakesBytes remaining rules g s p (take n s.block.bytes) handed t q
  takes_front held inner gone keeps there notes leads place = record {
    along = ReaderConsumes-along remaining rules s n t inner gone;
    leads = subst (λ l. Leads g p.place (take n s.block.bytes) handed q.place (heeded g l))
        (sym (consumes_left rules n s t held gone))
        (subst (λ x. Leads g p.place (take n s.block.bytes) handed x (heeded g (drop n s.block.bytes))) (sym notes.place) leads);
    taken = notes.taken;
    place = subst g.is_place (sym notes.place) place;
    keeps = grind (arith, of_plain);
  }

-- so far bytes were taken which are no payload, and each read gave some
pub record Skipped {S Q P W : Type 0} (remaining : S → Option (List ℕ)) (rules : ReadRules Q) (g : Grammar P W)
    (s : Buffered S Q) (p : Progress P) (m : Buffered S Q) (q : Progress P) : Type 0 where
  pub way : (slice : ℕ) → Way remaining rules g slice s p [] m q
  pub gave : EachGave s m
  pub room : g.ahead ≤ m.block.capacity

module _ {S Q P W : Type 0} (remaining : S → Option (List ℕ)) (rules : ReadRules Q) (g : Grammar P W) where
  pub passed_none : (s : Buffered S Q) (p : Progress P) → g.is_place p.place → PassesOn remaining rules g s p s p
  passed_none s p place = record {
    wire = [];
    takes = TakesBytes-none place;
    told = refl;
    through = omega arith;
    passes = PassesTo-none;
    spends = omega arith;
    idle = λ _. (refl, refl);
  }

  module _ (s : Buffered S Q) (p : Progress P) (m : Buffered S Q) (q : Progress P) (so : PassesOn remaining rules g s p m q) where
    -- bytes that are no payload come next
    module _ (n : ℕ) (next : P) (looks : Looks g q.place m.block.bytes (look.Passed n next)) (q' : Progress P)
        (notes : Notes q next (take n m.block.bytes) q') (t : Buffered S Q) (inner : t.inner ≡ m.inner)
        (gone : ReaderConsumes rules n m t) (kept : ReaderKeeps remaining rules m t) where
      pub passed_on : PassesOn remaining rules g s p t q'
      passed_on =
          let front = takes_front remaining rules g n m q t q' [] looks.1 inner gone kept next notes looks.2.leads looks.3 in
          record {
            wire = so.wire ++ take n m.block.bytes;
            takes = TakesBytes-joins so.takes front;
            told = gone.told ∙ so.told;
            through = omega (
              arith,
              so.through,
              consumes_through rules n m t looks.1 gone,
              length-append so.wire (take n m.block.bytes),
            );
            passes = PassesTo-joins so.passes (subst (PassesTo remaining rules g m q.place t) (sym notes.place)
                (PassesTo-once (inl (n, looks, gone))));
            spends = grind (arith, consumes_left, length-take-le, length-drop);
            idle = λ done. absurd (looks.4 (subst (λ x. IsDone g x.place) (sym (so.idle done).1) done));
          }

  pub skipped_none : (s : Buffered S Q) (p : Progress P) → g.is_place p.place → g.ahead ≤ s.block.capacity
      → Skipped remaining rules g s p s p
  skipped_none s p place room =
      record { way = λ slice. Way-none place; gave = EachGave-none s; room = room }

  module _ (s : Buffered S Q) (p : Progress P) (m : Buffered S Q) (q : Progress P) (so : Skipped remaining rules g s p m q) where
    -- all that is buffered was passed
    pub skipped_there : (t : Buffered S Q) (r : Progress P) → PassesOn remaining rules g m q t r
        → Skipped remaining rules g s p t r
    skipped_there t r passes = record {
      way = λ slice. Way-joins (so.way slice) so.gave (PassesOn-way passes);
      gave = EachGave-joins s m t so.gave (EachGave-same m t passes.told);
      room = omega (arith, so.room, passes.takes.along.capacity);
    }

    module _ (l : Look P W) (next : Looks g q.place m.block.bytes l) where
      -- payload comes next
      pub skips_payload : (sure : ℕ) → l ≡ look.Payload sure → (slice : ℕ)
          → SkipsOn remaining rules g slice s p (Ok sure) m q
      skips_payload sure is slice = (so.way slice, (so.gave, inr (subst (Looks g q.place m.block.bytes) is next)))

      -- the body ended
      pub skips_done : l ≡ look.Ended → (slice : ℕ) → SkipsOn remaining rules g slice s p (Ok 0) m q
      skips_done is slice = (so.way slice, (so.gave, inl (refl, subst (Looks g q.place m.block.bytes) is next)))

      -- what comes next is wrong
      pub skips_wrong : (why : W) → l ≡ look.Wrong why → (slice : ℕ)
          → SkipsOn remaining rules g slice s p (Err (Wrong why q.count)) m q
      skips_wrong why is slice = grind arith

      -- there are too few bytes
      module _ (n : ℕ) (is : l ≡ look.More n) where
        looks : Looks g q.place m.block.bytes (look.More n)
        looks = subst (Looks g q.place m.block.bytes) is next

        lacks : IsOpenBelow g q.place n m.block.bytes
        lacks = looks.0

        -- of so many bytes those that are buffered are shown
        pub shows_here : (bytes shown : List ℕ) → shown ≡ take (min n m.block.capacity) bytes
            → length shown ≡ min n (length bytes)
        shows_here bytes shown same = grind (arith, length-take)

        module _ {A : Type 0} (u : Buffered S Q) where
          module _ (answer : Result A Error) (ahead' : ReadsAhead remaining rules (min n m.block.capacity) m answer u) where
            ahead : ReadsAhead remaining rules n m answer u
            ahead = grind (arith, lacks)

            way_ahead : (slice : ℕ) → Way remaining rules g slice s p [] u q
            way_ahead slice = Way-joins (so.way slice) so.gave (record {
              wire = [];
              takes = TakesBytes-still (so.way slice).takes.place ahead.along (ReadsAhead-keeps ahead lacks.most);
              asked = AsksWithRoom-here remaining rules g slice m q.place u (so.way slice).takes.place (omega (arith, looks.1))
                  (ReadsAhead-asks lacks ahead);
              through = inl (omega (arith, ahead.consumed));
              tells = TellsOnce-none (PassesTo-once (inr (ahead.along, ahead.policy, refl)));
              idle = λ done. absurd (IsOpen-goes_on g q.place m.block.bytes (IsOpenBelow-open g q.place n m.block.bytes lacks)
                  done);
            })

          pub skips_fails : (e : Error) → ReadsAhead {A = A} remaining rules (min n m.block.capacity) m (Err e) u
              → (slice : ℕ) → SkipsOn remaining rules g slice s p (Err (Io e)) u q
          skips_fails e ahead' slice =
              let a = ahead (Err e) ahead' in (
                way_ahead (Err e) ahead' slice,
                (FaultedOnce-after s m u so.gave e (ReadsAhead-failed a), ReadsAhead-open lacks a a.ended.0),
              )

          pub skips_cut : (a : A) → ReadsAhead remaining rules (min n m.block.capacity) m (Ok a) u → length u.block.bytes < n
              → (slice : ℕ) → SkipsOn remaining rules g slice s p (Err (Truncated q.count)) u q
          skips_cut a ahead' few slice =
              let so' = ahead (Ok a) ahead' in (
                way_ahead (Ok a) ahead' slice,
                (refl, GaveNothingOnce-after s m u so.gave (ReadsAhead-ended so' few), ReadsAhead-open lacks so' few),
              )

          pub skipped_more : (a : A) → ReadsAhead remaining rules (min n m.block.capacity) m (Ok a) u → n ≤ length u.block.bytes
              → Skipped remaining rules g s p u q
          skipped_more a ahead' enough = record {
            way = way_ahead (Ok a) ahead';
            gave = EachGave-joins s m u so.gave (ReadsAhead-gave (ahead (Ok a) ahead') enough);
            room = omega (arith, so.room, ahead'.capacity);
          }

-- what ends a skip at once, as a look says it
pub ruleset skips_told = (skips_payload, skips_wrong, skips_done)
