-- Payload that is buffered is handed out, and nobody is asked.
use Rattle.std.proofs.Common.{◌≡◌, ℕ, zero, suc, ◌+◌, ◌-◌, ◌<◌, ◌≤◌, ◌⊎◌, List, [], ◌++◌, length, min, take, drop, Option, None, Some, sym, ap, subst, ◌∙◌, arith, inl, inr, refl, append-nil, length-append}
use Rattle.std.proofs.Math.Seq.{drop-append-add, take-append-add}
use Rattle.std.proofs.lemmas.List.{drop-drop, drop_all, length-drop, length-take-le, take_all}
use Rattle.buffer_redux.specs.Buffered.{Buffered}
use Rattle.buffer_redux.specs.BufReader.{ReaderConsumes}
use Rattle.buffer_redux.specs.Policy.{ReadRules}
use Rattle.buffer_redux.specs.StreamLog.{StreamLog}
use Rattle.body_reader.specs.declared.coding.Look.{Look}
use Rattle.body_reader.specs.declared.coding.Look.TheVariants as look
use Rattle.body_reader.specs.declared.progress.Progress.{Progress}
use Rattle.body_reader.specs.Between.{AllShown, FindsKnown, HandsPiece, HandsManyPieces, HandsShown, LooksNext, NoneShown, PassesOn, TakesBytes, TakesFront}
use Rattle.body_reader.specs.BetweenLaws.{PassesTo-none, TakesBytes-joins, TakesBytes-none}
use Rattle.body_reader.specs.BodyReader.{Breaks, EndsEarly, HandsBuffered, IsBodyReader, NotedIfSome, TookWholeBody, seen}
use Rattle.body_reader.specs.BodyReaderLaws.{NotedIfSome-given}
use Rattle.body_reader.specs.Coding.{Grammar, IsDone, IsKnown, IsLawful, Looks}
use Rattle.body_reader.specs.CodingLaws.{IsOpenBelow-open, Leads-done, Leads-whole, open_at}
use Rattle.body_reader.proofs.Filling.{Carries-fewer, all_shown}
use Rattle.body_reader.proofs.Payload.{breaks_so, early, state_is, state_went}
use Rattle.body_reader.proofs.Skipping.{consumes_parts, passed_none}
use borrow.Rule.Slice.PartMut.{mid_of, put_mid}

-- a slice of which the rest was written
put_rest : (out tail : List ℕ) (n : ℕ) → put_mid n (length out - n) out tail ≡ take n out ++ tail
put_rest out tail n = grind (arith, drop_all, length-drop, append-nil)

-- behind what is handed out it stays as it was
pub rest_kept : (was out rest : List ℕ) (handed n : ℕ) → handed ≤ length out → drop handed out ≡ drop handed was
    → drop n rest ≡ drop n (mid_of handed (length out - handed) out)
    → drop (handed + n) (put_mid handed (length out - handed) out rest) ≡ drop (handed + n) was
rest_kept was out rest handed n within is same =
    grind (arith, put_rest, length-take-le, within, drop-append-add, take_all, length-drop, drop-drop)

module _ {S Q P W : Type 0} (remaining : S → Option (List ℕ)) (rules : ReadRules Q) (g : Grammar P W) where
  -- some is known
  pub known_found : (s : Buffered S Q) (p : Progress P) (k : ℕ) → g.is_place p.place → IsKnown g p.place k s.block.bytes → 0 < k
      → FindsKnown remaining rules g s p k None s p k
  known_found s p k place known some = search (rules, passed_none, arith)

  module _ (s : Buffered S Q) (p : Progress P) (before : ℕ) (unknown : before ≡ 0) (l : Look P W) (t : Buffered S Q)
      (q : Progress P) (passes : PassesOn remaining rules g s p t q) (next : LooksNext g q.place t.block.bytes l) where
    -- payload comes next
    pub payload_found : (sure : ℕ) → l ≡ look.Payload sure → 0 < length t.block.bytes → (k : ℕ)
        → k ≡ min sure (length t.block.bytes) → FindsKnown remaining rules g s p before None t q k
    payload_found sure is held k count =
        let looks : Looks g q.place t.block.bytes (look.Payload sure) = subst (Looks g q.place t.block.bytes) is next.0 in
        let some : 0 < k = omega (arith, looks.0.some, held, count) in
        record {
          passes = passes;
          known = (omega (arith, count), λ _. Carries-fewer g q.place sure k t.block.bytes looks.0 some (omega (arith, count)));
          kept = λ some. absurd (omega (arith, some, unknown));
          all = λ _ _. all_shown remaining rules g q.place t.block.bytes sure k (looks.0, looks.1, looks.2) count;
          none = some;
        }

    -- or none that is buffered does
    none_so : IsLawful g → (m : Look P W) → LooksNext g q.place t.block.bytes m
        → ((n : ℕ) → m ≡ look.Payload n → length t.block.bytes < 1) → NoneShown remaining rules g q.place t.block.bytes
    none_so lawful (look.Payload n) looks empty =
        inr (inl (open_at g lawful q.place passes.takes.place looks.0.0.goes_on t.block.bytes (empty n refl)))
    none_so lawful (look.Passed n r) looks empty = absurd (looks.1 n r refl)
    none_so lawful (look.More n) looks empty = inr (inl (IsOpenBelow-open g q.place n t.block.bytes looks.0.0))
    none_so lawful (look.Wrong why) looks empty = inr (inr (why, looks.0.0))
    none_so lawful look.Ended looks empty = inl looks.0

    pub none_found : IsLawful g → ((n : ℕ) → l ≡ look.Payload n → length t.block.bytes < 1) → (k : ℕ) → k ≡ 0
        → FindsKnown remaining rules g s p before (Some l) t q k
    none_found lawful empty k none = grind (arith, none_so)

  -- so much was handed out so far
  pub record Shown (s : Buffered S Q) (p : Progress P) (before : ℕ) (out : List ℕ) (handed : ℕ) (m : Buffered S Q)
      (q : Progress P) (k : ℕ) : Type 0 where
    pub wire : List ℕ
    pub takes : TakesBytes remaining rules g s p wire (take handed out) m q
    pub told : m.log ≡ s.log
    pub pieces : (count : ℕ) × HandsManyPieces remaining rules g count s p.place before handed m q.place k
    pub within : handed ≤ length out
    pub known : IsKnown g q.place k m.block.bytes
    pub left : handed ≤ before → k ≡ before - handed
    pub fresh : handed ≡ 0 → (m ≡ s) × (k ≡ before)
    pub consumed : 0 < handed → handed ≤ before → ReaderConsumes rules handed s m
    pub first : handed < length out → 0 < k → handed ≡ 0
    pub idle : (IsDone g p.place ⊎ (length out ≡ 0)) → (handed ≡ 0) × (m ≡ s) × (q ≡ p) × (k ≡ before)

  pub shown_none : (s : Buffered S Q) (p : Progress P) (out : List ℕ) (k : ℕ) → g.is_place p.place
      → IsKnown g p.place k s.block.bytes → Shown s p k out 0 s p k
  shown_none s p out k place known = record {
    wire = [];
    takes = TakesBytes-none place;
    told = refl;
    pieces = (zero, (refl, refl, refl, refl));
    within = omega arith;
    known = known;
    left = λ _. omega arith;
    fresh = λ _. (refl, refl);
    consumed = λ some. absurd (omega (arith, some));
    first = λ _ _. refl;
    idle = λ _. (refl, refl, refl, refl);
  }

  module _ (s : Buffered S Q) (p : Progress P) (before : ℕ) (out : List ℕ) (handed : ℕ) (m : Buffered S Q) (q : Progress P)
      (k : ℕ) (so : Shown s p before out handed m q k) where
    -- the slice is full
    pub full_shown : length out ≤ handed → HandsShown remaining rules g s p before out handed m q k
    full_shown full =
        let all : handed ≡ length out = omega (arith, full, so.within) in record {
          wire = so.wire;
          takes = so.takes;
          told = so.told;
          pieces = record {
            count = so.pieces.0;
            last = m;
            place = q.place;
            pieces = so.pieces.1;
            passes = PassesTo-none;
            still = λ _. (refl, refl);
          };
          within = so.within;
          known = so.known;
          left = so.left;
          consumed = λ some few. grind arith;
          idle = so.idle;
          full = inl all;
          all = inl all;
        }

    module _ (room : handed < length out) (next : Option (Look P W)) (f : Buffered S Q) (r : Progress P) (k' : ℕ)
        (finds : FindsKnown remaining rules g m q k next f r k') where
      -- what was known stays so
      kept : 0 < k → k' ≡ k
      kept some = (finds.kept some).1

      found_on : TakesBytes remaining rules g s p (so.wire ++ finds.passes.wire) (take handed out) f r
      found_on = subst (λ l. TakesBytes remaining rules g s p (so.wire ++ finds.passes.wire) l f r) (append-nil (take handed out))
          (TakesBytes-joins so.takes finds.passes.takes)

      pub none_shown : k ≡ 0 → k' ≡ 0 → NoneShown remaining rules g r.place f.block.bytes
          → HandsShown remaining rules g s p before out handed f r k'
      none_shown nothing none there = record {
        wire = so.wire ++ finds.passes.wire;
        takes = found_on;
        told = finds.passes.told ∙ so.told;
        pieces = record {
          count = so.pieces.0;
          last = m;
          place = q.place;
          pieces = subst (HandsManyPieces remaining rules g so.pieces.0 s p.place before handed m q.place)
              (omega (arith, nothing, none)) so.pieces.1;
          passes = finds.passes.passes;
          still = λ full. absurd (omega (arith, room, full));
        };
        within = so.within;
        known = finds.known;
        left = λ few. omega (arith, so.left few, nothing, none);
        consumed = λ _ enough. absurd (omega (arith, room, enough, so.left (omega (arith, room, enough)), nothing));
        idle = λ either. grind arith;
        full = inr none;
        all = inr there;
      }

      -- where the body ended none is found
      goes_on : 0 < k' → ¬ IsDone g p.place
      goes_on some done = grind arith

      -- the policy is told of it once
      piece : (n : ℕ) (t : Buffered S Q) (u : Progress P) (k'' : ℕ) → 0 < n → n ≤ k'
          → TakesFront remaining rules g n f r k' t u k''
          → HandsPiece remaining rules g m q.place k n t u.place k''
      piece n t u k'' some few front =
          let all : k' ≡ n + k'' = omega (arith, few, front.left) in record {
            some = some;
            front = f;
            place = r.place;
            passes = finds.passes.passes;
            consumed = front.consumed;
            leads = front.takes.leads;
            known = λ more. let same = finds.kept more in (same.0, omega (arith, all, same.1));
            shown = λ none. subst (λ j. AllShown g r.place j f.block.bytes) all (finds.all none (omega (arith, some, few)));
          }

      -- a further one only where none stayed known
      last : 0 < handed → k ≡ 0
      last some = let none = so.first room in grind (arith, none)

      more : (n : ℕ) (rest : List ℕ) (t : Buffered S Q) (u : Progress P) (k'' : ℕ) → 0 < n → n ≡ min k' (length rest)
          → take n rest ≡ take n f.block.bytes → TakesFront remaining rules g n f r k' t u k''
          → Shown s p before (take handed out ++ rest) (handed + n) t u k''
      more n rest t u k'' some count same front =
          let held : n ≤ length f.block.bytes = omega (arith, count, finds.known.0) in
          let parts = consumes_parts rules n f t held front.consumed in
          let long : length (take handed out) ≡ handed = length-take-le handed out so.within in
          let joined : take (handed + n) (take handed out ++ rest) ≡ take handed out ++ take n f.block.bytes =
          ap (λ j. take (j + n) (take handed out ++ rest)) (sym long) ∙ take-append-add (take handed out) rest n
          ∙ ap (λ l. take handed out ++ l) same in
          let here = piece n t u k'' some (omega (arith, count)) front in
          record {
            wire = (so.wire ++ finds.passes.wire) ++ take n f.block.bytes;
            takes = subst (λ l. TakesBytes remaining rules g s p ((so.wire ++ finds.passes.wire) ++ take n f.block.bytes) l t u)
                (sym joined) (TakesBytes-joins found_on front.takes);
            told = front.consumed.told ∙ finds.passes.told ∙ so.told;
            pieces = (
              suc so.pieces.0,
              (handed, n, k, m, q.place, so.pieces.1, here, last, refl),
            );
            within = omega (arith, count, long, length-append (take handed out) rest);
            known = front.known;
            left = λ few. omega (arith, some, front.left, kept, so.left (omega (arith, few)), few);
            fresh = λ none. absurd (omega (arith, none, some));
            consumed = λ _ few. grind arith;
            first = λ short left. grind (arith, length-append (take handed out) rest);
            idle = λ either. elim either [
              | inl done ↦ absurd (goes_on (omega (arith, some, count)) done)
              | inr empty ↦ absurd (omega (arith, some, count, empty, length-append (take handed out) rest))
            ];
          }

      pub shown_more : (n : ℕ) (rest : List ℕ) (t : Buffered S Q) (u : Progress P) (k'' : ℕ) → 0 < n → n ≡ min k' (length rest)
          → take n rest ≡ take n f.block.bytes → TakesFront remaining rules g n f r k' t u k''
          → Shown s p before (put_mid handed (length out - handed) out rest) (handed + n) t u k''
      shown_more n rest t u k'' some count same front =
          subst (λ l. Shown s p before l (handed + n) t u k'') (sym (put_rest out rest handed))
          (more n rest t u k'' some count same front)

-- the same, seen by contracts
module _ {S Q C P W : Type 0} (remaining : S → Option (List ℕ)) (rules : ReadRules Q) (g : Grammar P W) (lawful : IsLawful g)
    (r : Buffered S Q) (c : C) (p : Progress P) (calls : StreamLog) (k : ℕ) (is : IsBodyReader g (seen r c p calls k))
    (out : List ℕ) (handed : ℕ) (r' : Buffered S Q) (q : Progress P) (k' : ℕ)
    (hands : HandsShown remaining rules g r p k out handed r' q k') (calls' : StreamLog)
    (noted : NotedIfSome calls out handed calls') where
  given : calls'.reads.given ≡ calls.reads.given ++ take handed out
  given = NotedIfSome-given calls out handed calls' noted

  shown_is : IsBodyReader g (seen r' c q calls' k')
  shown_is = state_is hands.takes given is hands.known

  none_left : NoneShown remaining rules g q.place r'.block.bytes
      → TookWholeBody g (seen r' c q calls' k') ⊎ (EndsEarly g (seen r' c q calls' k')
      ⊎ ((why : W) × Breaks g why (seen r' c q calls' k')))
  none_left (inl done) = inl (Leads-whole g _ _ _ _ shown_is.leads done)
  none_left (inr (inl open')) = inr (inl (early shown_is open'))
  none_left (inr (inr (why, wrong))) = inr (inr (why, breaks_so shown_is lawful why wrong))

  -- where the body ended, or into an empty slice, nothing is done
  same : (handed ≡ 0) × (r' ≡ r) × (q ≡ p) × (k' ≡ k) → seen r' c q calls' k' ≡ seen r c p calls k
  same (none, reader, place, known) = let calls = noted.1 none in cc

  idle : (TookWholeBody g (seen r c p calls k) ⊎ (length out ≡ 0)) → seen r' c q calls' k' ≡ seen r c p calls k
  idle (inl whole) = same (hands.idle (inl (Leads-done g lawful _ _ _ _ is.leads is.place whole)))
  idle (inr none) = same (hands.idle (inr none))

  pub shown_reads : HandsBuffered remaining rules g (seen r c p calls k) out handed (seen r' c q calls' k')
  shown_reads = record {
    went = state_went hands.takes given;
    told = hands.told;
    bound = hands.within;
    full = hands.full;
    all = elim hands.all [ inl all ↦ inl all | inr none ↦ inr (none_left none) ];
    left = hands.left;
    consumed = hands.consumed;
    pieces = hands.pieces;
    idle = idle;
    noted = noted;
    whole = shown_is;
  }
