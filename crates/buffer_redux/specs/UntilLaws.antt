-- What calls that go on up to a byte do to the bytes that are known to be left.
use Rattle.std.specs.Prelude.{◌≡◌, ℕ, ◌<◌, Bool, false, true, cond, List, [], ◌∷◌, ◌++◌, Result, Ok, Err, Option, None, Some, IfSome, IfOk, OnOk, length}
use Rattle.std.proofs.Common.{◌∙◌, eqb, ap, append-nil, append_assoc, arith, inl, inr, length-append, refl, subst, sym}
use Rattle.std.proofs.BufReadLemmas.{take_through-append}
use Rattle.std.proofs.lemmas.List.{append_cancel_left, nil_from_length}
use Rattle.std.specs.Io.BufRead.{take_through, drop_through, DropsThrough}
use Rattle.std.specs.Io.KnownBytes.{Consumes}
use Rattle.std.specs.declared.io.Error.{Error}
use Rattle.buffer_redux.specs.Policy.{ReadRules}
use Rattle.buffer_redux.specs.Buffered.{Buffered}
use Rattle.buffer_redux.specs.BufReader.{ReadsAlong, ReadsToEnd}
use Rattle.buffer_redux.specs.ReadAll.{HandedFront}
use Rattle.buffer_redux.specs.ReaderLaws.{ReadsAlong-left, ReadsToEnd-known, ReaderKeeps-along, WantsBytes}
use Rattle.buffer_redux.specs.ReadUntil.{EndsIn, EndsUntil, Lacks, ReadsUntil, SkipsUntil, Stops, no_memory}
use Rattle.buffer_redux.specs.Remaining.{ahead, may_stop, reader_remaining}
use Rattle.buffer_redux.specs.RemainingLaws.{may_stop-false}

pub lacking_through : (byte : ℕ) (bytes : List ℕ) → Lacks byte bytes → bytes ≡ take_through byte bytes
lacking_through byte bytes plain =
    sym (append-nil bytes) ∙ sym (take_through-append byte bytes [] plain) ∙ ap (take_through byte) (append-nil bytes)

found_through : (byte : ℕ) (rest : List ℕ) → byte ∷ [] ≡ take_through byte (byte ∷ rest)
found_through byte rest = grind arith

pub ending_through : (byte : ℕ) (bytes rest : List ℕ) → EndsIn byte bytes → bytes ≡ take_through byte (bytes ++ rest)
ending_through byte bytes rest ends =
    ends.equal ∙ ap (λ l. ends.front ++ l) (found_through byte rest)
    ∙ sym (take_through-append byte ends.front (byte ∷ rest) ends.plain)
    ∙ ap (take_through byte) (sym (append_assoc ends.front (byte ∷ []) rest) ∙ ap (λ l. l ++ rest) (sym ends.equal))

ending_known : (byte : ℕ) (a b : Option (List ℕ)) (handed : List ℕ) → EndsIn byte handed → Consumes a b handed
    → IfSome a (λ xs. handed ≡ take_through byte xs)
ending_known byte None b handed ends went = tt
ending_known byte (Some xs) None handed ends went = absurd went
ending_known byte (Some xs) (Some ys) handed ends went =
    ending_through byte handed ys ends ∙ ap (take_through byte) (sym went)

-- what stands through the first such byte, and what behind it
through_front : (byte : ℕ) (xs : List ℕ) → take_through byte xs ++ drop_through byte xs ≡ xs
through_front byte [] = refl
through_front byte (x ∷ xs) = at (eqb x byte) (through_front byte xs)
  where
    at : (b : Bool) → take_through byte xs ++ drop_through byte xs ≡ xs
        → cond b (x ∷ []) (x ∷ take_through byte xs) ++ cond b xs (drop_through byte xs) ≡ x ∷ xs
    at true whole = refl
    at false whole = ap (λ l. x ∷ l) whole

dropped_known : (byte : ℕ) (a b : Option (List ℕ)) (handed : List ℕ) → Consumes a b handed
    → IfSome a (λ xs. handed ≡ take_through byte xs) → DropsThrough a b byte
dropped_known byte None b handed went is = tt
dropped_known byte (Some xs) None handed went is = absurd went
dropped_known byte (Some xs) (Some ys) handed went is = ap Some (append_cancel_left (take_through byte xs) ys
    (drop_through byte xs) (ap (λ l. l ++ ys) (sym is) ∙ sym went ∙ sym (through_front byte xs)))

pub appended_known : (byte : ℕ) (before handed after : List ℕ) → after ≡ before ++ handed → (a : Option (List ℕ))
    → IfSome a (λ xs. handed ≡ take_through byte xs) → IfSome a (λ xs. after ≡ before ++ take_through byte xs)
appended_known byte before handed after same None known = tt
appended_known byte before handed after same (Some xs) known = same ∙ ap (λ l. before ++ l) known

counted_known : (byte : ℕ) (handed : List ℕ) (n : ℕ) → n ≡ length handed → (a : Option (List ℕ))
    → IfSome a (λ xs. handed ≡ take_through byte xs) → IfSome a (λ xs. n ≡ length (take_through byte xs))
counted_known byte handed n count None known = tt
counted_known byte handed n count (Some xs) known = count ∙ ap length known

IfSome-if : (b : Bool) (a : Option (List ℕ)) (Q : List ℕ → Type 0) → (b ≡ false → IfSome (cond b None a) Q)
    → IfSome (cond b None a) Q
IfSome-if true a Q h = tt
IfSome-if false a Q h = h refl

module _ {S P : Type 0} (remaining : S → Option (List ℕ)) (rules : ReadRules P) (byte : ℕ) (s : Buffered S P) where
  -- at Ok just those were handed out that are known to be left up to the byte
  pub EndsUntil-known : (leaves : List ℕ → Type 0) (stops : Stops) (n : ℕ) (handed : List ℕ) (t : Buffered S P)
      → HandedFront remaining rules s handed t → EndsUntil leaves stops remaining rules byte s (Ok n) handed t
      → IfSome (reader_remaining remaining rules s) (λ xs. handed ≡ take_through byte xs)
  EndsUntil-known leaves stops n handed t front ends = elim ends [
    | inl reached ↦ ending_known byte (reader_remaining remaining rules s) (reader_remaining remaining rules t) handed
        reached.0
        (ReadsAlong-left remaining rules s handed t
        (ReaderKeeps-along remaining rules s handed t front.in_order front.keeps))
    | inr all ↦ IfSome-if (may_stop rules s) (ahead remaining s) (λ xs. handed ≡ take_through byte xs)
        (λ is. ReadsToEnd-known remaining rules s handed t (λ xs. handed ≡ take_through byte xs)
        (all.end (may_stop-false rules s is).0 (may_stop-false rules s is).1)
        (lacking_through byte handed all.fills.passes.plain))
  ]

  -- at Ok just the bytes known to be left up to the byte were counted
  pub SkipsUntil-known : (answer : Result ℕ Error) (t : Buffered S P) → SkipsUntil remaining rules byte s answer t
      → IfOk answer (λ n. IfSome (reader_remaining remaining rules s) (λ xs. n ≡ length (take_through byte xs)))
  SkipsUntil-known (Err e) t skips = tt
  SkipsUntil-known (Ok n) t skips = counted_known byte skips.handed n skips.count (reader_remaining remaining rules s)
      (EndsUntil-known (λ left. left ≡ []) no_memory n skips.handed t skips.front skips.ends)

  -- at Ok just the bytes known to be left up to the byte were appended
  pub ReadsUntil-known : (before : List ℕ) (answer : Result ℕ Error) (after : List ℕ) (t : Buffered S P)
      → ReadsUntil remaining rules byte s before answer after t
      → OnOk answer (IfSome (reader_remaining remaining rules s) (λ xs. after ≡ before ++ take_through byte xs))
  ReadsUntil-known before (Err e) after t reads = tt
  ReadsUntil-known before (Ok n) after t reads = appended_known byte before reads.handed after reads.appended
      (reader_remaining remaining rules s)
      (EndsUntil-known (λ left. left ≡ []) no_memory n reads.handed t reads.front reads.ends)

  -- at Ok just the bytes known to be left up to the byte are gone
  pub ReadsUntil-drops : (before : List ℕ) (n : ℕ) (after : List ℕ) (t : Buffered S P)
      → ReadsUntil remaining rules byte s before (Ok n) after t
      → DropsThrough (reader_remaining remaining rules s) (reader_remaining remaining rules t) byte
  ReadsUntil-drops before n after t reads = dropped_known byte (reader_remaining remaining rules s)
      (reader_remaining remaining rules t) reads.handed
      (ReadsAlong-left remaining rules s reads.handed t
      (ReaderKeeps-along remaining rules s reads.handed t reads.front.in_order reads.front.keeps))
      (EndsUntil-known (λ left. left ≡ []) no_memory n reads.handed t reads.front reads.ends)

  -- the call as a trace, whatever it answers
  pub ReadsUntil-along : (before : List ℕ) (answer : Result ℕ Error) (after : List ℕ) (t : Buffered S P)
      → (reads : ReadsUntil remaining rules byte s before answer after t) → ReadsAlong remaining rules s reads.handed t
  ReadsUntil-along before answer after t reads =
      ReaderKeeps-along remaining rules s reads.handed t reads.front.in_order reads.front.keeps

  -- one that appended nothing has met the end
  pub ReadsUntil-end : (before after : List ℕ) (t : Buffered S P)
      → ReadsUntil remaining rules byte s before (Ok 0) after t → WantsBytes (rules.claims s.policy)
      → 0 < s.block.capacity → (after ≡ before) × ReadsToEnd remaining rules s [] t
  ReadsUntil-end before after t reads wants some = elim reads.ends [
    | inl reached ↦ absurd (omega (
      arith,
      reads.count,
      ap length reached.0.equal,
      length-append reached.0.front (byte ∷ []),
    ))
    | inr ended ↦ (
      reads.appended ∙ ap (λ l. before ++ l) nothing ∙ append-nil before,
      subst (λ l. ReadsToEnd remaining rules s l t) nothing (ended.end wants some),
    )
  ]
    where
      nothing : reads.handed ≡ []
      nothing = nil_from_length reads.handed (sym reads.count)
