-- What stands behind a body is looked at.
use Rattle.std.proofs.Common.{◌≡◌, ◌==◌, Bool, MatchBool, true, false, ℕ, ◌<◌, ◌≤◌, List, [], ◌++◌, length, min, take, Option, Result, MatchResult, Ok, Err, inl, inr, sym, ap, subst, arith, refl, append-nil, length-append}
use Rattle.std.proofs.lemmas.Bool.{eqb-true}
use Rattle.std.proofs.lemmas.List.{length-take, nil_from_length}
use Rattle.std.specs.declared.io.Error.{Error}
use Rattle.buffer_redux.specs.Buffered.{Buffered}
use Rattle.buffer_redux.specs.Peek.{ReadsAhead}
use Rattle.buffer_redux.specs.Policy.{ReadRules}
use Rattle.buffer_redux.specs.StreamLog.{StreamLog}
use Rattle.buffer_redux.specs.Unbuffer.{unbuffered}
use Rattle.body_reader.specs.declared.progress.Progress.{Progress}
use Rattle.buffer_redux.specs.AskingLaws.{AskedWhere-of}
use Rattle.body_reader.specs.Between.{EachGave, FaultedOnce, GaveNothingOnce, TakesBytes}
use Rattle.body_reader.specs.BetweenLaws.{ReadsAhead-asked, ReadsAhead-ended, ReadsAhead-failed, ReadsAhead-gave, ReadsAhead-keeps, TakesBytes-still}
use Rattle.body_reader.specs.BodyReader.{IsBodyReader, LooksBehind, seen}
use Rattle.body_reader.specs.Coding.{Carries, Grammar, IsKnown, IsLawful}
use Rattle.body_reader.proofs.Filling.{Carries-less, one_ahead}
use Rattle.body_reader.proofs.Handing.{some_of}
use Rattle.body_reader.proofs.Payload.{state_is, state_went}

-- what is known stays so where more is shown
known_more : {P W : Type 0} (g : Grammar P W) (p : P) (k : ℕ) (bytes got all : List ℕ) → all ≡ bytes ++ got
    → IsKnown g p k bytes → IsKnown g p k all
known_more g p k bytes got all is known = (
  omega (arith, known.0, ap length is, length-append bytes got),
  λ some. subst (Carries g p k) (sym is) (Carries-less g p k k bytes got (known.1 some) some (omega arith)),
)

module _ {S Q C P W A : Type 0} (remaining : S → Option (List ℕ)) (rules : ReadRules Q) (g : Grammar P W) (lawful : IsLawful g)
    (r : Buffered S Q) (c : C) (p : Progress P) (calls : StreamLog) (k : ℕ) (is : IsBodyReader g (seen r c p calls k))
    (r' : Buffered S Q) where
  module _ (answer : Result A Error) (ahead' : ReadsAhead remaining rules (min 1 r.block.capacity) r answer r') where
    ahead : ReadsAhead remaining rules 1 r answer r'
    ahead = one_ahead remaining rules r answer r' (omega (arith, is.room, lawful.some)) ahead'

    looks : (told : Result Bool Error) → MatchResult told
        (λ none. MatchBool none ((r'.block.bytes ≡ []) × GaveNothingOnce r r') ((0 < length r'.block.bytes) × EachGave r r'))
        (λ e. (r'.block.bytes ≡ []) × FaultedOnce r e r')
        → LooksBehind remaining rules g (seen r c p calls k) told (seen r' c p calls k)
    looks told answers =
        let takes : TakesBytes remaining rules g r p [] [] r' p =
        TakesBytes-still is.place ahead.along (ReadsAhead-keeps ahead lawful.some) in
        let order = ahead.along.in_order in
        record {
          went = state_went takes (sym (append-nil calls.reads.given));
          answers = answers;
          asked = AskedWhere-of (λ bytes. length bytes < 1) (λ bytes. bytes ≡ []) (unbuffered r) (unbuffered r')
              (λ more few. nil_from_length (r.block.bytes ++ more) (omega (arith, few))) (ReadsAhead-asked ahead);
          offer = elim ahead.asked [ inl same ↦ inl same | inr over ↦ inr over.offer ];
          policy = ahead.policy;
          still = refl;
          whole = state_is takes (sym (append-nil calls.reads.given)) is
              (known_more g p.place k r.block.bytes order.got r'.block.bytes order.equal is.known);
        }

  pub looks_failed : (e : Error) → ReadsAhead {A = A} remaining rules (min 1 r.block.capacity) r (Err e) r'
      → LooksBehind remaining rules g (seen r c p calls k) (Err e) (seen r' c p calls k)
  looks_failed e ahead' = looks (Err e) ahead' (Err e) (
    nil_from_length r'.block.bytes (omega (arith, (ahead (Err e) ahead').ended.0)),
    ReadsAhead-failed (ahead (Err e) ahead'),
  )

  pub looks_told : (a : A) → ReadsAhead remaining rules (min 1 r.block.capacity) r (Ok a) r' → (shown : List ℕ)
      → shown ≡ take (min 1 r.block.capacity) r'.block.bytes → (none : Bool) → none ≡ (length shown == 0)
      → LooksBehind remaining rules g (seen r c p calls k) (Ok none) (seen r' c p calls k)
  looks_told a ahead' shown is' true none =
      let few : length r'.block.bytes < 1 = omega (
        arith,
        eqb-true _ _ (sym none),
        ap length is',
        length-take (min 1 r.block.capacity) r'.block.bytes,
        is.room,
        lawful.some,
      ) in
      looks (Ok a) ahead' (Ok true)
      (nil_from_length r'.block.bytes (omega (arith, few)), ReadsAhead-ended (ahead (Ok a) ahead') few)
  looks_told a ahead' shown is' false some =
      let more : 1 ≤ length r'.block.bytes = omega (
        arith,
        some_of (length shown) some,
        ap length is',
        length-take (min 1 r.block.capacity) r'.block.bytes,
      ) in
      looks (Ok a) ahead' (Ok false) (omega (arith, more), ReadsAhead-gave (ahead (Ok a) ahead') more)
