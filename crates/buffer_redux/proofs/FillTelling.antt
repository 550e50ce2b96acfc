-- How what was noted of a fill fits what it did.
use Rattle.std.proofs.Common.{◌≡◌, ◌∙◌, ℕ, ◌+◌, ◌<◌, ◌≤◌, List, [], ◌∷◌, length, Option, Result, Ok, Err, true, inl, inr, refl, sym, ap, append-nil, le_refl, arith}
use Rattle.std.proofs.lemmas.Bool.{cases_lt, MatchBool-at_true}
use Rattle.std.specs.declared.io.Error.{Error}
use Rattle.redux_buffer.specs.GoesOn.{GoesOn-none}
use Rattle.redux_buffer.specs.StreamLog.{StreamLog, after_fill, end_of_some, with_end}
use Rattle.redux_buffer.specs.LogGrows.{FillLogGrows}
use Rattle.buffer_redux.specs.Policy.{ReadRules}
use Rattle.buffer_redux.specs.Buffered.{Buffered, with_calls}
use Rattle.buffer_redux.specs.Fill.{Ends, Filled}
use Rattle.buffer_redux.specs.BufReader.{Fills, InnerGives}
use Rattle.buffer_redux.specs.EmptyReads.{Filled-capacity, ReadsWhenEmpty, none_before_fault, none_where_shown, fill_once}
use Rattle.buffer_redux.specs.ReaderLaws.{Fills-empty, WantsBytes}
use Rattle.buffer_redux.specs.Sparing.{Spared-noted}
use Rattle.buffer_redux.specs.ReaderTells.{FaultsAlike, ReaderWent}
use Rattle.buffer_redux.proofs.Offering.{fill_offered}

end_rises : (n : ℕ) (shown : List ℕ) → n ≤ with_end n shown
end_rises n shown = grind arith

end_noted : (n : ℕ) (shown : List ℕ) → length shown ≡ 0 → with_end n shown ≡ n + 1
end_noted n shown none = grind arith

consumed_stays : {A : Type 0} (log : StreamLog) (answer : Result A Error) (shown : List ℕ)
    → (after_fill log answer shown).fills.consumed ≡ log.fills.consumed
consumed_stays log (Ok a) shown = refl
consumed_stays log (Err e) shown = refl

fill_grows : {A : Type 0} (log : StreamLog) (answer : Result A Error) (shown : List ℕ)
    → FillLogGrows log.fills (after_fill log answer shown).fills
fill_grows log (Ok a) shown =
    record {
      consumed = GoesOn-none log.fills.consumed;
      asks = omega arith;
      consumes = le_refl _;
      ends = end_rises log.fills.zero_fills shown;
      faults = GoesOn-none log.fills.faults;
    }
fill_grows log (Err e) shown =
    record {
      consumed = GoesOn-none log.fills.consumed;
      asks = omega arith;
      consumes = le_refl _;
      ends = le_refl _;
      faults = record { more = e ∷ []; equal = refl };
    }

-- noting a call changes nothing of what filling did
module _ {S P A : Type 0} (rules : ReadRules P) (t : Buffered S P) (calls : StreamLog) where
  ends_noted : (s : Buffered S P) (answer : Result A Error) → Ends rules s answer t
      → Ends rules s answer (with_calls t calls)
  ends_noted s (Ok a) (inl end) = inl (record { asked = end.asked; told = end.told })
  ends_noted s (Ok a) (inr (inl end)) = inr (inl (end.0, record { asked = end.1.asked; told = end.1.told }))
  ends_noted s (Ok a) (inr (inr end)) = inr (inr (record {
    seen = end.seen;
    asked = end.asked;
    room = end.room;
    read = end.read;
  }))
  ends_noted s (Err e) (inl end) = inl (record { asked = end.asked; told = end.told })
  ends_noted s (Err e) (inr end) = inr (record {
    seen = end.seen;
    asked = end.asked;
    room = end.room;
    read = end.read;
  })

  pub filled_noted : (s : Buffered S P) (answer : Result A Error) → Filled rules s answer t
      → Filled rules s answer (with_calls t calls)
  filled_noted s answer f =
      record { count = f.count; last = f.last; turns = f.turns; ends = ends_noted f.last answer f.ends }

-- a fill that was noted
module _ {S P : Type 0} (remaining : S → Option (List ℕ)) (rules : ReadRules P) (s m : Buffered S P) where
  faults_alike : (answer : Result (Unit {0}) Error) → Fills rules s answer m → (rules.claims s.policy).steady ≡ true
      → FaultsAlike s.own_calls.fills.faults (after_fill s.own_calls answer m.block.bytes).fills.faults
      s.log.reads.faults m.log.reads.faults
  faults_alike (Ok a) f steady =
      record {
        more = [];
        first = sym (append-nil s.own_calls.fills.faults);
        second = f.caused ∙ sym (append-nil s.log.reads.faults);
      }
  faults_alike (Err e) f steady = record {
    more = e ∷ [];
    first = refl;
    second = elim f.caused [
      | inl fault ↦ fault
      | inr gave ↦
          absurd (MatchBool-at_true _ _ (ap (λ x. x.steady) (sym gave.gave.claims ∙ f.claims) ∙ steady) gave.gave.steady)
    ];
  }

  ends_bound : (answer : Result (Unit {0}) Error) → Fills rules s answer m → WantsBytes (rules.claims s.policy)
      → 0 < s.block.capacity → (after_fill s.own_calls answer m.block.bytes).fills.zero_fills + s.log.reads.zero_reads
      ≤ s.own_calls.fills.zero_fills + m.log.reads.zero_reads
  ends_bound (Ok a) f wants room = elim (cases_lt 0 (length m.block.bytes)) [
    | inl some ↦ omega (arith, end_of_some s.own_calls.fills.zero_fills m.block.bytes some, f.grows.zero_reads)
    | inr few ↦ (
        let none : length m.block.bytes ≡ 0 = omega (arith, few) in
        omega (
          arith,
          end_noted s.own_calls.fills.zero_fills m.block.bytes none,
          Fills-empty rules s a m f wants room none,
        )
        )
  ]
  ends_bound (Err e) f wants room = omega (arith, f.grows.zero_reads)

  once_bound : (answer : Result (Unit {0}) Error) → Fills rules s answer m → ReadsWhenEmpty rules
      → s.own_calls.fills.zero_fills + m.log.reads.zero_reads
      ≤ (after_fill s.own_calls answer m.block.bytes).fills.zero_fills + s.log.reads.zero_reads
  once_bound (Ok a) f orders = elim (cases_lt 0 (length m.block.bytes)) [
    | inl some ↦ omega (
      arith,
      end_of_some s.own_calls.fills.zero_fills m.block.bytes some,
      none_where_shown rules orders s m a f.filled some,
    )
    | inr few ↦ omega (
      arith,
      end_noted s.own_calls.fills.zero_fills m.block.bytes (omega (arith, few)),
      fill_once rules s m (Ok a) f.filled,
    )
  ]
  once_bound (Err e) f orders = omega (arith, none_before_fault rules orders s m e f.filled)

  fill_went : (answer : Result (Unit {0}) Error) → Fills rules s answer m → InnerGives remaining s m
      → ReaderWent remaining rules s (with_calls m (after_fill s.own_calls answer m.block.bytes))
  fill_went answer f gives = record {
    handed = [];
    consumed = consumed_stays s.own_calls answer m.block.bytes ∙ sym (append-nil s.own_calls.fills.consumed);
    in_order = record {
      got = f.in_order.got;
      given = f.in_order.given;
      equal = f.in_order.equal;
      consumed = f.in_order.consumed;
    };
    known = gives;
    grows = f.grows;
    own_grows = fill_grows s.own_calls answer m.block.bytes;
    capacity = f.capacity;
    kind = f.kind;
    claims = f.claims;
    sparing = λ keep claims.
        Spared-noted keep s m (after_fill s.own_calls answer m.block.bytes) (f.sparing keep claims);
    faults = faults_alike answer f;
    ends = ends_bound answer f;
    once = once_bound answer f;
    offers = λ leaves whole.
        let capacity = Filled-capacity rules leaves s answer m f.filled in record {
          whole = f.whole;
          capacity = capacity;
          offer = elim (fill_offered rules leaves s answer m whole f.filled) [
            | inl none ↦ inl (ap (λ l. l.reads) none)
            | inr all ↦ inr (all.0 ∙ sym capacity, all.1)
          ];
        };
  }

  pub filled_went : (t : Buffered S P) → t ≡ m → (calls : StreamLog) → (answer : Result (Unit {0}) Error)
      → Fills rules s answer m → InnerGives remaining s m → calls ≡ after_fill s.own_calls answer t.block.bytes
      → ReaderWent remaining rules s (with_calls t calls)
  filled_went t is calls answer f gives noted = rw (noted, is) (fill_went answer f gives)
