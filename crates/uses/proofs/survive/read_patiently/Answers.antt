-- What a turn handed out joins what was gained before, and each fault that was passed over is one that passes.
use Rattle.std.proofs.Common.{refl, [], ◌∷◌, ◌++◌, sym, append-nil, append_assoc, length-append, vec_items, ◌∙◌, ap, arith, inl, inr, rules}
use Rattle.std.proofs.lemmas.List.Elements.{All-nil, All-push}
use Rattle.std.specs.declared.io.Error.{Error}
use Rattle.buffer_redux.specs.Faults.{IsMemory}
use Rattle.buffer_redux.specs.ReaderLaws.{ReadsAlong-none}
use Rattle.uses.specs.Survive.{MayGoOn}
use Rattle.uses.proofs.Gaining.{Gains-joins, seen}
use Rattle.uses.proofs.survive.read_patiently.Goals.{in-Ok, in-Err+else-left-eq0+else-not-passes, then-left-eq0-via-then-left-eq0, then-left-eq0-via-else-left-eq0+then-not-passes}
use Rattle.uses.proofs.survive.read_patiently.Goals as goal

memory_stays : (e : Error) → IsMemory e → MayGoOn e → ⊥
memory_stays e is (inl interrupted) = cc
memory_stays e is (inr (inl blocked)) = cc
memory_stays e is (inr (inr late)) = cc

pub loop-init : goal.loop-init
loop-init g c = record {
  gains = record {
    handed = [];
    along = ReadsAlong-none _ _ _;
    gained = sym (append-nil (vec_items c.args.into.now));
  };
  met = [];
  counted = omega arith;
  passing = All-nil MayGoOn;
  came = λ _. sym (append-nil _);
  turns = omega arith;
  room = omega arith;
  quiet = λ _. refl;
}

pub loop-preserved : goal.loop-preserved
loop-preserved g c =
    let before = c.loop.invariant in
    let turn = c.read_turn.ensures in
    let went = Gains-joins before.gains turn.gained in
    elim c.match-read_turn.branch [
      | in-Ok w ↦
          (let moved = w.in-Ok.ensures.moved in
          let some = w.in-Ok.field-0-test.1 in
          record {
            gains = went;
            met = before.met;
            counted = omega (arith, before.counted, w.left-is);
            passing = before.passing;
            came = λ steady. moved.none ∙ before.came steady;
            turns = omega (arith, before.turns, moved.count, some);
            room = omega (arith, before.room, turn.capacity);
            quiet = λ orders. (w.in-Ok.ensures.once orders).1 (omega (arith, some)) ∙ before.quiet orders;
          })
      | in-Err+else-left-eq0+else-not-passes w ↦
          (let e = w.in-Err.e in
          let passes : MayGoOn e = w.passes.ensures.0 (search rules) in
          let more = length-append before.met (e ∷ []) in
          record {
            gains = went;
            met = before.met ++ e ∷ [];
            counted = omega (arith, before.counted, more, w.left-is, w.if-left-eq0.false);
            passing = All-push MayGoOn before.met e before.passing passes;
            came = λ steady.
                elim (w.in-Err.ensures.caused (ap (λ x. x.steady) before.gains.along.claims ∙ steady)) [
                  | inl fault ↦ fault ∙ ap (λ l. l ++ e ∷ []) (before.came steady) ∙ append_assoc _ before.met (e ∷ [])
                  | inr memory ↦ absurd (memory_stays e memory.0.memory passes)
                ];
            turns = omega (arith, before.turns, seen turn.gained.along.in_order, more);
            room = omega (arith, before.room, turn.capacity);
            quiet = λ orders. w.in-Err.ensures.once orders ∙ before.quiet orders;
          })
    ]

pub returns-in-Ok-eq0-clause-gained : goal.returns-in-Ok-eq0-clause-gained
returns-in-Ok-eq0-clause-gained g c = Gains-joins c.loop.invariant.gains c.read_turn.ensures.gained

pub returns-in-Ok-eq0-clause-once : goal.returns-in-Ok-eq0-clause-once
returns-in-Ok-eq0-clause-once g c orders =
    omega (arith, (c.in-Ok-eq0.ensures.once orders).0 c.in-Ok-eq0.field-0-test, c.loop.invariant.quiet orders)

pub returns-in-Ok-eq0-clause-endures : goal.returns-in-Ok-eq0-clause-endures
returns-in-Ok-eq0-clause-endures g c steady =
    let before = c.loop.invariant in
    (before.met, omega (arith, before.counted), before.passing, c.in-Ok-eq0.ensures.moved.none ∙ before.came steady)

pub returns-then-left-eq0 : goal.returns-then-left-eq0
returns-then-left-eq0 g c =
    let before = c.loop.invariant in
    record {
      gained = Gains-joins before.gains c.read_turn.ensures.gained;
      end = tt;
      once = λ orders. c.in-Err.ensures.once orders ∙ before.quiet orders;
      endures = λ steady. (
        before.met,
        omega (arith, before.counted),
        before.passing,
        elim (c.in-Err.ensures.caused (ap (λ x. x.steady) before.gains.along.claims ∙ steady)) [
          | inl fault ↦ inl (
            fault ∙ ap (λ l. l ++ c.in-Err.e ∷ []) (before.came steady),
            λ passes. elim c.then-left-eq0.branch [
              | then-left-eq0-via-then-left-eq0 w ↦ omega (arith, before.counted, w.if-left-eq0.true)
              | then-left-eq0-via-else-left-eq0+then-not-passes w ↦ (let odd = w.passes.ensures.1 passes in cc)
            ],
          )
          | inr memory ↦ inr (
            memory.1 ∙ before.came steady,
            inl (record {
              memory = memory.0.memory;
              more = omega (arith, memory.0.more, before.room);
            }),
          )
        ],
      );
    }

pub returns : goal.returns
returns g c =
    let before = c.loop.invariant in
    record {
      gained = before.gains;
      end = tt;
      once = before.quiet;
      endures = λ steady. (
        before.met,
        omega (arith, before.counted),
        before.passing,
        inr (
          before.came steady,
          inr (record { other = c.from.ensures; large = omega (arith, before.turns, c.loop-test.false) }),
        ),
      );
    }
