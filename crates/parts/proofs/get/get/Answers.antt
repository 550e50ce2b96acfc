-- Each turn goes on to the next part, and the text of the first of the name is written from its first byte on.
use Rattle.std.proofs.Common.{[], ◌∷◌, Ok, Err, true, false, inl, inr, refl, arith}
use Rattle.std.proofs.lemmas.List.Elements.{All-cons, All-nil}
use Rattle.std.proofs.lemmas.Result.{err_from_is_err_and}
use Rattle.parts.specs.Sections.{SaysName, Turn}
use Rattle.parts.specs.declared.error.RunError.TheVariants.{Many, Missing}
use Rattle.parts.proofs.Parts.{comes, parts_none, wrote}
use Rattle.parts.proofs.get.get.Goals as goal

pub loop-part-init : goal.loop-part-init
loop-part-init g c = record {
  turns = [];
  so = parts_none c.args.parts.now c.requires.stands c.requires.none c.requires.begins;
  none = All-nil (λ (turn : Turn). ¬ SaysName c.args.name.now turn.head);
  still = refl;
}

pub returns-in_err-next_part : goal.returns-in_err-next_part
returns-in_err-next_part g c =
    let i = c.loop-part.invariant in
    let p = err_from_is_err_and c.from_residual.result c.from_residual.ensures.1 in
    let next = comes g.R.TellRead.remaining i.so (Err c.in_err-next_part.field-0.0) c.next_part.new.self
    c.in_err-next_part.ensures.next in
    rw (p.1, p.2) (inl (_, refl, record { turns = i.turns; text = next.0; none = i.none; stops = next.2 }, i.still))

pub returns-then-not-branch : goal.returns-then-not-branch
returns-then-not-branch g c =
    let i = c.loop-part.invariant in
    let next = comes g.R.TellRead.remaining i.so (Ok false) c.next_part.new.self
    (rw c.if-not-branch.true at c.in_ok-next_part.ensures.next) in
    inl (Missing, refl, record { turns = i.turns; text = next.0; none = i.none; stops = next.2 }, i.still)

pub returns-in_err-take_text : goal.returns-in_err-take_text
returns-in_err-take_text g c =
    let i = c.loop-part.invariant in
    let next = comes g.R.TellRead.remaining i.so (Ok true) c.next_part.new.self
    (rw c.if-not-branch.false at c.in_ok-next_part.ensures.next) in
    let p = err_from_is_err_and c.from_residual-in_err-take_text.result c.from_residual-in_err-take_text.ensures.1 in
    let did = wrote g.R.TellRead.remaining g.W.Tell.log g.W.TellWrite.trace next.2.0 next.2.1
    (rw c.head.ensures at c.if-is_named.ensures.0 refl) i.none c.in_err-take_text.ensures in
    rw (p.1, p.2, ← i.still) (inr (record { named = did.named; ends = did.ends; puts = did.puts }))

pub returns-then-is_named : goal.returns-then-is_named
returns-then-is_named g c =
    let i = c.loop-part.invariant in
    let next = comes g.R.TellRead.remaining i.so (Ok true) c.next_part.new.self
    (rw c.if-not-branch.false at c.in_ok-next_part.ensures.next) in
    let did = wrote g.R.TellRead.remaining g.W.Tell.log g.W.TellWrite.trace next.2.0 next.2.1
    (rw c.head.ensures at c.if-is_named.ensures.0 refl) i.none c.in_ok-take_text.ensures in
    rw (← i.still) (inr (record { named = did.named; ends = did.ends; puts = did.puts }))

pub loop-part-preserved : goal.loop-part-preserved
loop-part-preserved g c =
    let i = c.loop-part.invariant in
    let next = comes g.R.TellRead.remaining i.so (Ok true) c.next_part.new.self
    (rw c.if-not-branch.false at c.in_ok-next_part.ensures.next) in
    record {
      turns = record { text = next.0; head = c.next_part.new.self.head } ∷ i.turns;
      so = next.2.0;
      none = All-cons (λ (turn : Turn). ¬ SaysName c.args.name.now turn.head) _ i.turns
          (λ named. let odd = c.if-is_named.ensures.1 (rw (← c.head.ensures) at named) in cc) i.none;
      still = i.still;
    }

pub returns : goal.returns
returns g c =
    let i = c.loop-part.invariant in
    inl (
      Many,
      refl,
      record {
        turns = i.turns;
        text = _;
        none = i.none;
        stops = ((i.so.before, i.so.inside), i.so.gave, omega (arith, i.so.many, c.loop-part-test.false), refl);
      },
      i.still,
    )
