-- The sum saturates above each capacity, so one that fits the capacity is the length itself.
use Rattle.std.proofs.Common.{◌≡◌, ℕ, ◌+◌, ◌-◌, ◌^◌, ◌<◌, ◌≤◌, List, Bor, length, min, take, ap, sym, subst, arith, refl}
use Rattle.chunked.specs.Names.{body_end, IsFraming, IsFramingName, IsTrailer, lines_of}
use Rattle.chunked.proofs.Fields.{all_lines, front, front_len, front_more_len, inside, line_at, lines_more}
use Rattle.chunked.proofs.trailers.end_len.Goals as goal

-- behind the last line all is counted
all_counted : (fields : List (Bor (List ℕ))) (i len capacity : ℕ) → length fields ≤ i
    → len ≡ min (length (front (take i (lines_of fields))) + 2) (2 ^ 64 - 1) → capacity < 2 ^ 63 → len ≤ capacity
    → len ≡ length (body_end (lines_of fields))
all_counted fields i len capacity past counted small few =
    omega (arith, counted, small, few, front_len (lines_of fields), ap (λ l. length (front l)) (all_lines fields i past))

pub loop-i-preserved : goal.loop-i-preserved
loop-i-preserved c =
    let before = c.loop-i.invariant in
    let fields = c.args.fields.now in
    let i = c.loop-i.i in
    let within = c.loop-i-test.true in
    let there = inside fields i within in
    let is = line_at fields i within in
    record {
      lines = lines_more (lines_of fields) i there before.lines (subst IsTrailer is (
        c.in-Some.ensures.0,
        λ framing.
            let odd = c.is_framing.ensures.1 (subst IsFramingName (sym c.in-Some.ensures.1) framing.1) in
            let not = c.if-is_framing.false in cc,
      ));
      counted = omega (
        arith,
        before.counted,
        c.saturating_add.ensures,
        c.saturating_add-len.ensures,
        front_more_len (lines_of fields) i there,
        ap length is,
      );
    }

pub returns-then-is_framing-clause-cannot : goal.returns-then-is_framing-clause-cannot
returns-then-is_framing-clause-cannot c =
    let fields = c.args.fields.now in
    let field = c.in-Some.ensures.0 in
    let i = c.loop-i.i in (
      refl,
      inside fields i c.loop-i-test.true,
      c.loop-i.invariant.lines,
      subst IsFraming (line_at fields i c.loop-i-test.true) (
        field,
        subst IsFramingName c.in-Some.ensures.1
            (c.is_framing.ensures.0 c.if-is_framing.true),
      ),
    )

pub returns-then-len-capacity-clause-cannot : goal.returns-then-len-capacity-clause-cannot
returns-then-len-capacity-clause-cannot c = grind (arith, all_lines, front_len)

pub returns-clause-fits : goal.returns-clause-fits
returns-clause-fits c =
    omega (
      arith,
      c.if-len-capacity.false,
      all_counted c.args.fields.now c.loop-i.i c.loop-i.len c.args.capacity c.loop-i-test.false c.loop-i.invariant.counted
          c.requires (omega (arith, c.if-len-capacity.false)),
    )

pub returns-clause-len : goal.returns-clause-len
returns-clause-len c =
    all_counted c.args.fields.now c.loop-i.i c.loop-i.len c.args.capacity c.loop-i-test.false c.loop-i.invariant.counted
    c.requires (omega (arith, c.if-len-capacity.false))
