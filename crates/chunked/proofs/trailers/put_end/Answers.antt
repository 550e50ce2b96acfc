-- What went in is the front of the end of the body, so the room that is left takes what follows of it.
use Rattle.std.proofs.Common.{length, ap, append_assoc, arith}
use Rattle.chunked.specs.Trailers.{lines_of}
use Rattle.chunked.proofs.Fields.{all_lines, end_in, front_ended, front_len, front_more_len, inside, front_more, line_at, line_fits, line_in}
use Rattle.chunked.proofs.trailers.put_end.Goals as goal

pub put-requires-in-loop-field : goal.put-requires-in-loop-field
put-requires-in-loop-field g c =
    let fits = line_fits c.args.fields.now c.loop-field.field-index c.loop-field-test.true in
    omega (arith, c.requires.room, c.loop-field.invariant.space, fits)

pub put-requires-in-loop-field-2 : goal.put-requires-in-loop-field-2
put-requires-in-loop-field-2 g c =
    let fits = line_fits c.args.fields.now c.loop-field.field-index c.loop-field-test.true in
    omega (arith, c.requires.room, c.loop-field.invariant.space, c.put-in-loop-field.ensures.usable, fits)

pub loop-field-preserved : goal.loop-field-preserved
loop-field-preserved g c =
    let before = c.loop-field.invariant in
    let fields = c.args.fields.now in
    let i = c.loop-field.field-index in
    let within = c.loop-field-test.true in
    let there = inside fields i within in
    let is = line_at fields i within in
    let line = c.put-in-loop-field.ensures in
    let ends = c.put-in-loop-field-2.ensures in
    record {
      put = line_in _ _ _ _
          (lines_of fields) i _ there is before.put line.put ends.put;
      space = omega (arith, before.space, line.usable, ends.usable, front_more_len (lines_of fields) i there, ap length is);
      wire = rw (ends.wire, line.wire, before.wire, is, front_more (lines_of fields) i there) (simp append_assoc);
    }

pub put-requires-2 : goal.put-requires-2
put-requires-2 g c = grind (arith, all_lines, front_len)

pub returns-clause-put : goal.returns-clause-put
returns-clause-put g c = grind (arith, end_in, all_lines)

pub returns-clause-wire : goal.returns-clause-wire
returns-clause-wire g c = grind (arith, all_lines, front_ended, append_assoc)
