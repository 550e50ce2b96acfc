-- An empty buffer begins at 0, and its new block is zeros alone; any other grows by zeros behind its tail.
use Rattle.std.proofs.Common.{◌≡◌, ◌+◌, ◌-◌, ◌∙◌, length, length-drop, replicate, ap, arith, rules}
use Rattle.std.proofs.lemmas.Grind.{common_steps}
use Rattle.redux_buffer.proofs.Ranges.{zeros_left}
use Rattle.redux_buffer.proofs.std_buf.StdBuf.reserve.Goals as goal

pub returns-clause-grown : goal.returns-clause-grown
returns-clause-grown c =
    let b = c.self.inside in
    let empty : b.end ≡ 0 = omega (arith, c.if-self-gt0.false) in
    let all = b.stop + c.args.additional - 0 in
    let size : all - length b.buf ≡ b.stop + c.args.additional - b.stop = omega arith in
    let copied = c.in_ok-self-inside.ensures.copied in
    let zeros = zeros_left c.in_ok-self-inside.field-0 b.buf all b.end copied empty in
    rw (← c.self.view_is) (record {
      bytes = grind (arith, common_steps);
      capacity = grind (arith, common_steps);
      added = zeros ∙ ap (λ m. replicate m 0) size;
      usable = grind (arith, common_steps);
      limit = search rules;
      kind = search rules;
      consumed = search rules;
      moved = search rules;
      idle = λ few. absurd (omega (arith, few, length-drop b.end b.buf));
    })
