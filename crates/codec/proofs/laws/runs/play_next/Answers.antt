-- Room comes before each call, so refused memory finds the record full, or loses the payload of one call.
use Rattle.std.proofs.Common.{vec_capacity, [], ◌∷◌, ◌++◌, ◌∙◌, arith, ap}
use Rattle.piece_reader.specs.Runs.{kept_answer}
use Rattle.codec.proofs.Playing.{plays_on}
use Rattle.codec.proofs.laws.runs.play_next.Goals as goal

pub loop-preserved : goal.loop-preserved
loop-preserved g c =
    let inv = c.loop.invariant in
    let answer = c.in_ok-next_copied.field-0 in
    plays_on inv c.push_reserved.new.self.items (vec_capacity c.push_reserved.new.self) answer c.next_copied.new.self
    (c.push_reserved.ensures.items ∙ ap (λ l. l ++ answer ∷ []) c.reserve.ensures.items)
    (omega (arith, c.in_ok-reserve.ensures.capacity, c.push_reserved.ensures.capacity))
    (g.met.P.PayloadReader.plays_more c.args.reader.now inv.answers c.loop.reader (kept_answer answer)
    c.next_copied.new.self inv.plays c.in_ok-next_copied.ensures.next)
