-- What was handed so far lacks the byte, and each fill shows more than the sink left, so the loop ends.
use Rattle.std.proofs.Common.{◌≡◌, ◌<◌, ◌∙◌, ap, length, subst, sym}
use Rattle.std.proofs.lemmas.Result.{err_from_is_err_and}
use Rattle.buffer_redux.specs.ReadUntil.{FirstAt, Lacks}
use Rattle.buffer_redux.proofs.HandSteps.{HandedOn, ends_at_all, ends_empty, ends_failed, ends_reached, fills_more, handed_filled, handed_on}
use Rattle.buffer_redux.proofs.buf_reader.BufReader.hand_until.Goals as goal
use Rattle.buffer_redux.proofs.buf_reader.BufReader.hand_until.Goals.{After-fill_more, After-first_of}

-- all that was buffered was handed to the sink
handed_first : (g : _) (c : goal.After-fill_more g)
    → HandedOn g.R.TellRead.remaining g.P.ReaderPolicy.rules g.K.Sink.rules c.args.byte c.args.self.now c.args.sink.now
    c.fills.self c.fills.sink c.hand_first.new.self c.hand_first.new.sink
handed_first g c = handed_on _ _ _ g.met.K.Sink.lawful _ _ c.fills.self _ c.fills.sink c.fills.invariant.handed
    c.len-len.result c.hand_first.new.self c.hand_first.new.sink
    (c.len-len.ensures.value ∙ ap (λ x. length x.block.bytes) c.self-in-fills.view_is) c.fills.invariant.behind
    c.in_ok-hand_first.ensures.hands

-- some bytes came then
filled_more : (g : _) (c : goal.After-first_of g)
    → length c.hand_first.new.self.block.bytes < length c.fill_more.new.self.block.bytes
filled_more g c = fills_more _ _ c.is_empty.result c.in_ok-fill_more.ensures.fills.1
    (rw (ap (λ x. length x.block.bytes) c.self-in-fills-2.view_is) at c.is_empty.ensures.value) c.if-is_empty.false

pub returns-in_err-hand_first : goal.returns-in_err-hand_first
returns-in_err-hand_first g c =
    let p = err_from_is_err_and c.from_residual.result c.from_residual.ensures.1 in
    rw (p.1, p.2) (record {
      until = ends_at_all _ _ _ g.met.K.Sink.lawful _ _ c.fills.self _ c.fills.sink c.fills.invariant.handed c.len-len.result
          c.in_err-hand_first.field-0.0 c.hand_first.new.self c.hand_first.new.sink
          (c.len-len.ensures.value ∙ ap (λ x. length x.block.bytes) c.self-in-fills.view_is) c.fills.invariant.behind
          c.in_err-hand_first.ensures.hands;
    })

pub returns-in_err-fill_more : goal.returns-in_err-fill_more
returns-in_err-fill_more g c =
    let p = err_from_is_err_and c.from_residual-in_err-fill_more.result c.from_residual-in_err-fill_more.ensures.1 in
    let law = g.met.K.Sink.lawful in
    let t = c.hand_first.new.self in
    let u = c.hand_first.new.sink in
    let on = handed_first g (goal.at.returns-in_err-fill_more g c).After-fill_more in
    rw (p.1, p.2) (record {
      until = ends_failed _ _ _ law _ _ _ t _ _ u on c.in_err-fill_more.field-0.0 c.fill_more.new.self
          c.in_err-fill_more.ensures.fills;
    })

pub returns-then-is_empty : goal.returns-then-is_empty
returns-then-is_empty g c =
    let law = g.met.K.Sink.lawful in
    let t = c.hand_first.new.self in
    let u = c.hand_first.new.sink in
    let on = handed_first g (goal.at.returns-then-is_empty g c).After-fill_more in
    let none = sym (ap (λ x. length x.block.bytes) c.self-in-fills-2.view_is)
    ∙ c.is_empty.ensures.value.0 c.if-is_empty.true in record {
      until = ends_empty _ _ _ law _ _ _ t _ _ u on c.fill_more.new.self c.in_ok-fill_more.ensures.fills none;
    }

pub returns-in-Some : goal.returns-in-Some
returns-in-Some g c =
    let law = g.met.K.Sink.lawful in
    let t = c.hand_first.new.self in
    let u = c.hand_first.new.sink in
    let on = handed_first g (goal.at.returns-in-Some g c).After-fill_more in
    let more = filled_more g (goal.at.returns-in-Some g c).After-first_of in
    let shown : c.buf.result.now ≡ c.fill_more.new.self.block.bytes =
    c.buf.ensures ∙ ap (λ x. x.block.bytes) c.self-in-fills-2.view_is in
    record {
      until = ends_reached _ _ _ law _ _ c.fill_more.new.self _ u
          (handed_filled _ _ _ law _ _ _ t _ _ u on c.fill_more.new.self c.in_ok-fill_more.ensures.fills more)
          c.in-Some.at c.hand_first-in-Some.result c.hand_first-in-Some.new.self c.hand_first-in-Some.new.sink
          c.requires.whole (subst (FirstAt c.args.byte c.in-Some.at) shown c.in-Some.ensures.found)
          c.hand_first-in-Some.ensures.hands;
    }

pub fills-preserved : goal.fills-preserved
fills-preserved g c =
    let law = g.met.K.Sink.lawful in
    let t = c.hand_first.new.self in
    let u = c.hand_first.new.sink in
    let on = handed_first g (goal.at.fills-preserved g c).After-fill_more in
    let more = filled_more g (goal.at.fills-preserved g c).After-first_of in
    let shown : c.buf.result.now ≡ c.fill_more.new.self.block.bytes =
    c.buf.ensures ∙ ap (λ x. x.block.bytes) c.self-in-fills-2.view_is in
    record {
      handed = handed_filled _ _ _ law _ _ _ t _ _ u on c.fill_more.new.self c.in_ok-fill_more.ensures.fills more;
      behind = subst (Lacks c.args.byte) shown c.in_default.ensures.none;
    }

pub fills-smaller : goal.fills-smaller
fills-smaller g c =
    let on = handed_first g (goal.at.fills-smaller g c).After-fill_more in
    let more = filled_more g (goal.at.fills-smaller g c).After-first_of in
    on.smaller _ more
