-- The byte's first place counts the bytes through it, and a consume of just these drops them.
use Rattle.std.proofs.Common.{◌≡◌, ◌+◌, ◌∙◌, [], take, subst, ap, arith, refl, inl, sym}
use Rattle.redux_buffer.specs.Block.{IsBlock}
use Rattle.buffer_redux.specs.ReadBehind.{FillsOn}
use Rattle.buffer_redux.specs.ReadUntil.{FirstAt, SkipsUntil}
use Rattle.buffer_redux.specs.UntilLaws.{SkipsUntil-known}
use Rattle.buffer_redux.proofs.UntilSteps.{drops_some, reaches, shows_none, through_length}
use Rattle.buffer_redux.proofs.buf_reader.BufReader.skip_until.Goals as goal

pub returns-in-Some : goal.returns-in-Some
returns-in-Some g c =
    let remaining = g.R.TellRead.remaining in
    let rules = g.P.ReaderPolicy.rules in
    let s = c.args.self.now in
    let gone = c.consume_exact.ensures in
    let shown : c.buf.result.now ≡ s.block.bytes = c.buf.ensures ∙ ap (λ x. x.block.bytes) c.self.view_is in
    let first = subst (FirstAt c.args.byte c.in-Some.at) shown c.in-Some.ensures.found in
    let whole = subst (λ x. IsBlock x.block) c.self.view_is c.self.invariant in
    let until : SkipsUntil remaining rules c.args.byte s _ _ = record {
      handed = take (c.in-Some.at + 1) s.block.bytes;
      front = record { in_order = gone.in_order; keeps = gone.keeps };
      ends = inl (reaches {step = FillsOn (λ left. left ≡ []) remaining rules} remaining rules c.args.byte s s []
          (shows_none remaining rules c.args.byte s whole) c.in-Some.at
          c.consume_exact.new.self first
          (drops_some rules s c.consume_exact.new.self (c.in-Some.at + 1) (omega arith) gone.consumed));
      count = sym (through_length c.args.byte c.in-Some.at s.block.bytes first);
      buffered = λ some. (c.in-Some.at, first, (refl, gone.consumed));
    } in
    record {
      dropped = (until.handed, until.front.in_order, until.count);
      until = until;
      count = SkipsUntil-known remaining rules c.args.byte s _ _ until;
    }

pub returns-in-None : goal.returns-in-None
returns-in-None g c =
    let until = c.skip_until_apart.ensures.until in record {
      dropped = (until.handed, until.front.in_order, until.count);
      until = until;
      count = SkipsUntil-known g.R.TellRead.remaining g.P.ReaderPolicy.rules c.args.byte c.args.self.now _ _ until;
    }
