-- Some bytes are buffered, so the first read stays inside, whether it fills on or finds no room.
use Rattle.std.proofs.Common.{◌≡◌, true, Ok, refl, inl, ap, arith}
use Rattle.redux_buffer.specs.Block.{usable}
use Rattle.buffer_redux.proofs.ReadSteps.{one_read_says, full_did}
use Rattle.buffer_redux.proofs.buf_reader.BufReader.read_ordered.Goals as goal

pub returns-then-usable_space-gt0 : goal.returns-then-usable_space-gt0
returns-then-usable_space-gt0 g c = record {
  exact = λ s asked some.
      c.read_on.ensures.exact s c.args.out.now (one_read_says g.R.TellRead.remaining g.P.ReaderPolicy.rules s c.args.out.now
      c.read_slowly-answer.result c.read_slowly-answer.new.out c.read_slowly-answer.new.self asked.whole
      (c.read_slowly-answer.ensures.read s asked) (inl some));
}

pub returns : goal.returns
returns g c = record {
  exact = λ s asked some.
      let h = c.hand_out-n.ensures in
      let full : usable c.args.self.now.block ≡ 0 =
      omega (arith, c.usable_space.ensures.value, c.if-usable_space-gt0.false, ap (λ x. usable x.block) c.self.view_is) in
      c.read_on-2.ensures.exact s c.args.out.now (one_read_says g.R.TellRead.remaining g.P.ReaderPolicy.rules s c.args.out.now
      (Ok c.hand_out-n.result) c.hand_out-n.new.out c.hand_out-n.new.self asked.whole (
        c.args.self.now,
        full_did g.R.TellRead.remaining g.P.ReaderPolicy.rules s c.args.self.now (record { 0 = true }) asked
            c.hand_out-n.result refl full,
        h.hands,
      ) (inl some));
}
