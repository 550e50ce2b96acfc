-- The first byte says of which protocol the bytes are, so what is open or ends is so for that side.
use Rattle.std.proofs.Common.{false, sym, true, ◌∙◌}
use Rattle.codec.specs.FirstByteLaws.{open_all, renamed_open}
use Rattle.codec.specs.declared.by_first.EitherWrong.TheVariants.{One, Other}
use Rattle.codec.proofs.by_first.ByFirstDecoder.at_end.Goals as goal

pub at_end-requires-clause-open : goal.at_end-requires-clause-open
at_end-requires-clause-open g c =
    let s = c.args.self.now in
    renamed_open (λ e. One e) (g.A.Decoder.grammar s.one) c.args.bytes.now
    (open_all s.byte (g.A.Decoder.grammar s.one) (g.B.Decoder.grammar s.other) (g.met.A.Decoder.lawful s.one)
    (g.met.B.Decoder.lawful s.other) true c.args.bytes.now c.requires.some
    (sym c.begins_with.ensures ∙ c.if-begins_with.true) c.requires.open)

pub at_end-requires-else-begins_with-clause-open : goal.at_end-requires-else-begins_with-clause-open
at_end-requires-else-begins_with-clause-open g c =
    let s = c.args.self.now in
    renamed_open (λ e. Other e) (g.B.Decoder.grammar s.other) c.args.bytes.now
    (open_all s.byte (g.A.Decoder.grammar s.one) (g.B.Decoder.grammar s.other) (g.met.A.Decoder.lawful s.one)
    (g.met.B.Decoder.lawful s.other) false c.args.bytes.now c.requires.some
    (sym c.begins_with.ensures ∙ c.if-begins_with.false) c.requires.open)
