-- The first byte says of which protocol the bytes are, so what is open, found or noted is so for that side.
use Rattle.std.proofs.Common.{◌<◌, rules, false, length, subst, sym, true, ◌∙◌}
use Rattle.piece_reader.specs.Decoding.{Decodes}
use Rattle.codec.specs.FirstByte.{either}
use Rattle.codec.specs.FirstByteLaws.{renamed_decodes, renamed_open, side_decodes, looks_by_side, side_open}
use Rattle.codec.specs.declared.by_first.EitherWrong.TheVariants.{One, Other}
use Rattle.codec.proofs.by_first.ByFirstDecoder.decode.Goals as goal

pub decode-requires-clause-open : goal.decode-requires-clause-open
decode-requires-clause-open g c =
    let s = c.args.self.now in
    let some : 0 < length c.args.bytes.now = search rules in
    renamed_open (λ e. One e) (g.A.Decoder.grammar s.one) _
    (side_open s.byte (g.A.Decoder.grammar s.one) (g.B.Decoder.grammar s.other) (g.met.A.Decoder.lawful s.one)
    (g.met.B.Decoder.lawful s.other) true c.args.bytes.now c.args.seen some
    (sym c.begins_with.ensures ∙ c.if-begins_with.true) c.requires.open)

pub decode-requires-else-begins_with-clause-open : goal.decode-requires-else-begins_with-clause-open
decode-requires-else-begins_with-clause-open g c =
    let s = c.args.self.now in
    let some : 0 < length c.args.bytes.now = search rules in
    renamed_open (λ e. Other e) (g.B.Decoder.grammar s.other) _
    (side_open s.byte (g.A.Decoder.grammar s.one) (g.B.Decoder.grammar s.other) (g.met.A.Decoder.lawful s.one)
    (g.met.B.Decoder.lawful s.other) false c.args.bytes.now c.args.seen some
    (sym c.begins_with.ensures ∙ c.if-begins_with.false) c.requires.open)

pub returns-then-begins_with-clause-finds : goal.returns-then-begins_with-clause-finds
returns-then-begins_with-clause-finds g c =
    let s = c.args.self.now in
    let one = g.A.Decoder.grammar s.one in
    let other = g.B.Decoder.grammar s.other in
    let some : 0 < length c.args.bytes.now = search rules in
    subst (Decodes (either s.byte one other) c.args.bytes.now) (sym c.as_one.ensures)
    (side_decodes s.byte one other (g.met.A.Decoder.lawful s.one) (g.met.B.Decoder.lawful s.other) true c.args.bytes.now
    some (sym c.begins_with.ensures ∙ c.if-begins_with.true) _
    (renamed_decodes (λ e. One e) one c.args.bytes.now c.decode.result c.decode.ensures.finds))

pub returns-else-begins_with-clause-finds : goal.returns-else-begins_with-clause-finds
returns-else-begins_with-clause-finds g c =
    let s = c.args.self.now in
    let one = g.A.Decoder.grammar s.one in
    let other = g.B.Decoder.grammar s.other in
    let some : 0 < length c.args.bytes.now = search rules in
    subst (Decodes (either s.byte one other) c.args.bytes.now) (sym c.as_other.ensures)
    (side_decodes s.byte one other (g.met.A.Decoder.lawful s.one) (g.met.B.Decoder.lawful s.other) false c.args.bytes.now
    some (sym c.begins_with.ensures ∙ c.if-begins_with.false) _
    (renamed_decodes (λ e. Other e) other c.args.bytes.now c.decode-else-begins_with.result
    c.decode-else-begins_with.ensures.finds))

pub returns-then-begins_with-clause-looks : goal.returns-then-begins_with-clause-looks
returns-then-begins_with-clause-looks g c =
    let s = c.args.self.now in
    let some : 0 < length c.args.bytes.now = search rules in
    looks_by_side s.byte (g.A.Decoder.looks s.one) (g.B.Decoder.looks s.other) c.args.seen _ true c.args.bytes.now some
    (sym c.begins_with.ensures ∙ c.if-begins_with.true) (c.decode.result, c.decode.ensures.looks, c.as_one.ensures)

pub returns-else-begins_with-clause-looks : goal.returns-else-begins_with-clause-looks
returns-else-begins_with-clause-looks g c =
    let s = c.args.self.now in
    let some : 0 < length c.args.bytes.now = search rules in
    looks_by_side s.byte (g.A.Decoder.looks s.one) (g.B.Decoder.looks s.other) c.args.seen _ false c.args.bytes.now some
    (sym c.begins_with.ensures ∙ c.if-begins_with.false)
    (c.decode-else-begins_with.result, c.decode-else-begins_with.ensures.looks, c.as_other.ensures)
