-- A length below 10^18 has at most 18 digits, so the header has room for all its parts.
use Rattle.std.proofs.Common.{◌≤◌, length, ap, arith}
use Rattle.std.specs.Fmt.{decimal}
use Rattle.std.proofs.lemmas.Fmt.{length-decimal-le}
use Rattle.codec.proofs.text_header_writer.ByTextHeaderScanOut.header_of.Goals as goal

pub push_number-requires : goal.push_number-requires
push_number-requires g c =
    let written = g.met.T.TextHeaderOut.written c.args.self.now.0 in
    let few : length (decimal c.args.len) ≤ 18 =
    length-decimal-le 18 c.args.len (omega arith) (omega (arith, c.requires)) (omega (arith, c.requires)) in
    omega (arith, few, c.new-header.ensures.len, ap length c.before-2.ensures, written.few)

pub push-requires : goal.push-requires
push-requires g c =
    let written = g.met.T.TextHeaderOut.written c.args.self.now.0 in
    let few : length (decimal c.args.len) ≤ 18 =
    length-decimal-le 18 c.args.len (omega arith) (omega (arith, c.requires)) (omega (arith, c.requires)) in
    omega (
      arith,
      few,
      c.new-header.ensures.len,
      c.push_number.ensures.len,
      ap length c.before-2.ensures,
      ap length c.after.ensures,
      written.few,
    )
