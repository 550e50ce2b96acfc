-- A header that was read is the text of its length, and a minus stands in that of the null string alone.
use Rattle.std.proofs.Common.{◌∷◌, [], ◌++◌, length, ap, ◌∙◌, decimal, append_assoc}
use Rattle.codec.specs.TextHeadersInLaws.{text_piece_is}
use Rattle.decoders.specs.NullableLaws.{null_piece}
use Rattle.decoders.specs.TextWords.{bulk_strings}
use Rattle.decoders.proofs.laws.string_bytes.Goals as goal

pub returns : goal.returns
returns c = record {
  bulk = λ piece payload is. text_piece_is (bulk_strings c.args.strings.now.max) piece payload is
      ∙ ap (λ l. 36 ∷ l) (append_assoc (decimal (length payload)) (13 ∷ 10 ∷ []) (payload ++ 13 ∷ 10 ∷ []));
  null = null_piece c.args.strings.now.max;
}
