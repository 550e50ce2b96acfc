-- What is shown so is a piece of the other decoder, or a last one.
use Rattle.std.proofs.Common.{inl, inr}
use Rattle.piece_reader.proofs.trimmed.TrimmedItems.item.Goals as goal

pub item-requires : goal.item-requires
item-requires g c = elim c.requires.1 [
  | inl is ↦ (is.0, inl is.1)
  | inr last ↦ (c.requires.0, inr last)
]
