-- What has its own end is a piece of the other decoder.
use Rattle.std.proofs.Common.{inl, inr}
use Rattle.codec.proofs.ended.EndedItems.item.Goals as goal

pub item-requires : goal.item-requires
item-requires g c = elim c.requires.1 [
  | inl is ↦ (c.requires.0, inl is)
  | inr last ↦ absurd last
]
