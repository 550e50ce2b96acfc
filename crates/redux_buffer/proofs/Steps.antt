-- Drops, one after another.
use Rattle.std.proofs.Common.{◌≡◌, ◌∙◌, ℕ, ◌+◌, ◌<◌, length, drop, arith, length-drop, drop-drop, ap, ◌-◌}
use Rattle.std.specs.Bool.{⊤}
use Rattle.redux_buffer.specs.Block.{Block, usable, ConsumesFirst}
use Rattle.redux_buffer.specs.BlockLaws.{OnKind-joins}

pub ConsumesFirst-joins : (n m : ℕ) (a b c : Block) → ConsumesFirst n a b → ConsumesFirst m b c → ConsumesFirst (n + m) a c
ConsumesFirst-joins n m a b c p q =
    let left : length b.bytes ≡ length a.bytes - n = ap length p.bytes ∙ length-drop n a.bytes in
    let last : length c.bytes ≡ length b.bytes - m = ap length q.bytes ∙ length-drop m b.bytes in record {
      bytes = q.bytes ∙ ap (drop m) p.bytes ∙ drop-drop m n a.bytes;
      usable = OnKind-joins a.kind b.kind (0 < length b.bytes → usable b ≡ usable a)
          (0 < length c.bytes → usable c ≡ usable b) (0 < length c.bytes → usable c ≡ usable a) ⊤ ⊤ ⊤
          p.kind (λ x y some. y some ∙ x (omega arith)) (λ x y. tt) p.usable q.usable;
      capacity = q.capacity ∙ p.capacity;
      limit = q.limit ∙ p.limit;
      kind = q.kind ∙ p.kind;
      consumed = omega (arith, p.consumed, q.consumed, left);
    }
