-- Facts that depend on the kind of a block, over no step and over one step after another.
use Rattle.std.specs.Prelude.{◌≡◌, ◌≤◌}
use Rattle.std.proofs.Common.{◌∙◌, refl, subst, arith}
use Rattle.redux_buffer.specs.Block.{Kind, Plain, Ring, OnKind, Block, OnlyRingMoves}

-- a fact for each kind gives it for any
pub OnKind-both : (k : Kind) (P Q : Type 0) → P → Q → OnKind k P Q
OnKind-both Plain P Q p q = p
OnKind-both Ring P Q p q = q

-- two facts on blocks of one kind give a third
pub OnKind-joins : (k k' : Kind) (P P' P'' Q Q' Q'' : Type 0) → k' ≡ k → (P → P' → P'') → (Q → Q' → Q'')
    → OnKind k P Q → OnKind k' P' Q' → OnKind k P'' Q''
OnKind-joins Plain k' P P' P'' Q Q' Q'' e f g x y = f x (subst (λ z. OnKind z P' Q') e y)
OnKind-joins Ring k' P P' P'' Q Q' Q'' e f g x y = g x (subst (λ z. OnKind z P' Q') e y)

pub OnlyRingMoves-none : (b : Block) → OnlyRingMoves b b
OnlyRingMoves-none b = OnKind-both b.kind (b.moved ≡ b.moved) (b.moved ≤ b.moved) refl (omega arith)

pub OnlyRingMoves-joins : (a b c : Block) → b.kind ≡ a.kind → OnlyRingMoves a b → OnlyRingMoves b c → OnlyRingMoves a c
OnlyRingMoves-joins a b c e p q =
    OnKind-joins a.kind b.kind (b.moved ≡ a.moved) (c.moved ≡ b.moved) (c.moved ≡ a.moved)
    (a.moved ≤ b.moved) (b.moved ≤ c.moved) (a.moved ≤ c.moved)
    e (λ x y. y ∙ x) (λ x y. omega arith) p q
