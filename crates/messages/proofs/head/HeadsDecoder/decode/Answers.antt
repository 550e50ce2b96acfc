-- A head is lines first, so what settles nothing of lines, or is wrong with them, is so of heads.
use Rattle.std.proofs.Common.{arith, ℕ, List, drop, inl, inr, sym, take}
use Rattle.messages.specs.Names.{as_known, bytes_at, heads, IsHeadFault, IsOpenBelow, Limits, take-append-drop, texts}
use Rattle.messages.specs.HeadsLaws.{text_few}
use Rattle.messages.proofs.head.HeadsDecoder.decode.Goals as goal

-- what settles nothing of lines settles nothing of heads
lacks_head : (limits : Limits) (n : ℕ) (bytes : List ℕ) → IsOpenBelow texts n bytes → IsOpenBelow (heads limits) n bytes
lacks_head limits n bytes lacks more few = let still = lacks more few in record {
  no_piece = λ b. still.no_piece
      (record { piece = b.piece; payload = b.is.none; more = b.more; is = b.is.text; equal = b.equal });
  not_wrong = λ e no. elim no as (λ _. ⊥) [
    | inl wrong ↦ still.not_wrong wrong.0 wrong.1
    | inr refused ↦ still.no_piece refused.0
  ];
}

pub returns-in-Some-clause-finds : goal.returns-in-Some-clause-finds
returns-in-Some-clause-finds c =
    let piece = take c.in-Piece.used c.args.bytes.now in
    let is = c.in-Piece.ensures.finds.is in inr (
      record {
        piece = piece;
        payload = bytes_at c.in-Piece.field-0 c.args.bytes.now;
        more = drop c.in-Piece.used c.args.bytes.now;
        is = is;
        equal = sym (take-append-drop c.in-Piece.used c.args.bytes.now);
      },
      c.in-Some.ensures.some.0,
      elim c.in-Some.ensures.some.1 as (λ _. IsHeadFault c.args.self.now.0 (as_known piece) c.in-Some.e) [
        | inl long ↦ absurd (omega (arith, long.0, text_few piece _ is))
        | inr why ↦ why.1
      ],
    )

pub returns-in-More-clause-finds : goal.returns-in-More-clause-finds
returns-in-More-clause-finds c =
    let wants = c.in-More.ensures.finds in
    (wants.0, wants.1, lacks_head c.args.self.now.0 c.in-More.need c.args.bytes.now wants.2)
