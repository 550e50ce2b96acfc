-- A reader of pieces that is made over what another one left.
use Rattle.std.proofs.Common.{◌≡◌, ℕ, ◌*◌, ◌^◌, ◌≤◌, ◌∙◌, false, arith, subst, sym}
use Rattle.buffer_redux.specs.Block.{IsBlock, Plain, limit_of}
use Rattle.buffer_redux.specs.Buffered.{Buffered, with_policy}
use Rattle.buffer_redux.specs.declared.policy.MinBuffered.{MinBuffered}
use Rattle.piece_reader.specs.Grammar.{Grammar, IsLawful}
use Rattle.piece_reader.specs.GrammarLaws.{open_take}
use Rattle.piece_reader.specs.PieceReader.{IsPieceReader, ReaderState, rest, room_for}

module _ {S W : Type 0} (g : Grammar W) (law : IsLawful g) where
  pub over_piecing : {D : Type 0} (r : Buffered S MinBuffered) (d : D) (size : ℕ) → IsBlock r.block → r.block.kind ≡ Plain
      → r.block.capacity ≡ room_for size g.most → r.block.limit ≡ room_for size g.most → r.policy.0 ≡ 0
      → IsPieceReader g (record { reader = r; decoder = d; handed = 0; seen = 0; ended = false })
  over_piecing r d size whole plain capacity limit none = record {
    block = whole;
    plain = plain;
    capacity = omega (arith, capacity);
    limit = limit ∙ sym capacity;
    ahead = omega (arith, none);
    handed = omega arith;
    searched = open_take g law r.block.bytes;
    ended = λ odd. cc;
  }

  -- a buffer for pieces is at most as large as any
  pub piecing_small : {D : Type 0} (f : ReaderState S D) → IsPieceReader g f → f.reader.block.capacity ≤ 2 ^ 62
  piecing_small f is =
      let most : f.reader.block.limit ≤ 2 ^ 62 =
      subst (λ k. f.reader.block.limit ≤ limit_of k) is.plain is.block.most in
      omega (arith, is.limit, most)

  pub redecoded_piecing : {D E V : Type 0} (old : Grammar V) (f : ReaderState S D) (e : E) → IsPieceReader old f
      → 3 * g.most ≤ f.reader.block.capacity → IsPieceReader g (record {
        reader = with_policy f.reader (record { 0 = 0 });
        decoder = e;
        handed = f.handed;
        seen = 0;
        ended = f.ended;
      })
  redecoded_piecing old f e is room = record {
    block = is.block;
    plain = is.plain;
    capacity = room;
    limit = is.limit;
    ahead = omega arith;
    handed = omega (arith, is.handed);
    searched = open_take g law (rest f);
    ended = is.ended;
  }
