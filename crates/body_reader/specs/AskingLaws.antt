-- Where a stream is asked by one call of a buffered reader behind others, of which each ask gave some.
use Rattle.std.proofs.Common.{ℕ, ◌≤◌, inl, inr, List, ◌++◌, arith}
use Rattle.buffer_redux.specs.Asking.{AskedOver, AskedWhere}
use Rattle.buffer_redux.specs.AskingLaws.{AskedOver-on, AskedWhere-same}
use Rattle.buffer_redux.specs.BufReader.{ReadsInOrder}
use Rattle.buffer_redux.specs.Buffered.{Buffered}
use Rattle.buffer_redux.specs.Unbuffer.{unbuffered}
use Rattle.body_reader.specs.Between.{EachGave}

module _ {S Q : Type 0} (s m t : Buffered S Q) (wire : List ℕ) (order : ReadsInOrder s wire m) (gave : EachGave s m) where
  pub AskedOver-behind : (O P R : List ℕ → Type 0) → ((more : List ℕ) → R (m.block.bytes ++ more)
      → P (wire ++ (m.block.bytes ++ more))) → AskedWhere O (unbuffered s) (unbuffered m)
      → AskedOver R (unbuffered m) (unbuffered t) → AskedOver P (unbuffered s) (unbuffered t)
  AskedOver-behind O P R so before =
      let more : s.log.reads.asks ≤ m.log.reads.asks = grind arith in
      AskedOver-on R P (unbuffered s) (unbuffered m) (unbuffered t) wire
      (record { got = order.got; given = order.given; equal = order.equal }) more gave.asks so

  pub AskedWhere-behind : (P R : List ℕ → Type 0) → ((more : List ℕ) → R (m.block.bytes ++ more)
      → P (wire ++ (m.block.bytes ++ more))) → AskedWhere P (unbuffered s) (unbuffered m)
      → AskedWhere R (unbuffered m) (unbuffered t) → AskedWhere P (unbuffered s) (unbuffered t)
  AskedWhere-behind P R so before (inl same) =
      AskedWhere-same P (unbuffered s) (unbuffered m) (unbuffered t) same before
  AskedWhere-behind P R so before (inr over) = inr (AskedOver-behind P P R so before over)
