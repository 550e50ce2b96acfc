-- How bytes are moved where room is made behind them, and what is offered of it.
use Rattle.std.proofs.Common.{◌≡◌, ℕ, ◌+◌, ◌≤◌, Bool, List, Result, Ok, Err, length, length-take-le, ap, refl, arith}
use Rattle.std.specs.Prelude.{◌-◌, ◌==◌, ⊤, if◌then◌else◌}
use Rattle.std.specs.Io.{ReadsAtMost}
use Rattle.std.specs.declared.io.Error.{Error}
use Rattle.std.proofs.lemmas.Bool.{cond_both}
use Rattle.redux_buffer.specs.Block.{Block, Kind, MakesRoom, OnKind, OnlyRingMoves, Plain, Ring, by_kind, usable}
use Rattle.redux_buffer.specs.BlockLaws.{OnKind-joins, OnlyRingMoves-joins}
use Rattle.redux_buffer.specs.StreamLog.{portion}
use Rattle.redux_buffer.specs.Transfer.{ReadsOnce}
use Rattle.buffer_redux.specs.Buffered.{Buffered}
use Rattle.buffer_redux.specs.BufReader.{MovesFor, OfferedAll}

-- an answer speaks of no more than the slice
pub portion_within : (answer : Result ℕ Error) (out : List ℕ) → ReadsAtMost answer out → length (portion out answer) ≤ length out
portion_within (Ok k) out bound = omega (arith, length-take-le k out bound.0, bound.0)
portion_within (Err e) out bound = omega arith

-- one read into the whole tail offers all
pub offered : {S P : Type 0} (s : Buffered S P) (answer : Result ℕ Error) (t : Buffered S P)
    → ReadsOnce s.block s.log answer t.block t.log → OfferedAll t
offered s answer t once = omega (
  arith,
  ap (λ l. l.reads.offer) once.told,
  ap (λ l. length l.reads.latest) once.told,
  once.offered,
  once.added.usable,
  portion_within answer once.out once.bound,
)

-- what made room moved each byte once at most
once_of : (k : Kind) (free : Bool) (len old new : ℕ) → new ≡ old + by_kind k (if free then 0 else len) 0
    → OnKind k (new ≤ old + len) ⊤
once_of Plain free len old new is =
    rw is (cond_both free 0 len (λ n. old + n ≤ old + len) (λ _. omega arith) (λ _. omega arith))
once_of Ring free len old new is = tt

pub room_once : (old new : Block) → MakesRoom old new → OnKind old.kind (new.moved ≤ old.moved + length old.bytes) ⊤
room_once old new room = once_of old.kind (old.capacity - usable old - length old.bytes == 0) (length old.bytes) old.moved
    new.moved room.moved

-- what moves none does so for any number, also behind what made room
pub MovesFor-still : (more : ℕ) (a b : Block) → OnlyRingMoves a b → MovesFor more a b
MovesFor-still more a b moves = record {
  still = λ _. moves;
  once = OnKind-joins a.kind a.kind (b.moved ≡ a.moved) (b.moved ≡ a.moved) (b.moved ≤ a.moved + length a.bytes)
      (a.moved ≤ b.moved) (a.moved ≤ b.moved) ⊤ refl (λ same _. omega (arith, same)) (λ _ _. tt) moves moves;
}

pub MovesFor-on : (more : ℕ) (a b c : Block) → b.kind ≡ a.kind → MovesFor more a b → OnlyRingMoves b c → MovesFor more a c
MovesFor-on more a b c kind moves after = record {
  still = λ enough. OnlyRingMoves-joins a b c kind (moves.still enough) after;
  once = OnKind-joins a.kind b.kind (b.moved ≤ a.moved + length a.bytes) (c.moved ≡ b.moved)
      (c.moved ≤ a.moved + length a.bytes) ⊤ (b.moved ≤ c.moved) ⊤ kind
      (λ most same. omega (arith, most, same)) (λ _ _. tt) moves.once after;
}
