-- What contracts see of a buffer, and what its calls do to it.
use Rattle.std.specs.Prelude.{◌≡◌, ℕ, Bool, true, ◌+◌, ◌-◌, ◌*◌, ◌/◌, ◌^◌, ◌<◌, ◌≤◌, ◌==◌, ◌||◌, nat_le, nat_lt, min, if◌then◌else◌, List, [], ◌++◌, length, take, drop, replicate, ⊤}

-- a plain buffer moves its bytes only when asked, a ring can be written in all its free space at any time
pub data Kind : Type 0 where
  Plain : Kind
  Ring : Kind

-- the bytes, the tail that `write_buf` would lend now and whether it stands right behind the bytes, the capacity and
-- its limit, and two counts: how many bytes were consumed, and how many a call moved to another place in the storage
pub record Block : Type 0 where
  pub bytes : List ℕ
  pub tail : List ℕ
  pub capacity : ℕ
  pub limit : ℕ
  pub kind : Kind
  pub tail_behind : Bool
  pub consumed : ℕ
  pub moved : ℕ

-- a block, and where its first byte stands in the storage
pub record Placed : Type 0 where
  pub block : Block
  pub place : ℕ

-- a value, or a fact, for each kind
abbrev pub by_kind : {T : Type 0} → Kind → T → T → T
by_kind Plain x y = x
by_kind Ring x y = y

abbrev pub OnKind : Kind → Type 0 → Type 0 → Type 0
OnKind Plain P Q = P
OnKind Ring P Q = Q

-- b with another limit
abbrev pub with_limit : Block → ℕ → Block
with_limit b limit = record b { limit = limit }

-- how many bytes can be written now
abbrev pub usable : Block → ℕ
usable b = length b.tail

-- the least multiple of 4096 that is at least c
abbrev pub round : ℕ → ℕ
round c = (c + 4095) / 4096 * 4096

-- the greatest capacity
abbrev pub limit_of : Kind → ℕ
limit_of k = by_kind k (2 ^ 62) (2 ^ 61)

-- the capacity after `reserve a`, which needs more only where there is too little usable space
abbrev pub capacity_for : Block → ℕ → ℕ
capacity_for b a = if nat_le a (usable b) then b.capacity else by_kind b.kind
    (if length b.bytes == 0 then b.capacity + a else b.capacity - usable b + a)
    (round (length b.bytes + a))

-- the capacity after `push_bytes(xs)`, which reserves twice their number where they don't fit
abbrev pub capacity_to_push : Block → List ℕ → ℕ
capacity_to_push b xs = if nat_le (length xs) (usable b) then b.capacity else capacity_for b (2 * length xs)

-- what is true of every block
pub record IsBlock (b : Block) : Type 0 where
  pub limit : b.capacity ≤ b.limit
  pub most : b.limit ≤ limit_of b.kind
  pub fits : length b.bytes + usable b ≤ b.capacity
  pub space : OnKind b.kind (length b.bytes ≡ 0 → usable b ≡ b.capacity) (length b.bytes + usable b ≡ b.capacity)
  pub moves : OnKind b.kind ⊤ (b.moved ≤ b.consumed)

-- the same with the place, which in a ring has come as far only by what was consumed, and with the kind's own limit
pub record IsPlaced (p : Placed) : Type 0 where
  pub block : IsBlock p.block
  pub limit : p.block.limit ≡ limit_of p.block.kind
  pub place : OnKind p.block.kind (p.place + (length p.block.bytes + usable p.block) ≡ p.block.capacity)
      (p.block.moved + p.place ≤ p.block.consumed)

-- a block that was just made, of zeros
pub record IsNew (k : Kind) (cap : ℕ) (b : Block) : Type 0 where
  pub limit : b.limit ≡ limit_of k
  pub bytes : b.bytes ≡ []
  pub tail : b.tail ≡ replicate cap 0
  pub usable : usable b ≡ cap
  pub capacity : b.capacity ≡ cap
  pub kind : b.kind ≡ k
  pub consumed : b.consumed ≡ 0
  pub moved : b.moved ≡ 0

-- ws written over xs, which keeps its length
abbrev pub overwrite : List ℕ → List ℕ → List ℕ
overwrite xs ws = take (length xs) (ws ++ drop (length ws) xs)

-- what `write_buf` lends out of: a ring whose place has passed its capacity is drawn back to the front
abbrev pub compact : Placed → Placed
compact p = by_kind p.block.kind p (
    if nat_lt p.block.capacity p.place
    then record { block = record p.block { moved = p.block.moved + length p.block.bytes; tail_behind = true }; place = 0 }
    else p)

-- a tail that does not reach past the storage, as that of a plain block never does
abbrev pub IsInFront : Placed → Type 0
IsInFront p = OnKind p.block.kind ⊤ (p.place ≤ p.block.capacity)

-- p with ws written over its tail
abbrev pub with_tail : Placed → List ℕ → Placed
with_tail p ws = let q = compact p in record q { block = record q.block { tail = overwrite p.block.tail ws } }

-- b with ws written over its bytes. A ws that is longer, which no loan leaves, goes on into a tail that is behind them
abbrev pub with_bytes : Block → List ℕ → Block
with_bytes b ws = record b {
  bytes = overwrite b.bytes ws;
  tail = if b.tail_behind then overwrite b.tail (drop (length b.bytes) ws) else b.tail;
}

-- the first n bytes of the tail become the last bytes, and the others stay its own
pub record BytesWritten (n : ℕ) (old new : Block) : Type 0 where
  pub bytes : new.bytes ≡ old.bytes ++ take n old.tail
  pub tail : new.tail ≡ drop n old.tail
  pub capacity : new.capacity ≡ old.capacity
  pub limit : new.limit ≡ old.limit
  pub kind : new.kind ≡ old.kind
  pub consumed : new.consumed ≡ old.consumed

-- the first n bytes are dropped, or all
pub record ConsumesFirst (n : ℕ) (old new : Block) : Type 0 where
  pub bytes : new.bytes ≡ drop n old.bytes
  pub usable : OnKind old.kind (0 < length new.bytes → usable new ≡ usable old) ⊤
  pub capacity : new.capacity ≡ old.capacity
  pub limit : new.limit ≡ old.limit
  pub kind : new.kind ≡ old.kind
  pub consumed : new.consumed ≡ old.consumed + min n (length old.bytes)

-- all bytes are dropped, and none is moved
pub record Clears (old new : Block) : Type 0 where
  pub bytes : new.bytes ≡ []
  pub usable : usable new ≡ old.capacity
  pub capacity : new.capacity ≡ old.capacity
  pub limit : new.limit ≡ old.limit
  pub kind : new.kind ≡ old.kind
  pub consumed : new.consumed ≡ old.consumed + length old.bytes
  pub moved : new.moved ≡ old.moved

-- there is usable space for a more bytes, and what was added to it is zeros; nothing changes where there was enough
pub record Reserves (a : ℕ) (old new : Block) : Type 0 where
  pub idle : a ≤ usable old → new ≡ old
  pub bytes : new.bytes ≡ old.bytes
  pub capacity : new.capacity ≡ capacity_for old a
  pub usable : usable new ≡ usable old + (new.capacity - old.capacity)
  pub added : drop (length old.tail) new.tail ≡ replicate (new.capacity - old.capacity) 0
  pub limit : new.limit ≡ old.limit
  pub kind : new.kind ≡ old.kind
  pub consumed : new.consumed ≡ old.consumed
  pub moved : new.moved ≡ old.moved

-- all free space is usable, and nothing changes where it was. A plain block counts its bytes as moved to the front, unless they
-- stood there; a ring moves none
pub record MakesRoom (old new : Block) : Type 0 where
  pub idle : usable old ≡ old.capacity - length old.bytes → new ≡ old
  pub bytes : new.bytes ≡ old.bytes
  pub moved : new.moved ≡ old.moved + by_kind old.kind
      (if old.capacity - usable old - length old.bytes == 0 then 0 else length old.bytes) 0
  pub usable : usable new ≡ old.capacity - length old.bytes
  pub capacity : new.capacity ≡ old.capacity
  pub limit : new.limit ≡ old.limit
  pub kind : new.kind ≡ old.kind
  pub consumed : new.consumed ≡ old.consumed

-- the step that dropped n counts what it shifted: nothing where none are left, it grew, or its place rose by just n
abbrev pub CountsShift : ℕ → Placed → Placed → Type 0
CountsShift n old new = new.block.moved ≡ old.block.moved + (
    if (length new.block.bytes == 0) || (nat_lt old.block.capacity new.block.capacity || (new.place == old.place + n))
    then 0 else length new.block.bytes)

-- only a ring may move bytes unasked
abbrev pub OnlyRingMoves : Block → Block → Type 0
OnlyRingMoves old new = OnKind old.kind (new.moved ≡ old.moved) (old.moved ≤ new.moved)

-- all is as before but what stands in the tail, and what a ring moved
pub record LeavesBytes (old new : Block) : Type 0 where
  pub bytes : new.bytes ≡ old.bytes
  pub usable : usable new ≡ usable old
  pub capacity : new.capacity ≡ old.capacity
  pub limit : new.limit ≡ old.limit
  pub kind : new.kind ≡ old.kind
  pub consumed : new.consumed ≡ old.consumed
  pub moved : OnlyRingMoves old new

-- xs stands behind the old bytes
pub record Extends (xs : List ℕ) (old new : Block) : Type 0 where
  pub bytes : new.bytes ≡ old.bytes ++ xs
  pub usable : usable new ≡ usable old - length xs
  pub capacity : new.capacity ≡ old.capacity
  pub limit : new.limit ≡ old.limit
  pub kind : new.kind ≡ old.kind
  pub consumed : new.consumed ≡ old.consumed
  pub moved : OnlyRingMoves old new

-- xs stands behind the old bytes, also where there was too little space for it at first
pub record PushesBytes (xs : List ℕ) (old new : Block) : Type 0 where
  pub bytes : new.bytes ≡ old.bytes ++ xs
  pub capacity : new.capacity ≡ capacity_to_push old xs
  pub usable : usable new ≡ usable old + (new.capacity - old.capacity) - length xs
  pub limit : new.limit ≡ old.limit
  pub kind : new.kind ≡ old.kind
  pub consumed : new.consumed ≡ old.consumed
  pub moved : OnlyRingMoves old new
