-- The turns and the ends of reads ahead.
use Rattle.std.proofs.Common.{◌≡◌, ℕ, ◌+◌, ◌-◌, ◌<◌, ◌≤◌, List, [], ◌++◌, append_assoc, drop, length, min, take, Result, Ok, Err, Option, inl, inr, refl, sym, ap, subst, ◌∙◌, arith, length-append, length-take-le}
use Rattle.std.specs.Prelude.{◌⊎◌, MatchResult}
use Rattle.std.specs.Io.{StartsWith}
use Rattle.std.proofs.lemmas.Bool.{cases_lt}
use Rattle.std.proofs.lemmas.List.{length-take, take-append-drop, take-append-le, take-take}
use lib.Seq.{take-length}
use Rattle.std.specs.declared.io.Error.{Error}
use Rattle.redux_buffer.specs.Block.{MakesRoom, usable}
use Rattle.redux_buffer.specs.BlockLaws.{OnlyRingMoves-none}
use Rattle.redux_buffer.specs.Potential.{potential-make_room}
use Rattle.redux_buffer.specs.Transfer.{ReadsOnce}
use Rattle.redux_buffer.specs.LogGrows.{ReadLogGrows, ReadLogGrows-none}
use Rattle.redux_buffer.specs.StreamLog.{portion, with_fault, with_zero, zero_of_none, zero_of_some}
use Rattle.buffer_redux.specs.Policy.{ReadRules}
use Rattle.buffer_redux.specs.Buffered.{Buffered, with_block}
use Rattle.buffer_redux.specs.BufReader.{MovesFor, ReadsAlong, ReadsInOrder, ReadsIntoBuf}
use Rattle.buffer_redux.specs.Peek.{AskedAhead, ReadsAhead}
use Rattle.buffer_redux.specs.Sparing.{Spared, Spared-joins, Spared-none}
use Rattle.buffer_redux.specs.ReaderLaws.{InnerGives-same, ReadsAlong-none, ReadsAlong-then, ReadsInOrder-none}
use Rattle.buffer_redux.proofs.FillFacts.{ReadsInOrder-read_from}
use Rattle.buffer_redux.proofs.Moving.{MovesFor-on, MovesFor-still, offered, portion_within, room_once}

-- each turn gave bytes, and no fault; the first made room for all
pub record AheadTurns {S P : Type 0} (remaining : S → Option (List ℕ)) (rules : ReadRules P) (n : ℕ)
    (s m : Buffered S P) : Type 0 where
  pub along : ReadsAlong remaining rules s [] m
  pub zeros : m.log.reads.zero_reads ≡ s.log.reads.zero_reads
  pub faults : m.log.reads.faults ≡ s.log.reads.faults
  pub asks : m.log.reads.asks + length s.block.bytes ≤ s.log.reads.asks + length m.block.bytes
  pub begun : (m ≡ s) ⊎ ((length s.block.bytes < n) × (n ≤ length m.block.bytes + usable m.block))
  pub asked : (m.log ≡ s.log) ⊎ AskedAhead n s m
  pub consumed : m.block.consumed ≡ s.block.consumed
  pub moves : MovesFor (n - length s.block.bytes) s.block m.block
  pub policy : m.policy ≡ s.policy
  pub capacity : m.block.capacity ≡ s.block.capacity
  pub limit : m.block.limit ≡ s.block.limit
  pub kind : m.block.kind ≡ s.block.kind
  pub noted : m.own_calls ≡ s.own_calls
  pub sparing : (keep : ℕ) → n ≤ keep → Spared keep s m

-- `more` bytes fit behind those that are buffered. At most room was made, which spares each number that holds all of them
pub record MakesRoomFor {S P : Type 0} (more : ℕ) (s t : Buffered S P) : Type 0 where
  pub in_order : ReadsInOrder s [] t
  pub others : t ≡ with_block s t.block
  pub bytes : t.block.bytes ≡ s.block.bytes
  pub room : more ≤ usable t.block
  pub enough : more ≤ usable s.block → t ≡ s
  pub moves : MovesFor more s.block t.block
  pub consumed : t.block.consumed ≡ s.block.consumed
  pub capacity : t.block.capacity ≡ s.block.capacity
  pub limit : t.block.limit ≡ s.block.limit
  pub kind : t.block.kind ≡ s.block.kind
  pub spared : (keep : ℕ) → length s.block.bytes + more ≤ keep → Spared keep s t

room_there : {S P : Type 0} (more : ℕ) (s : Buffered S P) → more ≤ usable s.block → MakesRoomFor more s s
room_there more s enough = record {
  in_order = ReadsInOrder-none s;
  others = refl;
  bytes = refl;
  room = enough;
  enough = λ _. refl;
  moves = MovesFor-still more s.block s.block (OnlyRingMoves-none s.block);
  consumed = refl;
  capacity = refl;
  limit = refl;
  kind = refl;
  spared = λ keep _. Spared-none keep s;
}

room_made : {S P : Type 0} (more : ℕ) (s t : Buffered S P) → usable s.block < more
    → length s.block.bytes + more ≤ s.block.capacity → MakesRoom s.block t.block
    → ReadsInOrder s [] t → t ≡ with_block s t.block → MakesRoomFor more s t
room_made more s t few fits room order others = record {
  in_order = order;
  others = others;
  bytes = room.bytes;
  room = omega (arith, room.usable, fits);
  enough = λ many. absurd (omega (arith, many, few));
  moves = record { still = λ many. absurd (omega (arith, many, few)); once = room_once s.block t.block room };
  consumed = room.consumed;
  capacity = room.capacity;
  limit = room.limit;
  kind = room.kind;
  spared = λ keep holds. record {
    kind = room.kind;
    capacity = omega (arith, room.capacity);
    plain = λ plain three.
        let held = potential-make_room keep s.block t.block room three (omega (arith, holds)) (omega (arith, few, holds)) plain in
        record {
          moved = omega (arith, room.moved);
          held = omega (arith, held, ap (λ x. length x.log.reads.given) others);
        };
  };
}

-- room is made where it lacks
pub makes_room : {S P : Type 0} (more : ℕ) (s t : Buffered S P) → length s.block.bytes + more ≤ s.block.capacity
    → (more ≤ usable s.block → t ≡ s)
    → (usable s.block < more → MakesRoom s.block t.block × ReadsInOrder s [] t × (t ≡ with_block s t.block))
    → MakesRoomFor more s t
makes_room more s t fits enough lacking = elim (cases_lt (usable s.block) more) [
  | inl few ↦ (let made = lacking few in room_made more s t few fits made.0 made.1 made.2)
  | inr many ↦ subst (MakesRoomFor more s) (sym (enough many)) (room_there more s many)
]

-- what it did doesn't hang on what the call that made it carries in its Ok
pub ahead_as : {S P A C : Type 0} (remaining : S → Option (List ℕ)) (rules : ReadRules P) {n : ℕ} (s : Buffered S P) (a : A)
    (b : C) (t : Buffered S P) → ReadsAhead remaining rules n s (Ok a) t → ReadsAhead remaining rules n s (Ok b) t
ahead_as remaining rules s a b t r = record {
  along = r.along;
  ended = r.ended;
  caused = r.caused;
  buffered = r.buffered;
  asked = r.asked;
  consumed = r.consumed;
  moves = r.moves;
  policy = r.policy;
  capacity = r.capacity;
  limit = r.limit;
  kind = r.kind;
  noted = r.noted;
  sparing = r.sparing;
  whole = r.whole;
}

-- after such turns to m there was room, in r, and the reader was asked once more
pub record AsksOnce {S P : Type 0} (remaining : S → Option (List ℕ)) (rules : ReadRules P) (n : ℕ)
    (s m r : Buffered S P) (answer : Result ℕ Error) (t : Buffered S P) : Type 0 where
  pub turns : AheadTurns remaining rules n s m
  pub few : length m.block.bytes < n
  pub fits : n ≤ s.block.capacity
  pub room : MakesRoomFor (n - length m.block.bytes) m r
  pub reads : ReadsIntoBuf remaining r answer t
  pub spared : (keep : ℕ) → Spared keep r t

module _ {S P : Type 0} (remaining : S → Option (List ℕ)) (rules : ReadRules P) (n : ℕ) where
  pub turns_none : (s : Buffered S P) → AheadTurns remaining rules n s s
  turns_none s = record {
    along = ReadsAlong-none remaining rules s;
    zeros = refl;
    faults = refl;
    asks = omega arith;
    begun = inl refl;
    asked = inl refl;
    consumed = refl;
    moves = MovesFor-still (n - length s.block.bytes) s.block s.block (OnlyRingMoves-none s.block);
    policy = refl;
    capacity = refl;
    limit = refl;
    kind = refl;
    noted = refl;
    sparing = λ keep _. Spared-none keep s;
  }

  module _ (s m r : Buffered S P) (answer : Result ℕ Error) (t : Buffered S P)
      (a : AsksOnce remaining rules n s m r answer t) where
    space : 0 < usable r.block
    space = omega (arith, a.few, a.room.room)

    once : ReadsOnce r.block r.log answer t.block t.log
    once = a.reads.read.read space

    asked_along : ReadsAlong remaining rules s [] t
    asked_along =
        let told : r.log ≡ m.log = ap (λ x. x.log) a.room.others in
        ReadsAlong-then remaining rules s r t [] (ReadsAlong-then remaining rules s m r [] a.turns.along (record {
          in_order = a.room.in_order;
          known = InnerGives-same remaining m r (ap (λ x. x.inner) a.room.others) told;
          grows = subst (λ l. ReadLogGrows m.log.reads l.reads) (sym told) (ReadLogGrows-none m.log.reads);
          capacity = omega (arith, a.room.capacity);
          claims = ap (λ x. rules.claims x.policy) a.room.others;
        })) (record {
          in_order = ReadsInOrder-read_from r t answer a.reads.read;
          known = a.reads.known;
          grows = a.reads.grows;
          capacity = omega (arith, once.added.capacity);
          claims = ap rules.claims a.reads.policy;
        })

    grown : length t.block.bytes ≡ length m.block.bytes + length (portion once.out answer)
    grown = omega (
      arith,
      ap length once.added.bytes,
      length-append r.block.bytes (portion once.out answer),
      ap length a.room.bytes,
    )

    consumed_now : t.block.consumed ≡ s.block.consumed
    consumed_now = once.added.consumed ∙ a.room.consumed ∙ a.turns.consumed

    moves_now : MovesFor (n - length s.block.bytes) s.block t.block
    moves_now = MovesFor-on (n - length s.block.bytes) s.block r.block t.block (a.room.kind ∙ a.turns.kind)
        (elim a.turns.begun [
          | inl same ↦ subst (λ x. MovesFor (n - length x.block.bytes) x.block r.block) same a.room.moves
          | inr less ↦ subst (λ x. MovesFor (n - length s.block.bytes) s.block x.block)
              (sym (a.room.enough (omega (arith, less.1)))) a.turns.moves
        ]) once.added.moved

    begun_now : (length s.block.bytes < n) × (n ≤ length t.block.bytes + usable t.block)
    begun_now = (
      elim a.turns.begun [
        | inl same ↦ omega (arith, a.few, ap (λ x. length x.block.bytes) same)
        | inr less ↦ less.0
      ],
      omega (
        arith,
        a.few,
        a.room.room,
        grown,
        once.added.usable,
        once.offered,
        portion_within answer once.out once.bound,
      ),
    )

    asks_now : t.log.reads.asks ≡ m.log.reads.asks + 1
    asks_now = omega (arith, ap (λ l. l.reads.asks) once.told, ap (λ x. x.log.reads.asks) a.room.others)

    asked_now : AskedAhead n s t
    asked_now =
        let before = a.turns.along.in_order in
        let gave : t.log.reads.latest ≡ portion once.out answer = ap (λ l. l.reads.latest) once.told in record {
          some = omega (arith, asks_now, a.turns.along.grows.asks);
          came = before.got;
          few = omega (arith, a.few, ap length before.equal);
          given = ap (λ l. l.reads.given) once.told ∙ ap (λ x. x.log.reads.given ++ portion once.out answer) a.room.others
              ∙ ap (λ l. l ++ portion once.out answer) before.given
              ∙ append_assoc s.log.reads.given before.got (portion once.out answer)
              ∙ ap (λ l. s.log.reads.given ++ (before.got ++ l)) (sym gave);
          bytes = once.added.bytes ∙ ap (λ l. l ++ portion once.out answer) (a.room.bytes ∙ before.equal)
              ∙ append_assoc s.block.bytes before.got (portion once.out answer)
              ∙ ap (λ l. s.block.bytes ++ (before.got ++ l)) (sym gave);
          asks = omega (arith, asks_now, a.turns.asks, simp length-append at (ap length before.equal));
          offer = offered r answer t once;
        }

    zeros_now : t.log.reads.zero_reads ≡ with_zero s.log.reads.zero_reads once.out answer
    zeros_now = ap (λ l. l.reads.zero_reads) once.told ∙ ap (λ z. with_zero z once.out answer)
        (ap (λ x. x.log.reads.zero_reads) a.room.others ∙ a.turns.zeros)

    faults_now : t.log.reads.faults ≡ with_fault s.log.reads.faults answer
    faults_now = ap (λ l. l.reads.faults) once.told ∙ ap (λ l. with_fault l answer)
        (ap (λ x. x.log.reads.faults) a.room.others ∙ a.turns.faults)

    spared_now : (keep : ℕ) → n ≤ keep → Spared keep s t
    spared_now keep holds = Spared-joins keep s m t (a.turns.sparing keep holds)
        (Spared-joins keep m r t (a.room.spared keep (omega (arith, a.few, holds))) (a.spared keep))

    -- which ended it
    ahead_last : {A : Type 0} (end : Result A Error)
        → MatchResult end (λ _. ((n ≤ length t.block.bytes) × (t.log.reads.zero_reads ≡ s.log.reads.zero_reads))
        ⊎ ((length t.block.bytes < n) × (t.log.reads.zero_reads ≡ s.log.reads.zero_reads + 1)))
        (λ _. (length t.block.bytes < n) × (t.log.reads.zero_reads ≡ s.log.reads.zero_reads))
        → t.log.reads.faults ≡ with_fault s.log.reads.faults end → ReadsAhead remaining rules n s end t
    ahead_last end ended caused = record {
      along = asked_along;
      ended = ended;
      caused = caused;
      buffered = λ many. absurd (omega (arith, many, begun_now.0));
      asked = inr asked_now;
      consumed = consumed_now;
      moves = moves_now;
      policy = a.reads.policy ∙ ap (λ x. x.policy) a.room.others ∙ a.turns.policy;
      capacity = once.added.capacity ∙ a.room.capacity ∙ a.turns.capacity;
      limit = once.added.limit ∙ a.room.limit ∙ a.turns.limit;
      kind = once.added.kind ∙ a.room.kind ∙ a.turns.kind;
      noted = a.reads.noted ∙ ap (λ x. x.own_calls) a.room.others ∙ a.turns.noted;
      sparing = spared_now;
      whole = a.reads.whole;
    }

  pub ahead_failed : {A : Type 0} (s m r : Buffered S P) (e : Error) (t : Buffered S P)
      → AsksOnce remaining rules n s m r (Err e) t → ReadsAhead {A = A} remaining rules n s (Err e) t
  ahead_failed s m r e t a = ahead_last s m r (Err e) t a (Err e)
      (omega (arith, a.few, grown s m r (Err e) t a), zeros_now s m r (Err e) t a) (faults_now s m r (Err e) t a)

  pub ahead_dry : {A : Type 0} (s m r : Buffered S P) (k : ℕ) (t : Buffered S P) (answer : A)
      → AsksOnce remaining rules n s m r (Ok k) t → k ≡ 0 → ReadsAhead remaining rules n s (Ok answer) t
  ahead_dry s m r k t answer a none =
      let read = once s m r (Ok k) t a in
      ahead_last s m r (Ok k) t a (Ok answer) (inr (
        omega (arith, a.few, grown s m r (Ok k) t a, length-take-le k read.out read.bound.0, none),
        zeros_now s m r (Ok k) t a ∙ zero_of_none k read.out s.log.reads.zero_reads none
            (omega (arith, read.offered, space s m r (Ok k) t a)),
      )) (faults_now s m r (Ok k) t a)

  pub turns_more : (s m r : Buffered S P) (k : ℕ) (t : Buffered S P) → AsksOnce remaining rules n s m r (Ok k) t
      → ¬ (k ≡ 0) → AheadTurns remaining rules n s t
  turns_more s m r k t a some =
      let read = once s m r (Ok k) t a in record {
        along = asked_along s m r (Ok k) t a;
        zeros = zeros_now s m r (Ok k) t a
            ∙ zero_of_some k read.out s.log.reads.zero_reads (inl (omega (arith, some)));
        faults = faults_now s m r (Ok k) t a;
        asks = omega (
          arith,
          grown s m r (Ok k) t a,
          asks_now s m r (Ok k) t a,
          a.turns.asks,
          length-take-le k read.out read.bound.0,
          some,
        );
        begun = inr (begun_now s m r (Ok k) t a);
        asked = inr (asked_now s m r (Ok k) t a);
        consumed = consumed_now s m r (Ok k) t a;
        moves = moves_now s m r (Ok k) t a;
        policy = a.reads.policy ∙ ap (λ x. x.policy) a.room.others ∙ a.turns.policy;
        capacity = read.added.capacity ∙ a.room.capacity ∙ a.turns.capacity;
        limit = read.added.limit ∙ a.room.limit ∙ a.turns.limit;
        kind = read.added.kind ∙ a.room.kind ∙ a.turns.kind;
        noted = a.reads.noted ∙ ap (λ x. x.own_calls) a.room.others ∙ a.turns.noted;
        sparing = spared_now s m r (Ok k) t a;
      }

-- what is shown then begins with what was buffered, as far as it was asked for
pub ahead_begins : (held got bytes : List ℕ) (n capacity : ℕ) → length held ≤ capacity → bytes ≡ held ++ got
    → StartsWith (take (min n capacity) bytes) (take n held)
ahead_begins held got bytes n capacity fits is =
    let count = length (take n held) in
    let least : count ≡ min n (length held) = length-take n held in
    take-take count (min n capacity) bytes (omega (arith, least, fits))
    ∙ ap (take count) is ∙ take-append-le count held got (omega (arith, least))
    ∙ ap (take count) (sym (take-append-drop n held))
    ∙ take-append-le count (take n held) (drop n held) (omega arith) ∙ take-length (take n held)
