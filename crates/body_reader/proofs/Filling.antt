-- Payload is buffered, and how that ends.
use Rattle.std.proofs.Common.{◌≡◌, ℕ, ◌+◌, ◌<◌, ◌≤◌, List, [], ◌++◌, length, min, take, Option, Result, Ok, Err, sym, ap, subst, ◌∙◌, arith, inl, inr, append_assoc, append-nil, length-append}
use Rattle.std.proofs.lemmas.Bool.{cases_lt}
use Rattle.std.proofs.lemmas.List.{length-take-le}
use Rattle.std.specs.declared.io.Error.{Error}
use Rattle.buffer_redux.specs.Block.{Block, IsBlock, Kind, OnKind, usable}
use Rattle.buffer_redux.specs.Buffered.{Buffered}
use Rattle.buffer_redux.specs.BufReader.{ReadsInOrder, ReadsIntoBuf}
use Rattle.buffer_redux.specs.Peek.{ReadsAhead}
use Rattle.buffer_redux.specs.Policy.{ReadRules}
use Rattle.buffer_redux.specs.Potential.{of_plain}
use Rattle.buffer_redux.specs.Sparing.{Spared}
use Rattle.body_reader.specs.declared.coding.Look.TheVariants.{Payload}
use Rattle.body_reader.specs.declared.error.BodyError.{BodyError}
use Rattle.body_reader.specs.declared.error.BodyError.TheVariants.{Truncated, Io}
use Rattle.body_reader.specs.declared.progress.Progress.{Progress}
use Rattle.body_reader.specs.Between.{AllShown, PassesOn, Proceeds, Settles, ShowsOn, SkipsOn, TakenThrough, TakesBytes}
use Rattle.body_reader.specs.BetweenLaws.{EachGave-none, EachGave-once, EachGave-same, PassesOn-way, Proceeds-after, TakesBytes-still, Way-none}
use Rattle.body_reader.specs.Coding.{Carries, Grammar, IsDone, IsLawful, IsNextPayload, Looks}
use Rattle.body_reader.proofs.Once.{once_dry, once_fails, once_way}

-- fewer bytes are payload too, also where more are shown
pub Carries-less : {P W : Type 0} (g : Grammar P W) (p : P) (sure n : ℕ) (shown got : List ℕ) → Carries g p sure shown → 0 < n
    → n ≤ sure → Carries g p n (shown ++ got)
Carries-less g p sure n shown got carries some few = grind (arith, append_assoc)

pub Carries-fewer : {P W : Type 0} (g : Grammar P W) (p : P) (sure n : ℕ) (shown : List ℕ) → Carries g p sure shown → 0 < n
    → n ≤ sure → Carries g p n shown
Carries-fewer g p sure n shown carries some few =
    subst (Carries g p n) (append-nil shown) (Carries-less g p sure n shown [] carries some few)

-- a look at one byte, where the buffer has room for it
pub one_ahead : {S Q A : Type 0} (remaining : S → Option (List ℕ)) (rules : ReadRules Q) (m : Buffered S Q)
    (answer : Result A Error) (t : Buffered S Q) → 1 ≤ m.block.capacity
    → ReadsAhead remaining rules (min 1 m.block.capacity) m answer t → ReadsAhead remaining rules 1 m answer t
one_ahead remaining rules m answer t room ahead = grind arith

-- an empty buffer has room for as many bytes as it holds
room_so : (k : Kind) (b : Block) → OnKind k (length b.bytes ≡ 0 → usable b ≡ b.capacity) (length b.bytes + usable b ≡ b.capacity)
    → length b.bytes ≡ 0 → usable b ≡ b.capacity
room_so k b space none = grind arith

pub room_of_empty : (b : Block) → IsBlock b → length b.bytes ≡ 0 → usable b ≡ b.capacity
room_of_empty b is none = room_so b.kind b is.space none

module _ {S Q P W : Type 0} (remaining : S → Option (List ℕ)) (rules : ReadRules Q) (g : Grammar P W) where
  -- an Ok means what follows of what it means
  pub Proceeds-of : {A : Type 0} (slice : ℕ) (s : Buffered S Q) (p : Progress P) (handed : List ℕ)
      (answer : Result A (BodyError W)) (M N : A → Type 0) (t : Buffered S Q) (q : Progress P) → ((a : A) → M a → N a)
      → Proceeds remaining rules g slice s p handed answer M t q → Proceeds remaining rules g slice s p handed answer N t q
  Proceeds-of slice s p handed answer M N t q so goes = grind arith

  pub ended_here : (p : P) (shown : List ℕ) → Settles remaining rules g p shown 0 → IsDone g p
  ended_here p shown settles = grind arith

  pub payload_here : (p : P) (shown : List ℕ) (sure : ℕ) → 0 < sure → Settles remaining rules g p shown sure
      → Looks g p shown (Payload sure)
  payload_here p shown sure more settles = grind arith

  -- all that is buffered is shown, or all that surely is payload
  pub all_shown : (p : P) (shown : List ℕ) (sure n : ℕ) → IsNextPayload g p sure shown → n ≡ min sure (length shown)
      → AllShown g p n shown
  all_shown p shown sure n looks is = elim (cases_lt (length shown) sure) [
    | inl more ↦ inl (omega (arith, is, more))
    | inr less ↦
        let same : sure ≡ n = omega (arith, is, less) in inr (subst (λ k. IsNextPayload g p k shown) same looks)
  ]

  -- where payload comes next some is known
  pub show_some : (slice : ℕ) (s : Buffered S Q) (p : Progress P) (sure : ℕ) → Carries g p.place sure s.block.bytes
      → (t : Buffered S Q) (n : ℕ) → ShowsOn remaining rules g slice s p (Ok n) t p → 0 < n
  show_some slice s p sure carries t n shows = grind arith

  -- payload is buffered
  pub show_held : (slice : ℕ) (s : Buffered S Q) (p : Progress P) → g.is_place p.place → (sure : ℕ)
      → Looks g p.place s.block.bytes (Payload sure) → 0 < length s.block.bytes → (n : ℕ)
      → n ≡ min sure (length s.block.bytes) → ShowsOn remaining rules g slice s p (Ok n) s p
  show_held slice s p place sure looks held n is =
      let carries = looks.0 in
      let some : 0 < n = omega (arith, is, held, carries.some) in (
        Way-none place,
        (
          EachGave-none s,
          (
            (
              omega (arith, is),
              (λ _. Carries-fewer g p.place sure n s.block.bytes carries some (omega (arith, is))),
            ),
            (λ none. absurd (omega (arith, none, some))),
            (λ _. all_shown p.place s.block.bytes sure n (looks.0, looks.1, looks.2) is),
          ),
        ),
      )

  -- payload is read into the buffer, which is empty
  module _ (lawful : IsLawful g) (s : Buffered S Q) (p : Progress P) (place : g.is_place p.place) (sure : ℕ)
      (looks : Looks g p.place s.block.bytes (Payload sure)) (empty : s.block.bytes ≡ []) (room : 0 < usable s.block)
      (t : Buffered S Q) (order : ReadsInOrder s [] t) (spared : (keep : ℕ) → Spared keep s t) (slice : ℕ)
      (fits : min sure slice ≤ usable s.block) where
    carries : Carries g p.place sure s.block.bytes
    carries = looks.0

    module _ (answer : Result ℕ Error) (reads : ReadsIntoBuf remaining s answer t) where
      still : TakesBytes remaining rules g s p [] [] t p
      still =
          let once = reads.read.read room in
          TakesBytes-still place (grind arith) (grind (arith, of_plain))

      offers : min slice (g.sure p.place) ≤ length (reads.read.read room).out
      offers = omega (arith, fits, looks.1, (reads.read.read room).offered)

      through : TakenThrough s [] t
      through = omega (arith, (reads.read.read room).added.consumed)

    pub show_fails : (e : Error) → ReadsIntoBuf remaining s (Err e) t → ShowsOn remaining rules g slice s p (Err (Io e)) t p
    show_fails e reads =
        let o = reads.read.read room in
        once_fails remaining rules g lawful s p place carries.goes_on empty slice o.out (offers (Err e) reads) t
        (still (Err e) reads) (through (Err e) reads) reads.policy (o.added.bytes ∙ append-nil s.block.bytes ∙ empty) e o.told

    pub show_dry : ReadsIntoBuf remaining s (Ok 0) t → ShowsOn remaining rules g slice s p (Err (Truncated p.count)) t p
    show_dry reads =
        let o = reads.read.read room in
        once_dry remaining rules g lawful s p place carries.goes_on empty slice o.out (offers (Ok 0) reads) t
        (still (Ok 0) reads) (through (Ok 0) reads) reads.policy (o.added.bytes ∙ append-nil s.block.bytes ∙ empty) o.told
        (omega (arith, o.offered, room))

    pub show_well : (came : ℕ) → ReadsIntoBuf remaining s (Ok came) t → 0 < came → (n : ℕ) → n ≡ min sure came
        → ShowsOn remaining rules g slice s p (Ok n) t p
    show_well came reads more n is =
        let o = reads.read.read room in
        let some : 0 < n = omega (arith, is, more, carries.some) in
        let all : length t.block.bytes ≡ came = omega (
          arith,
          ap length o.added.bytes,
          length-append s.block.bytes (take came o.out),
          ap length empty,
          length-take-le came o.out o.bound.0,
        ) in (
          once_way remaining rules g lawful s p place carries.goes_on empty slice o.out (offers (Ok came) reads) t
              (still (Ok came) reads) (through (Ok came) reads) reads.policy (Ok came) o.told,
          (
            EachGave-once s t o.out came o.told more o.bound.0,
            (
              (
                omega (arith, is, all),
                (λ _. subst (Carries g p.place n) (sym o.added.bytes)
                    (Carries-less g p.place sure n s.block.bytes (take came o.out) carries some (omega (arith, is)))),
              ),
              (λ none. absurd (omega (arith, none, some))),
              (λ _. all_shown p.place t.block.bytes sure n (
                subst (Carries g p.place sure) (sym o.added.bytes)
                    (Carries-less g p.place sure sure s.block.bytes (take came o.out) carries carries.some (omega arith)),
                looks.1,
                inl (omega (
                  arith,
                  looks.1,
                  lawful.sure p.place sure place (subst (Carries g p.place sure) empty carries),
                )),
              ) (omega (arith, is, all))),
            ),
          ),
        )

  -- what was passed first belongs to it
  pub fill_after : {slice : ℕ} {s m t : Buffered S Q} {p q r : Progress P} → PassesOn remaining rules g s p m q
      → (answer : Result ℕ (BodyError W)) → ShowsOn remaining rules g slice m q answer t r
      → ShowsOn remaining rules g slice s p answer t r
  fill_after {m = m} passes answer = Proceeds-after (PassesOn-way passes) (EachGave-same _ m passes.told) answer _

  -- the body ended
  pub fill_ended : (slice : ℕ) (s : Buffered S Q) (p : Progress P) (m : Buffered S Q) (q : Progress P)
      → SkipsOn remaining rules g slice s p (Ok 0) m q → ShowsOn remaining rules g slice s p (Ok 0) m q
  fill_ended slice s p m q skips = (skips.0, grind (arith, ended_here))
