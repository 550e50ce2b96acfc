-- What the calls of a filter of payload do.
use Rattle.std.proofs.Common.{◌≡◌, ℕ, ◌+◌, ◌<◌, ◌≤◌, ◌⊎◌, inl, inr, List, [], ◌∷◌, ◌++◌, length, if◌then◌else◌, nat_lt, take, rules, true, false, Bool, Option, Result, Ok, Err, OnErr, refl, sym, ap, subst, ◌∙◌, arith, append-nil, length-append, length-take-le}
use Rattle.std.specs.Vec.{with_items}
use Rattle.buffer_redux.specs.AskingLaws.{AskedWhere-of}
use Rattle.body_reader.specs.AskingLaws.{AskedWhere-behind}
use Rattle.body_reader.specs.declared.error.BodyError.TheVariants as body
use Rattle.chunked.specs.declared.place.Place.TheVariants.{Line}
use Rattle.forward.specs.declared.error.AskError.TheVariants as ask
use Rattle.bodies.specs.Words.{Error, Buffered, std_read_rules, StdPolicy, BodyWent, IsBodyOfChunks, IsBodyReader, TakesAll, TookWholeBody, LooksBehind, ReadsPayload, chunked, handed_of, taken_count, AskAnswers, FilterAsks, FilterRules, FilterPasses, PassAnswers, StaysOpen, taken_more, target_of, InputFault, All-cons, All-nil, nil_from_length, with_items_is, ReadLogGrows-joins, unbuffered, usable, IsBlock, WritesInOrder-none, EachGave, TellsOnce, Breaks, EndsEarly, BodyWent-joins, AskedFor, LeadsOpen, Leads-joins, Leads-more, BodyError, breaks_at, Malformed, AskError, FailedToRead, SomeCame, came, bytes_taken, TakesAll-not_passed, TakesAll-passed, Decoding}
use Rattle.bodies.specs.Decode.{IsDue}
use Rattle.bodies.specs.Decoding.{ChunkedState, HandsPayloadPieces, HoldsPiece, MayDecode, NoneBuffered, TakesPayload, ask_error, decoding_rules, end_answer, held_payload, most_wanted}
use Rattle.bodies.specs.Decoding as Source
use Rattle.bodies.specs.DecodingLaws.{hands_held, none_held}
use Rattle.bodies.specs.Filters.{fault_gives}
use Rattle.bodies.proofs.Coming.{some_given, taken_some}
use Rattle.bodies.proofs.Passing.{passed_none, passed_some, wire_some}

-- the payload in what was taken is due, and bytes that hold none make no more due
due_on : {R : Type 0} (d : ChunkedState R) → IsBodyReader (chunked d.coding.0) d → (bytes : List ℕ)
    → LeadsOpen (chunked d.coding.0) d.place [] bytes → IsDue d.coding.0 (d.taken ++ bytes) (handed_of d)
due_on d is bytes on =
    let limits = d.coding.0 in
    let none : on.shown ≡ [] = nil_from_length on.shown (omega (arith, on.settles_nothing.few)) in
    let leads = Leads-joins (chunked limits) Line d.place on.place d.taken on.wire (handed_of d) [] []
    (Leads-more (chunked limits) Line d.place d.taken (handed_of d) [] (on.wire ++ []) is.leads) on.leads in
    rw (on.equal, none, append-nil)
    (record { place = on.place; part = record { leads = rw append-nil at leads; is_place = on.is_place } })

-- where nothing was settled no body was taken, and nothing is buffered
early_none : {R : Type 0} (d : ChunkedState R) → EndsEarly (chunked d.coding.0) d
    → ((payload : List ℕ) → ¬ IsBodyOfChunks d.coding.0 d.taken payload) × (d.reader.block.bytes ≡ [])
early_none d early = (
  λ payload whole. early.none d.taken payload d.reader.block.bytes whole refl,
  nil_from_length d.reader.block.bytes (omega (arith, early.settles_nothing.few)),
)

-- where less was handed out than could be, no payload is buffered
pub shown_none : {R : Type 0} (s d : ChunkedState R) → d.coding ≡ s.coding → IsBodyReader (chunked s.coding.0) d
    → TookWholeBody (chunked s.coding.0) d ⊎ (EndsEarly (chunked s.coding.0) d
    ⊎ ((why : Malformed) × Breaks (chunked s.coding.0) why d))
    → NoneBuffered d
shown_none s d same is (inl whole) = inl (rw same whole)
shown_none s d same is (inr (inl early)) =
    inr (inl (early_none d (subst (λ c. EndsEarly (chunked c.0) d) (sym same) early)).1)
shown_none s d same is (inr (inr (why, breaks))) =
    let is = subst (λ c. IsBodyReader (chunked c.0) d) (sym same) is in
    inr (inr (why, breaks_at d is why (rw same breaks.name)))

module _ {R W : Type 0} (remaining : R → Option (List ℕ)) {s : Decoding R W} (ready : MayDecode s) where
  abbrev decoding : FilterRules (Decoding R W) InputFault
  decoding = decoding_rules remaining

  -- a piece is held
  module _ {u : Decoding R W} (held : HoldsPiece remaining s u) (v : Buffered W StdPolicy)
      (kind : v.block.kind ≡ u.target.block.kind) (same : v.block.capacity ≡ u.target.block.capacity) where
    abbrev piece : List ℕ
    piece = held_payload u

    -- and could not be written, or was
    abbrev pub Takes : Result (Unit {0}) Error → Type 0
    Takes answer = TakesAll (length piece + 0) (λ _. ⊥) u.target (piece ++ []) answer v

    pub not_written : (e : Error) → Takes (Err e) → FilterPasses decoding s (Err e) (record u { target = v })
    not_written e takes =
        let wrote = rw held.still at (TakesAll-not_passed u.target v 0 0 {Other = λ _. ⊥} takes same (λ no. no)) in
        let order = rw held.still at takes.taken in
        let hands = hands_held remaining s (record u { target = v }) held.hands.payload held.hands.went held.hands.order
        held.hands.room in
        let answers : PassAnswers decoding s (Err e) (record u { target = v }) = ([], search rules, omega arith) in
        search rules

    pub written : 0 < u.held → Takes (Ok tt) → FilterPasses decoding s (Ok true) (record u { target = v; held = 0 })
    written some takes =
        let long : 0 < length piece =
        omega (arith, some, length-take-le u.held u.piece.items (omega (arith, held.ready.held, held.ready.room))) in
        let all : length (piece ++ []) ≡ length piece = ap length (append-nil piece) in
        let wrote = rw held.still at (TakesAll-passed u.target v 0 0 {Other = λ _. ⊥} takes (omega (arith, all))
        (omega (arith, all, long)) (λ _. same) (omega (arith, same))) in
        let order = rw held.still at takes.taken in
        let handed = held.hands.order ∙ sym (append-nil piece) ∙ sym (append-nil (piece ++ [])) in
        let more = taken_more u.target v (piece ++ []) takes.taken in
        let each = All-cons (λ (p : List ℕ). 0 < length p) piece [] long (All-nil (λ p. 0 < length p)) in
        let answers : PassAnswers decoding s (Ok true) (record u { target = v; held = 0 }) = (
          piece,
          search rules,
          inl (omega (arith, all, long, more, ap (λ w. bytes_taken (target_of w)) held.still)),
        ) in
        search rules

  -- the reader inside was asked for a piece
  module _ (none : s.held ≡ 0) (m : ChunkedState R) (out : List ℕ) (len : length out ≡ length s.piece.items) where
    abbrev asked : ChunkedState R → ℕ → Decoding R W
    asked t n = record s { source = t; piece = with_items s.piece out; held = n }

    asks_so : (t : ChunkedState R) (n : ℕ) → n ≤ 16384
        → BodyWent remaining std_read_rules (chunked s.source.coding.0) s.source (take n out) t
        → IsBodyReader (chunked t.coding.0) t → Source.AsksPromptly s.source t
        → t.reader.log.reads.zero_reads ≤ s.source.reader.log.reads.zero_reads + 1
        → (answer : Result Bool (AskError InputFault)) → AskAnswers decoding s answer (asked t n)
        → FilterAsks decoding s answer (asked t n)
    asks_so t n most went whole over once answer answers =
        let refilled = with_items_is s.piece out (len ∙ sym s.piece.ok.0) in
        let hands = hands_held remaining s (asked t n) (take n out) went
        (ap (λ l. l ++ take n out) (none_held remaining s none) ∙ sym (ap (λ l. take n l) refilled)) refl in
        let order = WritesInOrder-none s.target in
        let looks : OnErr answer (Unit {0}) = elim answer as (λ a. OnErr a (Unit {0})) [ Ok more ↦ tt | Err why ↦ tt ] in
        search rules

    -- nothing was handed out
    asks_none : (t : ChunkedState R) → BodyWent remaining std_read_rules (chunked s.source.coding.0) s.source [] t
        → IsBodyReader (chunked t.coding.0) t → Source.AsksPromptly s.source t
        → t.reader.log.reads.zero_reads ≤ s.source.reader.log.reads.zero_reads + 1
        → (answer : Result Bool (AskError InputFault)) → AskAnswers decoding s answer (asked t s.held)
        → FilterAsks decoding s answer (asked t s.held)
    asks_none t went whole over once answer answers =
        asks_so t s.held (omega (arith, none)) (rw none went) whole over once answer answers

    abbrev Such : List ℕ → Type 0
    Such bytes = IsDue s.source.coding.0 (s.source.taken ++ bytes) (handed_of s.source)

    module _ {answer : Result ℕ (BodyError Malformed)}
        (p : ReadsPayload remaining std_read_rules (chunked s.source.coding.0) s.source out answer m) where
      over : Source.AsksPromptly s.source m
      over = record {
        asked = AskedWhere-of
            (AskedFor (chunked s.source.coding.0) s.source.place (length out) m.reader.log.reads.offer) Such
            (unbuffered s.source.reader) (unbuffered m.reader)
            (λ more ask. due_on s.source ready.whole (s.source.reader.block.bytes ++ more) ask.leads) p.asked;
        grows = p.went.along.grows;
      }

      here : IsBodyReader (chunked m.coding.0) m
      here = subst (λ c. IsBodyReader (chunked c.0) m) (sym p.went.coding) p.whole

    some_came : (t : ChunkedState R) (n : ℕ) → Source.AsksPromptly s.source t
        → came s.source.reader.log.reads < came t.reader.log.reads → SomeCame decoding s (asked t n)
    some_came t n over more = record { asks = grind (arith, more, over.asked); more = more }

    pub asked_more : NoneBuffered s.source → (n : ℕ)
        → ReadsPayload remaining std_read_rules (chunked s.source.coding.0) s.source out (Ok n) m → 0 < n
        → FilterAsks decoding s (Ok true) (asked m n)
    asked_more lacks n p some =
        let gave = p.answers.1 in
        let took = taken_some remaining s.source m ready.whole out n p some in
        let more = some_given remaining s.source m ready.whole out _ p took lacks in
        asks_so m n (omega (arith, p.answers.0, len, ready.room)) p.went (here p) (over p) (omega (arith, gave.zero_reads))
        (Ok true) (search (rules, some_came m n (over p)))

    -- the stream failed, and bytes came in this ask or none
    faulted : (e : Error) (came : Bool) → came ≡ nat_lt (taken_count s.source) (taken_count m)
        → BodyWent remaining std_read_rules (chunked s.source.coding.0) s.source [] m
        → TellsOnce remaining std_read_rules (chunked s.source.coding.0) s.source.reader s.source.place 0 m.reader m.place
        → (t : ChunkedState R) → most_wanted t ≡ most_wanted m → decoding.waits (asked t s.held)
        → FailedToRead decoding e s (asked t s.held) → StaysOpen decoding s (asked t s.held)
        → (true ≡ nat_lt (taken_count s.source) (taken_count m) → SomeCame decoding s (asked t s.held))
        → AskAnswers decoding s (Err (if came then ask.IoBehind e else ask.Io e)) (asked t s.held)
    faulted e true is went tells t same waits fault still some =
        (waits, fault, still, omega (arith, same, passed_some remaining s.source m went tells is), some is)
    faulted e false is went tells t same waits fault still some =
        (waits, fault, still, same ∙ passed_none remaining s.source m went tells is)

    -- where bytes were taken in it, bytes came
    came_given : NoneBuffered s.source → {answer : Result ℕ (BodyError Malformed)}
        (p : ReadsPayload remaining std_read_rules (chunked s.source.coding.0) s.source out answer m)
        → true ≡ nat_lt (taken_count s.source) (taken_count m)
        → length s.source.reader.log.reads.given < length m.reader.log.reads.given
    came_given lacks p came =
        some_given remaining s.source m ready.whole out _ p (wire_some remaining s.source m p.went came) lacks

    -- the ask for a piece failed
    pub asked_failed : NoneBuffered s.source → (e : BodyError Malformed) (came : Bool)
        → came ≡ nat_lt (taken_count s.source) (taken_count m)
        → ReadsPayload remaining std_read_rules (chunked s.source.coding.0) s.source out (Err e) m
        → FilterAsks decoding s (Err (ask_error came e)) (asked m s.held)
    asked_failed lacks (body.Wrong why right) came is p =
        let gave = p.answers.1 in
        let breaks = breaks_at m (here p) why (rw p.went.coding p.answers.2.name) in
        asks_none m p.went (here p) (over p) (omega (arith, gave.zero_reads)) (Err (ask_error came (body.Wrong why right)))
        ((none, (breaks, p.answers.0)), gave.faults)
    asked_failed lacks (body.Truncated right) came is p =
        let met = p.answers.1 in
        let found = early_none m (subst (λ c. EndsEarly (chunked c.0) m) (sym p.went.coding) p.answers.2) in
        asks_none m p.went (here p) (over p) (omega (arith, met.1)) (Err (ask_error came (body.Truncated right)))
        ((none, (found.0, found.1, omega (arith, met.1), p.answers.0)), met.0)
    asked_failed lacks (body.Io e) came is p =
        let fault = p.answers.0 in
        let found = early_none m (subst (λ c. EndsEarly (chunked c.0) m) (sym p.went.coding) p.answers.1) in
        asks_none m p.went (here p) (over p) (omega (arith, fault.1)) (Err (ask_error came (body.Io e)))
        (faulted e came is p.went p.tells m refl (none, found.1) fault.0
        (inl (record { zero_reads = fault.1; give = fault_gives Such s.source.reader m.reader (over p) e fault.0 }))
        (λ taken. some_came m s.held (over p) (omega (arith, fault.1, came_given lacks p taken))))

    -- the body ended, and then it was asked whether more follows
    module _ (lacks : NoneBuffered s.source) (k : ℕ) (nothing : k ≡ 0)
        (p : ReadsPayload remaining std_read_rules (chunked s.source.coding.0) s.source out (Ok k) m) (t : ChunkedState R) where
      gave : EachGave s.source.reader m.reader
      gave = p.answers.1

      first : BodyWent remaining std_read_rules (chunked s.source.coding.0) s.source [] m
      first = rw nothing at p.went

      due : IsDue s.source.coding.0 (s.source.taken ++ first.wire) (handed_of s.source)
      due = subst (λ c. IsDue c.0 (s.source.taken ++ first.wire) (handed_of s.source)) first.coding
          (subst (λ l. IsDue m.coding.0 l (handed_of s.source)) first.taken
          (subst (IsDue m.coding.0 m.taken) (first.handed ∙ append-nil (handed_of s.source))
          (record { place = m.place; part = record { leads = (here p).leads; is_place = p.whole.place } })))

      module _ {end : Result Bool Error} (looks : LooksBehind remaining std_read_rules (chunked m.coding.0) m end t) where
        done : TookWholeBody (chunked t.coding.0) t
        done = rw (looks.still, p.went.coding) (p.answers.2 nothing (omega (arith, len, ready.room)))

        -- an ask that told the end was for a whole buffer
        offered : IsBlock t.reader.block → t.reader.block.bytes ≡ []
            → m.reader.log.reads.zero_reads < t.reader.log.reads.zero_reads → 16384 ≤ t.reader.log.reads.offer
        offered block left dry =
            let some : ¬ (t.reader.log ≡ m.reader.log) = λ same. omega (arith, dry, ap (λ l. l.reads.zero_reads) same) in
            let room : t.reader.block.capacity ≤ usable t.reader.block = grind (arith, block, left) in
            let order = looks.went.along.in_order in
            elim looks.offer [
              | inl same ↦ absurd (some same)
              | inr all ↦ elim looks.asked [
                | inl same ↦ absurd (some same)
                | inr over ↦ omega (
                  arith,
                  all,
                  room,
                  ready.capacity,
                  first.along.capacity,
                  looks.went.along.capacity,
                  ap length over.given,
                  ap length order.given,
                  ap length order.equal,
                  ap length looks.went.taken,
                  ap (λ d. length d.taken) looks.still,
                  ap length left,
                  length-append {A = ℕ},
                )
              ]
            ]

        over_on : Source.AsksPromptly s.source t
        over_on = record {
          asked = AskedWhere-behind s.source.reader m.reader t.reader first.wire first.along.in_order gave Such
              (λ bytes. bytes ≡ []) (λ more none. rw (none, append-nil) due) (over p).asked looks.asked;
          grows = ReadLogGrows-joins s.source.reader.log.reads m.reader.log.reads t.reader.log.reads first.along.grows
              looks.went.along.grows;
        }

        asks_behind : (answer : Result Bool (AskError InputFault))
            → t.reader.log.reads.zero_reads ≤ m.reader.log.reads.zero_reads + 1
            → AskAnswers decoding s answer (asked t s.held) → FilterAsks decoding s answer (asked t s.held)
        asks_behind answer once answers =
            asks_none t (BodyWent-joins remaining std_read_rules (chunked s.source.coding.0) s.source m t [] [] first
            (subst (λ x. BodyWent remaining std_read_rules (chunked x.0) m [] t) first.coding looks.went))
            (subst (λ c. IsBodyReader (chunked c.0) t) (sym looks.went.coding) looks.whole) over_on
            (omega (arith, once, gave.zero_reads)) answer answers

      -- none does, or some, or that can't be told
      pub asked_behind : (came : Bool) → came ≡ nat_lt (taken_count s.source) (taken_count m) → (end : Result Bool Error)
          → LooksBehind remaining std_read_rules (chunked m.coding.0) m end t → IsBlock t.reader.block
          → FilterAsks decoding s (end_answer came end (taken_count t)) (asked t s.held)
      asked_behind came is (Ok true) looks block =
          let met = looks.answers.1 in
          asks_behind looks (Ok false) (omega (arith, met.1)) (
            (
              none,
              (
                done looks,
                looks.answers.0,
                omega (arith, met.1, gave.zero_reads),
                offered looks block looks.answers.0 (omega (arith, met.1)),
              ),
            ),
            met.0 ∙ gave.faults,
          )
      asked_behind came is (Ok false) looks block =
          let more = looks.answers.1 in
          asks_behind looks (end_answer came (Ok false) (taken_count t)) (omega (arith, more.zero_reads))
          ((none, (done looks, looks.answers.0, refl)), more.faults ∙ gave.faults)
      asked_behind came is (Err e) looks block =
          let failed = looks.answers.1 in
          let fault = failed.0 ∙ ap (λ l. l ++ e ∷ []) gave.faults in
          asks_behind looks (end_answer came (Err e) (taken_count t)) (omega (arith, failed.1))
          (faulted e came is first (rw nothing at p.tells) t (ap (λ d. most_wanted d) looks.still) (none, looks.answers.0) fault
          (inl (record {
            zero_reads = failed.1 ∙ gave.zero_reads;
            give = fault_gives Such s.source.reader t.reader (over_on looks) e fault;
          }))
          (λ taken. let more = came_given lacks p taken in
          some_came t s.held (over_on looks) (grind (arith, failed.1, gave, looks.went.along.grows.given, length-append))))
