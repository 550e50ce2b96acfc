-- The payload of a body is handed out in order, and what is due is sent with it.
use Rattle.std.proofs.Common.{◌≡◌, ℕ, ◌<◌, inl, inr, List, [], ◌++◌, length, take, Option, Result, Ok, Err, refl, sym, ap, subst, ◌∙◌, arith, append-nil, append_assoc}
use Rattle.std.specs.Prelude.{vec_capacity}
use Rattle.bodies.specs.Words.{std_read_rules, BodyWent, chunked, handed_of, AsksSent, FilterRules, NeverGaveNothing, IsLawful, Moves, StaysOpen, AllSent, sent_all, taken_more, InputFault, concat, concat-append, All-append, All-nil, WritesInOrder-joins, WritesInOrder-none, BodyWent-joins, BodyWent-none, Decoding}
use Rattle.bodies.specs.Decode.{IsDue}
use Rattle.bodies.specs.Filters.{asked_after}
use Rattle.bodies.specs.Decoding.{AsksPromptly, HandsPayloadPieces, PayloadEnds, TakesPayload, decoding_rules, held_payload}
use Rattle.bodies.specs.declared.fault.InputFault.TheVariants.{NotChunked, Truncated, Behind}

module _ {R W : Type 0} (remaining : R → Option (List ℕ)) where
  abbrev filter_rules : FilterRules (Decoding R W) InputFault
  filter_rules = decoding_rules remaining

  -- what was handed out is held, behind what was
  pub hands_held : (s t : Decoding R W) (payload : List ℕ)
      → BodyWent remaining std_read_rules (chunked s.source.coding.0) s.source payload t.source
      → held_payload s ++ payload ≡ held_payload t → vec_capacity t.piece ≡ vec_capacity s.piece
      → HandsPayloadPieces remaining s [] t
  hands_held s t payload went order room =
      record { payload = payload; went = went; order = order; some = All-nil (λ piece. 0 < length piece); room = room }

  pub hands_none : (s t : Decoding R W) → t.source ≡ s.source → held_payload s ≡ held_payload t
      → vec_capacity t.piece ≡ vec_capacity s.piece → HandsPayloadPieces remaining s [] t
  hands_none s t same held = hands_held s t []
      (rw same (BodyWent-none remaining std_read_rules (chunked s.source.coding.0) s.source)) (append-nil (held_payload s) ∙ held)

  hands_joins : (a b c : Decoding R W) (p q : List (List ℕ)) → HandsPayloadPieces remaining a p b
      → HandsPayloadPieces remaining b q c
      → HandsPayloadPieces remaining a (p ++ q) c
  hands_joins a b c p q f g = record {
    payload = f.payload ++ g.payload;
    went = BodyWent-joins remaining std_read_rules (chunked a.source.coding.0) a.source b.source c.source f.payload g.payload
        f.went (subst (λ x. BodyWent remaining std_read_rules (chunked x.0) b.source g.payload c.source) f.went.coding g.went);
    order = sym (append_assoc (held_payload a) f.payload g.payload)
        ∙ rw (f.order, append_assoc (concat p) (held_payload b) g.payload, g.order, concat-append, append_assoc) refl;
    some = All-append (λ piece. 0 < length piece) p q f.some g.some;
    room = g.room ∙ f.room;
  }

  takes_joins : (a b c : Decoding R W) (p q : List (List ℕ)) → TakesPayload a.target p b.target → TakesPayload b.target q c.target
      → TakesPayload a.target (p ++ q) c.target
  takes_joins a b c p q f g =
      let order = WritesInOrder-joins a.target b.target c.target (concat p) (concat q) f.in_order g.in_order in
      record { in_order = rw concat-append order; room = g.room ∙ f.room }

  ends_after : (a b c : Decoding R W) (how : Result (Unit {0}) InputFault) → NeverGaveNothing filter_rules a b
      → PayloadEnds b.source how c.source
      → PayloadEnds a.source how c.source
  ends_after a b c (Ok _) gives end = (end.0, end.1, omega (arith, gives.zero_reads, end.2), end.3)
  ends_after a b c (Err (NotChunked why right)) gives end = end
  ends_after a b c (Err (Truncated right)) gives end = (end.0, end.1, omega (arith, gives.zero_reads, end.2), end.3)
  ends_after a b c (Err (Behind right)) gives end = end

  still_open : (a b : Decoding R W) → StaysOpen filter_rules a b → NeverGaveNothing filter_rules a b
  still_open a b (inl gives) = gives
  still_open a b (inr closed) = absurd closed

  -- nothing is held where the count is 0
  pub none_held : (s : Decoding R W) → s.held ≡ 0 → held_payload s ≡ []
  none_held s none = ap (λ n. take n s.piece.items) none

  asks_sent : (first s t : Decoding R W) (p : List (List ℕ)) → filter_rules.fresh first → Moves filter_rules first p p s
      → NeverGaveNothing filter_rules first s
      → s.held ≡ 0 → AllSent s.target → AsksPromptly s.source t.source → AsksSent filter_rules first s t
  asks_sent first s t p fresh moves gives lacks sent asks =
      let went = moves.hands.went in
      let m = s.source in
      let due : List ℕ → Type 0 = λ bytes. IsDue m.coding.0 (m.taken ++ bytes) (handed_of m) in
      let before = first.source.taken in
      let payload : handed_of m ≡ handed_of first.source ++ concat p =
      went.handed ∙ ap (λ l. handed_of first.source ++ l)
      (rw (none_held first fresh.held, none_held s lacks, append-nil) at moves.hands.order) in
      elim (asked_after due m.reader t.source.reader asks first.source.reader went.wire fresh.buffered went.along.in_order
      gives.give) [
        | inl same ↦ inl same
        | inr (bytes, is_due, last) ↦ inr (record {
          before = went.wire ++ bytes;
          asked = last;
          due = concat p;
          is_due = rw (went.coding, payload, went.taken, append_assoc) at is_due;
          sent = sent_all first.target s.target (concat p) moves.takes.in_order fresh.target sent;
        })
      ]

  pub decoding_lawful : IsLawful (decoding_rules {R = R} {W = W} remaining)
  decoding_lawful = record {
    hands_none = λ s. hands_none s s refl refl refl;
    hands_joins = hands_joins;
    takes_none = λ s. record { in_order = WritesInOrder-none s.target; room = refl };
    takes_joins = takes_joins;
    ends_after = λ a b c p how hands still end. (end.0, ends_after a b c how (still_open a b still) end.1);
    waits_lacks = λ s waits. (waits.0, inr (inl waits.1));
    waits_fresh = λ s waits sent. record { buffered = waits.1; target = sent.empty; held = waits.0 };
    taken_on = λ s t p taken. omega (arith, taken_more s.target t.target (concat p) taken.in_order);
    asks_sent = λ first s t p fresh moves still lacks.
        asks_sent first s t p fresh moves (still_open first s still) lacks.0;
  }
