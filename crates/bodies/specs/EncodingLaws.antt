-- What is given is handed out in order, and what is due is sent with it.
use Rattle.std.proofs.Common.{◌≡◌, ◌≤◌, length, rules, ℕ, inl, inr, List, [], ◌++◌, Result, Ok, Err, false, refl, ap, arith, append-nil, length-append}
use Rattle.forward.specs.Link.{Ask, Goes, Linked}
use Rattle.bodies.specs.Words.{All-append, All-nil, concat-append, concat, flat_map, ReadsInOrder-joins, ReadsInOrder-none, ChunksWent-joins, ChunksWent-none, Goes-leaves, Buffered, StdPolicy, AsksSent, IsLawful, Moves, OffersBuffer, StaysOpen, AllSent, sent_all, taken_more, InputFault, chunk, Encoding}
use Rattle.bodies.specs.Encoding.{HandsReads, encoding_rules}
use Rattle.bodies.specs.Filters.{Asked, asked_after}

module _ {R : Type 0} where
  pub HandsReads-none : (s : Buffered R StdPolicy) → HandsReads s [] s
  HandsReads-none s =
      let small = All-nil (λ (payload : List ℕ). length payload ≤ 8192) in
      search (rules, ReadsInOrder-none)

  HandsReads-joins : (a b c : Buffered R StdPolicy) (p q : List (List ℕ)) → HandsReads a p b
      → HandsReads b q c → HandsReads a (p ++ q) c
  HandsReads-joins a b c p q f g =
      let order = rw (← concat-append) at (ReadsInOrder-joins a b c (concat p) (concat q) f.in_order g.in_order) in
      let small = All-append (λ (payload : List ℕ). length payload ≤ 8192) p q f.small g.small in
      search (rules, length-append p q)

module _ {R W : Type 0} (trace : W → W → Type 0) where
  ends_after : (a b c : Encoding R W) (how : Result (Unit {0}) InputFault) → StaysOpen (encoding_rules trace) a b
      → (encoding_rules trace).ends b how c → (encoding_rules trace).ends a how c
  ends_after a b c (Ok _) (inl gives) end = (end.0, omega (arith, end.1, gives.zero_reads))
  ends_after a b c (Ok _) (inr closed) end = absurd closed
  ends_after a b c (Err why) still end = absurd end

  asks_sent : (first s t : Encoding R W) (p : List (List ℕ)) → (encoding_rules trace).fresh first
      → Moves (encoding_rules trace) first p p s → StaysOpen (encoding_rules trace) first s
      → AllSent s.target.writer → Asked (λ bytes. bytes ≡ []) s.source t.source
      → AsksSent (encoding_rules trace) first s t
  asks_sent first s t p fresh moves (inr closed) sent asked = absurd closed
  asks_sent first s t p fresh moves (inl gives) sent asked =
      elim (asked_after (λ bytes. bytes ≡ []) s.source t.source asked first.source (concat p) fresh.0
      moves.hands.in_order gives.give) [
        | inl same ↦ inl same
        | inr (bytes, none, last) ↦ inr (record {
          before = concat p;
          asked = rw (none, append-nil) at last;
          due = flat_map chunk p;
          is_due = record { payloads = p; carried = moves.takes.carried; equal = refl; joined = refl };
          sent = sent_all first.target.writer s.target.writer (flat_map chunk p) moves.takes.went.in_order fresh.1 sent;
        })
      ]

  pub encoding_lawful : ((x : W) → trace x x) → ((a b c : W) → trace a b → trace b c → trace a c)
      → IsLawful (encoding_rules {R = R} {W = W} trace)
  encoding_lawful none joins = record {
    hands_none = λ s. HandsReads-none s.source;
    hands_joins = λ a b c p q. HandsReads-joins a.source b.source c.source p q;
    takes_none = λ s. ChunksWent-none trace none joins s.target;
    takes_joins = λ a b c p q. ChunksWent-joins trace none joins a.target b.target c.target p q;
    ends_after = λ a b c p how hands still end. ends_after a b c how still end;
    waits_lacks = λ s waits. waits;
    waits_fresh = λ s waits sent. (waits, sent.empty);
    taken_on = λ s t p taken. omega (arith, taken_more s.target.writer t.target.writer (flat_map chunk p) taken.went.in_order);
    asks_sent = λ first s t p fresh moves still lacks sent asked. asks_sent first s t p fresh moves still sent asked.asked;
  }

  -- each ask was for a whole buffer
  pub Goes-offers : {Such : Ask (Encoding R W) → Type 0} {more : ℕ} (s t : Linked (Encoding R W))
      → Goes (encoding_rules trace) Such more s t → OffersBuffer false 8192 s.filter.source.log t.filter.source.log
  Goes-offers s t goes = elim (Goes-leaves (encoding_rules trace) (λ log. log.reads.offer ≡ 8192)
      (λ s t asks. inr asks.offer) s t goes) [
        | inl same ↦ inl (ap (λ l. l.reads) same)
        | inr all ↦ inr all
      ]
