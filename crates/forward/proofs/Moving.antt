-- How calls of a filter, and of a link, follow one another.
use Rattle.std.proofs.Common.{◌≡◌, ℕ, ◌+◌, ◌≤◌, inl, inr, List, [], ◌∷◌, ◌++◌, length, refl, sym, ap, subst, ◌∙◌, arith, append-nil, append_assoc, length-append, All, flat_map}
use Rattle.std.proofs.lemmas.Grind.{flat_map-append}
use Rattle.std.proofs.lemmas.List.Elements.{All-append, All-cons, All-head, All-nil, All-tail, All-weaker}
use Rattle.redux_buffer.specs.StreamLog.{WriteLog}
use Rattle.forward.specs.Filter.{AsksOnce, FilterRules, IsLawful, Moves, StaysOpen}
use Rattle.forward.specs.Forward.{Forwarded, ForwardedFirst}
use Rattle.forward.specs.Link.{Ask, AreTurns, AsksAlong, EndsInterrupted, GivesUpLast, Goes, IsAsk, IsTurn, Linked, NoneGaveUp, NotAsked, states_of}
use Rattle.forward.specs.Prompt.{AsksGiveOrFail, WritesOn}
use Rattle.forward.specs.Streams.{FewFaults}
use Rattle.forward.specs.PromptLaws.{AsksGiveOrFail-joins, AsksGiveOrFail-none, WritesOn-none, WritesOn-joins}

-- what was received goes on
pub longer : {old new : WriteLog} → WritesOn old new → length old.received ≤ length new.received
longer {old} writes = omega (arith, ap length writes.received.equal, length-append old.received writes.received.more)

module _ {T W : Type 0} (rules : FilterRules T W) where
  module _ (lawful : IsLawful rules) where
    pub Moves-none : (s : T) → Moves rules s [] [] s
    Moves-none s = record { hands = lawful.hands_none s; takes = lawful.takes_none s }

    pub Moves-joins : (a b c : T) (p q p' q' : List (List ℕ)) → Moves rules a p p' b → Moves rules b q q' c
        → Moves rules a (p ++ q) (p' ++ q') c
    Moves-joins a b c p q p' q' first second = record {
      hands = lawful.hands_joins a b c p q first.hands second.hands;
      takes = lawful.takes_joins a b c p' q' first.takes second.takes;
    }

    -- nothing more went over
    pub Moves-on : (a b c : T) (p p' : List (List ℕ)) → Moves rules a p p' b → Moves rules b [] [] c → Moves rules a p p' c
    Moves-on a b c p p' first second =
        subst (λ l. Moves rules a l p' c) (append-nil p)
        (subst (λ l. Moves rules a (p ++ []) l c) (append-nil p') (Moves-joins a b c p [] p' [] first second))

    pub none_forwarded : (s t : T) → Moves rules s [] [] t → Forwarded rules 0 s t
    none_forwarded s t moves = record { payloads = []; moves = moves; all = refl }

    abbrev pub none_first : (s t : T) (lost : List (List ℕ)) → Moves rules s lost [] t → length lost ≤ rules.loses
        → ForwardedFirst rules 0 s t
    none_first s t lost moves few = record { payloads = []; lost = lost; moves = moves; all = refl; few = few }

    pub forwarded_joins : (a b c : T) (n k : ℕ) → Forwarded rules n a b → Forwarded rules k b c → Forwarded rules (n + k) a c
    forwarded_joins a b c n k first second = record {
      payloads = first.payloads ++ second.payloads;
      moves = Moves-joins a b c first.payloads second.payloads first.payloads second.payloads first.moves
          second.moves;
      all = omega (arith, first.all, second.all, length-append first.payloads second.payloads);
    }

    pub forwarded_on : (a b c : T) (n : ℕ) → Forwarded rules n a b → Forwarded rules 0 b c → Forwarded rules n a c
    forwarded_on a b c n first second =
        let both = forwarded_joins a b c n 0 first second in
        record { payloads = both.payloads; moves = both.moves; all = omega (arith, both.all) }

    abbrev pub first_joins : (a b c : T) (n : ℕ) → Forwarded rules n a b → ForwardedFirst rules 0 b c → ForwardedFirst rules n a c
    first_joins a b c n first second = record {
      payloads = first.payloads ++ second.payloads;
      lost = second.lost;
      moves = subst (λ l. Moves rules a l (first.payloads ++ second.payloads) c)
          (sym (append_assoc first.payloads second.payloads second.lost))
          (Moves-joins a b c first.payloads (second.payloads ++ second.lost) first.payloads second.payloads
          first.moves second.moves);
      all = omega (arith, first.all, second.all, length-append first.payloads second.payloads);
      few = second.few;
    }

  pub AsksOnce-none : (s t : T) → rules.read t ≡ rules.read s → (rules.closed s → rules.closed t) → AsksOnce rules s t
  AsksOnce-none s t same closed = record {
    once = omega (arith, ap (λ l. l.reads.zero_reads) same);
    quiet = λ _. ap (λ l. l.reads.zero_reads) same;
    closed = closed;
  }

  pub StaysOpen-none : (s t : T) → rules.read t ≡ rules.read s → StaysOpen rules s t
  StaysOpen-none s t same = inl (record {
    zero_reads = ap (λ l. l.reads.zero_reads) same;
    give = subst (AsksGiveOrFail (rules.read s)) (sym same) (AsksGiveOrFail-none (rules.read s));
  })

  pub AsksOnce-joins : (a b c : T) → AsksOnce rules a b → StaysOpen rules a b → AsksOnce rules b c → AsksOnce rules a c
  AsksOnce-joins a b c first open' second = record {
    once = elim open' [
      | inl gives ↦ omega (arith, gives.zero_reads, second.once)
      | inr closed ↦ omega (arith, first.once, second.quiet closed)
    ];
    quiet = λ closed. second.quiet (first.closed closed) ∙ first.quiet closed;
    closed = λ closed. second.closed (first.closed closed);
  }

  pub StaysOpen-joins : (a b c : T) → StaysOpen rules a b → AsksOnce rules b c → StaysOpen rules b c → StaysOpen rules a c
  StaysOpen-joins a b c (inl first) once (inl second) = inl (record {
    zero_reads = second.zero_reads ∙ first.zero_reads;
    give = AsksGiveOrFail-joins (rules.read a) (rules.read b) (rules.read c) first.give second.give;
  })
  StaysOpen-joins a b c (inl first) once (inr closed) = inr closed
  StaysOpen-joins a b c (inr closed) once second = inr (once.closed closed)

  pub NotAsked-none : (s : T) → NotAsked rules s s
  NotAsked-none s = record { told = refl; writes = WritesOn-none (rules.target s).log.writes }

  pub NotAsked-joins : (a b c : T) → NotAsked rules a b → NotAsked rules b c → NotAsked rules a c
  NotAsked-joins a b c first second = record {
    told = second.told ∙ first.told;
    writes = WritesOn-joins (rules.target a).log.writes (rules.target b).log.writes (rules.target c).log.writes first.writes
        second.writes;
  }

  pub along_after : (a b c : T) (asks : List (Ask T)) → NotAsked rules a b → AsksAlong rules b asks c → AsksAlong rules a asks c
  along_after a b c [] first second = NotAsked-joins a b c first second
  along_after a b c (ask ∷ asks) first second = (NotAsked-joins a b ask.before first second.0, second.1, second.2)

  pub AsksAlong-joins : (a b c : T) (asks more : List (Ask T)) → AsksAlong rules a asks b → AsksAlong rules b more c
      → AsksAlong rules a (asks ++ more) c
  AsksAlong-joins a b c [] more first second = along_after a b c more first second
  AsksAlong-joins a b c (ask ∷ asks) more first second =
      (first.0, first.1, AsksAlong-joins ask.after b c asks more first.2 second)

  pub along_one : (s t : T) → IsAsk rules (record { before = s; after = t })
      → AsksAlong rules s (record { before = s; after = t } ∷ []) t
  along_one s t is = (NotAsked-none s, is, NotAsked-none t)

  -- what is noted goes on
  pub noted_on : (s t u : List T) (asks more : List (Ask T)) → t ≡ s ++ states_of asks → u ≡ t ++ states_of more
      → u ≡ s ++ states_of (asks ++ more)
  noted_on s t u asks more first second =
      second ∙ ap (λ l. l ++ states_of more) first ∙ append_assoc s (states_of asks) (states_of more)
      ∙ ap (λ l. s ++ l) (sym (flat_map-append (λ ask. ask.before ∷ ask.after ∷ []) asks more))

  abbrev turns_none : AreTurns rules []
  turns_none = record { turns = []; each = All-nil (IsTurn rules); equal = refl; last = tt }

  abbrev one_turn : (asks : List (Ask T)) → IsTurn rules asks → AreTurns rules asks
  one_turn asks turn = record {
    turns = asks ∷ [];
    each = All-cons (IsTurn rules) asks [] turn (All-nil (IsTurn rules));
    equal = sym (append-nil asks);
    last = tt;
  }

  abbrev Whole : List (Ask T) → Type 0
  Whole turn = ¬ (EndsInterrupted rules turn)

  -- behind turns of which none gave up
  pub last_join : (turns more : List (List (Ask T))) → NoneGaveUp rules turns → GivesUpLast rules more
      → GivesUpLast rules (turns ++ more)
  last_join [] more not_given_up last = last
  last_join (turn ∷ []) [] not_given_up last = tt
  last_join (turn ∷ []) (next ∷ more) not_given_up last = (All-head Whole turn [] not_given_up, last)
  last_join (turn ∷ next ∷ turns) more not_given_up last = (
    All-head Whole turn (next ∷ turns) not_given_up,
    last_join (next ∷ turns) more (All-tail Whole turn (next ∷ turns) not_given_up) last,
  )

  abbrev turns_join : (asks more : List (Ask T)) → (first : AreTurns rules asks) → NoneGaveUp rules first.turns
      → AreTurns rules more → AreTurns rules (asks ++ more)
  turns_join asks more first not_given_up second = record {
    turns = first.turns ++ second.turns;
    each = All-append (IsTurn rules) first.turns second.turns first.each second.each;
    equal =
        ap (λ l. l ++ more) first.equal ∙ ap (λ l. flat_map (λ turn. turn) first.turns ++ l) second.equal
        ∙ sym (flat_map-append (λ turn. turn) first.turns second.turns);
    last = last_join first.turns second.turns not_given_up second.last;
  }

  module _ (Such : Ask T → Type 0) where
    -- the stream was not asked
    abbrev pub Goes-unasked : (more : ℕ) (s t : Linked T) → NotAsked rules s.filter t.filter → t.states ≡ s.states
        → (rules.target t.filter).log.writes.flushes ≤ (rules.target s.filter).log.writes.flushes + more
        → FewFaults more (rules.target s.filter).log.writes (rules.target t.filter).log.writes → Goes rules Such more s t
    Goes-unasked more s t none same flushes few = record {
      asks = [];
      noted = same ∙ sym (append-nil s.states);
      along = none;
      turns = turns_none;
      each = All-nil Such;
      flushes = omega (arith, flushes);
      few = few;
    }

    abbrev pub Goes-none : (s : Linked T) → Goes rules Such 0 s s
    Goes-none s = Goes-unasked 0 s s (NotAsked-none s.filter) refl (omega arith) (omega arith)

    -- the writer was flushed at most, and then it was asked in one turn
    abbrev pub Goes-turn : (more : ℕ) (s m t : Linked T) → NotAsked rules s.filter m.filter → m.states ≡ s.states
        → (rules.target m.filter).log.writes.flushes ≤ (rules.target s.filter).log.writes.flushes + 1
        → FewFaults 0 (rules.target s.filter).log.writes (rules.target m.filter).log.writes
        → rules.target t.filter ≡ rules.target m.filter → (asks : List (Ask T)) → t.states ≡ m.states ++ states_of asks
        → AsksAlong rules m.filter asks t.filter → IsTurn rules asks → All Such asks → Goes rules Such more s t
    Goes-turn more s m t none same flushed few told asks noted along turn each = record {
      asks = asks;
      noted = noted ∙ ap (λ l. l ++ states_of asks) same;
      along = along_after s.filter m.filter t.filter asks none along;
      turns = one_turn asks turn;
      each = each;
      flushes = omega (arith, flushed, ap (λ w. w.log.writes.flushes) told);
      few = omega (
        arith,
        few,
        ap (λ w. length w.log.writes.faults) told,
        ap (λ w. length w.log.writes.received) told,
      );
    }

    -- asks of which no turn gave up, and then others
    abbrev pub Goes-joins : (more : ℕ) (s t u : Linked T) → (first : Goes rules Such 0 s t) → NoneGaveUp rules first.turns.turns
        → Goes rules Such more t u → Goes rules Such more s u
    Goes-joins more s t u first not_given_up second = record {
      asks = first.asks ++ second.asks;
      noted = noted_on s.states t.states u.states first.asks second.asks first.noted second.noted;
      along = AsksAlong-joins s.filter t.filter u.filter first.asks second.asks first.along second.along;
      turns = turns_join first.asks second.asks first.turns not_given_up second.turns;
      each = All-append Such first.asks second.asks first.each second.each;
      flushes = omega (
        arith,
        first.flushes,
        second.flushes,
        length-append first.turns.turns second.turns.turns,
      );
      few = omega (arith, first.few, second.few);
    }

    abbrev pub Goes-weaker : (Other : Ask T → Type 0) → ((ask : Ask T) → Such ask → Other ask) → (more : ℕ)
        → (s t : Linked T) → Goes rules Such more s t → Goes rules Other more s t
    Goes-weaker Other so more s t goes = record {
      asks = goes.asks;
      noted = goes.noted;
      along = goes.along;
      turns = goes.turns;
      each = All-weaker Such Other so goes.asks goes.each;
      flushes = goes.flushes;
      few = goes.few;
    }
