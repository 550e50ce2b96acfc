-- Laws of what a reader of a body does with its buffered reader.
use Rattle.std.proofs.Common.{◌≡◌, ℕ, zero, suc, ◌<◌, ◌≤◌, List, [], ◌∷◌, ◌++◌, length, min, Option, Result, Ok, Err, inl, inr, sym, ap, subst, ◌∙◌, refl, arith, append_assoc, append-nil, length-append, rules}
use Rattle.std.proofs.lemmas.List.{length-take-le}
use Rattle.std.specs.declared.io.Error.{Error}
use Rattle.buffer_redux.specs.Block.{OnlyRingMoves}
use Rattle.buffer_redux.specs.BlockLaws.{OnlyRingMoves-joins, OnlyRingMoves-none}
use Rattle.buffer_redux.specs.Buffered.{Buffered}
use Rattle.buffer_redux.specs.BufReader.{ReadsAlong}
use Rattle.buffer_redux.specs.Peek.{ReadsAhead}
use Rattle.buffer_redux.specs.Policy.{ReadRules}
use Rattle.buffer_redux.specs.Potential.{of_plain}
use Rattle.buffer_redux.specs.ReaderLaws.{ReadsAlong-none, ReadsAlong-joins}
use Rattle.buffer_redux.specs.Sparing.{Spared-none, Spared-joins}
use Rattle.buffer_redux.specs.StreamLog.{after_read, zero_of_some}
use Rattle.buffer_redux.specs.Unbuffer.{unbuffered}
use Rattle.body_reader.specs.declared.error.BodyError.{BodyError}
use Rattle.body_reader.specs.declared.progress.Progress.{Progress}
use Rattle.buffer_redux.specs.Asking.{AskedWhere}
use Rattle.buffer_redux.specs.AskingLaws.{AskedWhere-of, AskedWhere-same}
use Rattle.body_reader.specs.AskingLaws.{AskedOver-behind}
use Rattle.body_reader.specs.Between.{AsksWithRoom, AsksOpen, EachGave, FaultedOnce, PassesTo, PassesMany, PassesOn, PassesOnce, Proceeds, KeepsBuffer, GaveNothingOnce, StopsFor, TakenThrough, TakesBytes, TellsOnce, Way}
use Rattle.body_reader.specs.Coding.{AskedFor, Grammar, IsOpen, IsOpenBelow}
use Rattle.body_reader.specs.CodingLaws.{AskedFor-behind, AskedFor-here, Leads-none, Leads-then}

pub EachGave-none : {S Q : Type 0} (s : Buffered S Q) → EachGave s s
EachGave-none s = record { faults = refl; zero_reads = refl; asks = omega arith }

pub EachGave-joins : {S Q : Type 0} (s m t : Buffered S Q) → EachGave s m → EachGave m t → EachGave s t
EachGave-joins s m t x y = grind arith

-- where the log is the same nothing was read
pub EachGave-same : {S Q : Type 0} (s t : Buffered S Q) → t.log ≡ s.log → EachGave s t
EachGave-same s t same = grind arith

-- one read gave some
pub EachGave-once : {S Q : Type 0} (s t : Buffered S Q) (out : List ℕ) (n : ℕ) → t.log ≡ after_read s.log out (Ok n) → 0 < n
    → n ≤ length out → EachGave s t
EachGave-once s t out n told some few = grind (arith, zero_of_some, length-append, length-take-le)

pub GaveNothingOnce-after : {S Q : Type 0} (s m t : Buffered S Q) → EachGave s m → GaveNothingOnce m t → GaveNothingOnce s t
GaveNothingOnce-after s m t gave met = (met.0 ∙ gave.faults, omega (arith, met.1, gave.zero_reads))

pub FaultedOnce-after : {S Q : Type 0} (s m t : Buffered S Q) → EachGave s m → (e : Error) → FaultedOnce m e t → FaultedOnce s e t
FaultedOnce-after s m t gave e fault = (fault.0 ∙ ap (λ l. l ++ e ∷ []) gave.faults, fault.1 ∙ gave.zero_reads)

-- a failure behind reads that gave
module _ {S Q W : Type 0} (count : ℕ) (Bad : W → Type 0) (Open : Type 0) (s m t : Buffered S Q) (gave : EachGave s m) where
  pub StopsFor-after : (e : BodyError W) → StopsFor count Bad Open m e t → StopsFor count Bad Open s e t
  StopsFor-after e stops = grind (arith, EachGave-joins)

module _ {S Q : Type 0} (rules : ReadRules Q) (least : ℕ) where
  pub KeepsBuffer-none : (s : Buffered S Q) → KeepsBuffer rules least s s
  KeepsBuffer-none s = search (rules, OnlyRingMoves-none, Spared-none, arith)

  pub KeepsBuffer-joins : {remaining : S → Option (List ℕ)} (s m t : Buffered S Q) (a b : List ℕ)
      → ReadsAlong remaining rules s a m → ReadsAlong remaining rules m b t
      → KeepsBuffer rules least s m → KeepsBuffer rules least m t → KeepsBuffer rules least s t
  KeepsBuffer-joins s m t a b first then x y = grind (arith, OnlyRingMoves-joins, Spared-joins)

-- reading ahead, where nothing was asked for
unasked : {S Q A : Type 0} (remaining : S → Option (List ℕ)) (rules : ReadRules Q) (n : ℕ) (s : Buffered S Q)
    (answer : Result A Error) (t : Buffered S Q) → ReadsAhead remaining rules n s answer t → t.log ≡ s.log → t ≡ s
unasked remaining rules n s (Ok a) t ahead same = elim ahead.ended [
  | inl some ↦
      let order = ahead.along.in_order in
      ahead.buffered (omega (
        arith,
        some.0,
        ap length order.equal,
        ap length order.given,
        ap (λ l. length l.reads.given) same,
        length-append s.block.bytes order.got,
        length-append s.log.reads.given order.got,
      ))
  | inr few ↦ absurd (omega (arith, few.1, ap (λ l. l.reads.zero_reads) same))
]
unasked remaining rules n s (Err e) t ahead same = absurd (omega (
  arith,
  ap length ahead.caused,
  ap (λ l. length l.reads.faults) same,
  length-append s.log.reads.faults (e ∷ []),
))

-- reading ahead
module _ {S Q A : Type 0} {remaining : S → Option (List ℕ)} {rules : ReadRules Q} {n : ℕ} {s : Buffered S Q}
    {answer : Result A Error} {t : Buffered S Q} (ahead : ReadsAhead remaining rules n s answer t) where
  pub ReadsAhead-keeps : {least : ℕ} → n ≤ least → KeepsBuffer rules least s t
  ReadsAhead-keeps few = record {
    kind = ahead.kind;
    room = λ _. (ahead.capacity, ahead.limit);
    still = λ _ same. elim ahead.asked [
      | inl none ↦
          subst (λ x. OnlyRingMoves s.block x.block) (sym (unasked remaining rules n s answer t ahead none))
          (OnlyRingMoves-none s.block)
      | inr over ↦ absurd (omega (arith, over.some, same))
    ];
    unmoved = λ _ small plain. grind (arith, unasked, of_plain, length-append);
    spared = λ keep high claims. ahead.sparing keep (omega (arith, few, high));
    noted = ahead.noted;
  }

  pub ReadsAhead-asked : AskedWhere (λ bytes. length bytes < n) (unbuffered s) (unbuffered t)
  ReadsAhead-asked = grind arith

-- where that gave enough, or met the end of the stream, or failed
module _ {S Q A : Type 0} {remaining : S → Option (List ℕ)} {rules : ReadRules Q} {n : ℕ} {s t : Buffered S Q} where
  pub ReadsAhead-gave : {a : A} → ReadsAhead remaining rules n s (Ok a) t → n ≤ length t.block.bytes → EachGave s t
  ReadsAhead-gave ahead enough = grind (arith, length-append)

  pub ReadsAhead-ended : {a : A} → ReadsAhead remaining rules n s (Ok a) t → length t.block.bytes < n → GaveNothingOnce s t
  ReadsAhead-ended ahead few = grind arith

  pub ReadsAhead-failed : {e : Error} → ReadsAhead {A = A} remaining rules n s (Err e) t → FaultedOnce s e t
  ReadsAhead-failed ahead = grind arith

-- where fewer settle nothing
module _ {S Q A P W : Type 0} {remaining : S → Option (List ℕ)} {rules : ReadRules Q} {g : Grammar P W} {p : P} {n : ℕ}
    {s : Buffered S Q} {answer : Result A Error} {t : Buffered S Q} (lacks : IsOpenBelow g p n s.block.bytes)
    (ahead : ReadsAhead remaining rules n s answer t) where
  pub ReadsAhead-asks : AskedWhere (IsOpen g p) (unbuffered s) (unbuffered t)
  ReadsAhead-asks = grind (arith, AskedWhere-of, ReadsAhead-asked)

  pub ReadsAhead-open : length t.block.bytes < n → IsOpen g p t.block.bytes
  ReadsAhead-open few = grind (arith, length-append)

module _ {S Q P W : Type 0} (remaining : S → Option (List ℕ)) (rules : ReadRules Q) (g : Grammar P W) where
  pub AsksWithRoom-open : (room : ℕ) (s : Buffered S Q) (p : P) (t : Buffered S Q) → AsksWithRoom remaining rules g room s p t
      → AsksOpen remaining rules g s p t
  AsksWithRoom-open room s p t = grind (arith, AskedWhere-of, unbuffered)

  pub AsksWithRoom-here : (room : ℕ) (s : Buffered S Q) (p : P) (t : Buffered S Q) → g.is_place p
      → min room (g.sure p) ≤ t.log.reads.offer → AskedWhere (IsOpen g p) (unbuffered s) (unbuffered t)
      → AsksWithRoom remaining rules g room s p t
  AsksWithRoom-here room s p t place enough =
      AskedWhere-of (IsOpen g p) (AskedFor g p room t.log.reads.offer) (unbuffered s) (unbuffered t)
      (λ more is. AskedFor-here g p room t.log.reads.offer (s.block.bytes ++ more) place is enough)

module _ {S Q P W : Type 0} {remaining : S → Option (List ℕ)} {rules : ReadRules Q} {g : Grammar P W} where
  -- calls of the buffered reader that hand out nothing take nothing
  pub TakesBytes-still : {s : Buffered S Q} {p : Progress P} {t : Buffered S Q} → g.is_place p.place
      → ReadsAlong remaining rules s [] t → KeepsBuffer rules g.ahead s t → TakesBytes remaining rules g s p [] [] t p
  TakesBytes-still {s} {p} {t} place still keeps = grind (arith, Leads-none, append-nil)

  -- no call takes nothing, and two traces of calls join
  pub TakesBytes-none : {s : Buffered S Q} {p : Progress P} → g.is_place p.place → TakesBytes remaining rules g s p [] [] s p
  TakesBytes-none {s} place = TakesBytes-still place (ReadsAlong-none remaining rules s) (KeepsBuffer-none rules g.ahead s)

  pub TakesBytes-joins : {s : Buffered S Q} {p : Progress P} {m : Buffered S Q} {q : Progress P} {t : Buffered S Q}
      {r : Progress P} {a h b k : List ℕ} → TakesBytes remaining rules g s p a h m q → TakesBytes remaining rules g m q b k t r
      → TakesBytes remaining rules g s p (a ++ b) (h ++ k) t r
  TakesBytes-joins {s} {p} {m} {q} {t} {r} {a} {h} {b} {k} x y = record {
    along = ReadsAlong-joins remaining rules s m t a b x.along y.along;
    leads = Leads-then g p.place q.place r.place a b h k m.block.bytes y.along.in_order.got t.block.bytes
        y.along.in_order.equal x.leads y.leads;
    taken = y.taken ∙ ap (λ l. l ++ b) x.taken ∙ append_assoc p.taken.log.fills.consumed a b;
    place = y.place;
    keeps = KeepsBuffer-joins rules g.ahead s m t a b x.along y.along x.keeps y.keeps;
  }

  -- passes of nothing, of one turn, and one after another
  pub PassesTo-none : {s : Buffered S Q} {p : P} → PassesTo remaining rules g s p s p
  PassesTo-none = (zero, (refl, refl))

  pub PassesTo-once : {s : Buffered S Q} {p : P} {t : Buffered S Q} {q : P} → PassesOnce remaining rules g s p t q
      → PassesTo remaining rules g s p t q
  PassesTo-once {s} {p} {t} {q} once = (suc zero, (t, q, once, (refl, refl)))

  pub PassesTo-joins : {s : Buffered S Q} {p : P} {m : Buffered S Q} {r : P} {t : Buffered S Q} {q : P}
      → PassesTo remaining rules g s p m r → PassesTo remaining rules g m r t q → PassesTo remaining rules g s p t q
  PassesTo-joins {s} {p} {m} {r} {t} {q} first then = from first.0 s p first.1
    where
      from : (count : ℕ) (s : Buffered S Q) (p : P) → PassesMany remaining rules g count s p m r
          → PassesTo remaining rules g s p t q
      from zero s p same = subst (λ x. PassesTo remaining rules g x p t q) same.0
          (subst (λ x. PassesTo remaining rules g m x t q) same.1 then)
      from (suc count) s p (s', p', once, rest) = let on = from count s' p' rest in (suc on.0, (s', p', once, on.1))

  -- and then no payload was handed out
  pub TellsOnce-none : {s : Buffered S Q} {p : P} {t : Buffered S Q} {q : P} → PassesTo remaining rules g s p t q
      → TellsOnce remaining rules g s p 0 t q
  TellsOnce-none {s} {p} {t} {q} passes = record { front = t; place = q; passes = passes; once = inl (refl, refl, refl) }

  pub TellsOnce-passes : {s : Buffered S Q} {p : P} {t : Buffered S Q} {q : P} → TellsOnce remaining rules g s p 0 t q
      → PassesTo remaining rules g s p t q
  TellsOnce-passes {s} {p} {t} {q} tells = grind arith

  -- where no payload is handed out all is taken through the buffer
  pub Way-through : {room : ℕ} {s : Buffered S Q} {p : Progress P} {t : Buffered S Q} {q : Progress P}
      (way : Way remaining rules g room s p [] t q) → TakenThrough s way.wire t
  Way-through way = elim way.through [ inl all ↦ all | inr past ↦ absurd (omega (arith, past.0)) ]

  -- no call goes nowhere
  pub Way-none : {room : ℕ} {s : Buffered S Q} {p : Progress P} → g.is_place p.place → Way remaining rules g room s p [] s p
  Way-none place = record {
    wire = [];
    takes = TakesBytes-none place;
    asked = inl refl;
    through = inl (omega arith);
    tells = TellsOnce-none PassesTo-none;
    idle = λ _. (refl, refl);
  }

  -- nobody was asked
  pub PassesOn-way : {room : ℕ} {s : Buffered S Q} {p : Progress P} {t : Buffered S Q} {q : Progress P}
      → PassesOn remaining rules g s p t q → Way remaining rules g room s p [] t q
  PassesOn-way passes = record {
    wire = passes.wire;
    takes = passes.takes;
    asked = inl passes.told;
    through = inl passes.through;
    tells = TellsOnce-none passes.passes;
    idle = passes.idle;
  }

  -- behind a way without payload, on which each read gave some
  module _ {room : ℕ} {s : Buffered S Q} {p : Progress P} {m : Buffered S Q} {q : Progress P}
      (before : Way remaining rules g room s p [] m q) (gave : EachGave s m) where
    asks_on : (t : Buffered S Q) → AsksWithRoom remaining rules g room m q.place t
        → AsksWithRoom remaining rules g room s p.place t
    asks_on t (inl same) =
        AskedWhere-same (AskedFor g p.place room t.log.reads.offer) (unbuffered s) (unbuffered m) (unbuffered t) same
        (subst (λ l. AskedWhere (AskedFor g p.place room l.reads.offer) (unbuffered s) (unbuffered m)) (sym same) before.asked)
    asks_on t (inr over) = inr (AskedOver-behind s m t before.wire before.takes.along.in_order gave
        (AskedFor g p.place room m.log.reads.offer) (AskedFor g p.place room t.log.reads.offer)
        (AskedFor g q.place room t.log.reads.offer)
        (λ more asked. AskedFor-behind g p.place q.place room t.log.reads.offer before.wire m.block.bytes more before.takes.leads
        asked) before.asked over)

    pub Way-joins : {handed : List ℕ} {t : Buffered S Q} {r : Progress P} → Way remaining rules g room m q handed t r
        → Way remaining rules g room s p handed t r
    Way-joins {t = t} way = record {
      wire = before.wire ++ way.wire;
      takes = TakesBytes-joins before.takes way.takes;
      asked = asks_on t way.asked;
      through = grind (arith, Way-through before, length-append before.wire way.wire);
      tells = record {
        front = way.tells.front;
        place = way.tells.place;
        passes = PassesTo-joins (TellsOnce-passes before.tells) way.tells.passes;
        once = way.tells.once;
      };
      idle = λ done. grind arith;
    }

    pub Proceeds-after : {A : Type 0} {handed : List ℕ} {t : Buffered S Q} {r : Progress P} (answer : Result A (BodyError W))
        (Means : A → Type 0)
        → Proceeds remaining rules g room m q handed answer Means t r
        → Proceeds remaining rules g room s p handed answer Means t r
    Proceeds-after {t = t} answer Means goes = grind (arith, EachGave-joins, StopsFor-after, Way-joins)
