-- What a call of a reader of a body comes to, seen by contracts.
use Rattle.std.proofs.Common.{◌≡◌, ℕ, ◌-◌, ◌<◌, ◌≤◌, ◌⊎◌, List, [], ◌++◌, length, min, take, Option, Result, IfOk, MatchResult, Ok, Err, sym, ap, subst, ◌∙◌, inl, inr, refl, arith, append-nil, length-append}
use Rattle.buffer_redux.specs.Buffered.{Buffered}
use Rattle.buffer_redux.specs.BufReader.{ReaderConsumes}
use Rattle.buffer_redux.specs.Policy.{ReadRules}
use Rattle.buffer_redux.specs.StreamLog.{StreamLog}
use Rattle.body_reader.specs.declared.error.BodyError.{BodyError}
use Rattle.body_reader.specs.declared.error.BodyError.TheVariants.{Wrong, Truncated, Io}
use Rattle.body_reader.specs.declared.progress.Progress.{Progress}
use Rattle.body_reader.specs.Between.{AllShown, EachGave, HandsOn, HandsSome, KnowsAll, PayloadFails, ShowsOn, StopsFor, TakesBytes, Way, handed_out}
use Rattle.body_reader.specs.BodyReader.{BodyState, BodyWent, Breaks, EndsEarly, FillsPayload, IsBodyReader, NotedIfOk, TookWholeBody, ReadsPayload, NoPayload, seen, taken_count}
use Rattle.body_reader.specs.BodyReaderLaws.{BodyWent-none}
use Rattle.body_reader.specs.BetweenLaws.{AsksWithRoom-open, EachGave-none, PassesTo-none, TellsOnce-passes}
use Rattle.body_reader.specs.Coding.{Grammar, IsDone, IsKnown, IsLawful, IsOpen}
use Rattle.body_reader.specs.CodingLaws.{Leads-done, Leads-left, Leads-then, Leads-whole}

-- in a place where a body ended none is known
none_there : {P W : Type 0} (g : Grammar P W) (j : ℕ) (x : P) (bytes : List ℕ) → IsKnown g x j bytes → IsDone g x → j ≡ 0
none_there j x bytes known done = grind arith

module _ {S Q C P W : Type 0} {remaining : S → Option (List ℕ)} {rules : ReadRules Q} {g : Grammar P W}
    {r : Buffered S Q} {c : C} {p : Progress P} {calls : StreamLog} {k : ℕ} {r' : Buffered S Q} {q : Progress P}
    {calls' : StreamLog} {k' : ℕ} {wire handed : List ℕ} (takes : TakesBytes remaining rules g r p wire handed r' q)
    (given : calls'.reads.given ≡ calls.reads.given ++ handed) where
  pub state_is : IsBodyReader g (seen r c p calls k) → IsKnown g q.place k' r'.block.bytes
      → IsBodyReader g (seen r' c q calls' k')
  state_is is known = grind (arith, Leads-then)

  pub state_went : BodyWent remaining rules g (seen r c p calls k) handed (seen r' c q calls' k')
  state_went = record {
    wire = wire;
    along = takes.along;
    taken = takes.taken;
    handed = given;
    coding = refl;
    keeps = takes.keeps;
  }

module _ {S Q C P W : Type 0} {g : Grammar P W} {t : BodyState S Q C P} (now : IsBodyReader g t) where
  -- what is buffered settles nothing
  pub early : IsOpen g t.place t.reader.block.bytes → EndsEarly g t
  early is = record {
    settles_nothing = is;
    none = λ body payload xs body_is same.
        let bytes = t.reader.block.bytes in
        let left = Leads-left g _ _ _ bytes now.leads body payload body_is xs []
        (same ∙ ap (λ l. t.taken ++ l) (sym (append-nil bytes))) in
        omega (
          arith,
          is.further left.rest left.later left.completes ([], xs, left.behind),
          ap length left.behind,
          length-append left.rest xs,
          length-append bytes [],
        );
  }

  -- or is wrong
  pub breaks_so : IsLawful g → (why : W) → g.wrong t.place t.reader.block.bytes why → Breaks g why t
  breaks_so lawful why wrong = record {
    name = wrong;
    none = λ body payload xs rest body_is same.
        let left = Leads-left g _ _ _ t.reader.block.bytes now.leads body payload body_is xs rest same in
        lawful.never t.place t.reader.block.bytes why left.rest left.later now.place wrong left.completes (rest, xs, left.behind);
  }

  stops : IsLawful g → (s : BodyState S Q C P) (count : ℕ) → count ≡ taken_count t → (e : BodyError W)
      → StopsFor count (g.wrong t.place t.reader.block.bytes) (IsOpen g t.place t.reader.block.bytes) s.reader e t.reader
      → NoPayload g s e t
  stops lawful s n is (Wrong why count) (right, well, wrong) = (right ∙ is, well, breaks_so lawful why wrong)
  stops lawful s n is (Truncated count) (right, met, open') = (right ∙ is, met, early open')
  stops lawful s n is (Io e) (fault, open') = (fault, early open')

-- a read of payload
module _ {S Q C P W : Type 0} (remaining : S → Option (List ℕ)) (rules : ReadRules Q) (g : Grammar P W) (lawful : IsLawful g)
    (r : Buffered S Q) (c : C) (p : Progress P) (calls : StreamLog) (k : ℕ) (is : IsBodyReader g (seen r c p calls k))
    (out : List ℕ) (answer : Result ℕ (BodyError W)) (r' : Buffered S Q) (q : Progress P) (k' : ℕ)
    (hands : HandsOn remaining rules g k r p out answer r' q k') (known : IsKnown g q.place k' r'.block.bytes)
    (left : 0 < k → IfOk answer (λ n. (n ≡ min k (length out)) × (k' ≡ k - n)))
    (consumed : 0 < k → IfOk answer (λ n. 0 < n → ReaderConsumes rules n r r')) (calls' : StreamLog)
    (noted : NotedIfOk calls out answer calls') where
  abbrev after : BodyState S Q C P
  after = seen r' c q calls' k'

  given : calls'.reads.given ≡ calls.reads.given ++ handed_out out answer
  given = grind (arith, append-nil)

  still : IsBodyReader g after
  still = state_is hands.0.0.takes given is known

  abbrev Ends : Result ℕ (BodyError W) → Type 0
  Ends a = MatchResult a (λ n. EachGave r r' × HandsSome remaining rules g k p out r' q k' n)
      (λ e. PayloadFails remaining rules g r e r' q)

  answered : (a : Result ℕ (BodyError W)) → Ends a
      → MatchResult a (λ n. (n ≤ length out) × EachGave r r' × (n ≡ 0 → 0 < length out → TookWholeBody g after))
      (λ e. NoPayload g (seen r c p calls k) e after)
  answered (Ok n) ends = (
    ends.1.0,
    ends.0,
    (λ none some. Leads-whole g _ _ _ _ still.leads (ends.1.1 none some)),
  )
  answered (Err e) ends = stops still lawful (seen r c p calls k) q.count q.counted e ends

  knows_told : (a : Result ℕ (BodyError W)) → Ends a → k ≡ 0
      → IfOk a (λ n. 0 < n
      → KnowsAll g p.place p.taken.log.fills.consumed q.taken.log.fills.consumed (take n out) k' r'.block.bytes)
  knows_told (Ok n) ends none = ends.1.3 none
  knows_told (Err e) ends none = tt

  idle : (TookWholeBody g (seen r c p calls k) ⊎ (length out ≡ 0))
      → after ≡ record (seen r c p calls k) { calls = calls' }
  idle either = grind (arith, Leads-done, none_there)

  pub payload_read : ReadsPayload remaining rules g (seen r c p calls k) out answer after
  unfolding state_went
  payload_read = record {
    went = state_went hands.0.0.takes given;
    answers = answered answer hands.0.1;
    asked = hands.0.0.asked;
    through = grind arith;
    full = grind arith;
    left = left;
    knows = knows_told answer hands.0.1;
    consumed = consumed;
    tells = hands.0.0.tells;
    idle = idle;
    empty = λ none. (hands.1 none).0;
    noted = noted;
    whole = still;
  }

-- a fill
module _ {S Q C P W : Type 0} (remaining : S → Option (List ℕ)) (rules : ReadRules Q) (g : Grammar P W) (lawful : IsLawful g)
    (r : Buffered S Q) (c : C) (p : Progress P) (calls : StreamLog) (k : ℕ) (is : IsBodyReader g (seen r c p calls k))
    (none : k ≡ 0) (r' : Buffered S Q) (q : Progress P) where
  module _ (way : Way remaining rules g 0 r p [] r' q) (k' : ℕ) (known : IsKnown g q.place k' r'.block.bytes) where
    there_is : IsBodyReader g (seen r' c q calls k')
    there_is = state_is way.takes (sym (append-nil calls.reads.given)) is known

    same : (r' ≡ r) × (q ≡ p) → k' ≡ k → seen r' c q calls k' ≡ seen r c p calls k
    same both few = cc

    -- where the body ended nothing is done
    fill_still : (0 < k ⊎ TookWholeBody g (seen r c p calls k)) → seen r' c q calls k' ≡ seen r c p calls k
    fill_still (inl some) = absurd (omega (arith, some, none))
    fill_still (inr whole) =
        let done = Leads-done g lawful _ _ _ _ is.leads is.place whole in
        let at = way.idle done in
        same at (none_there g k' q.place r'.block.bytes known (subst (λ x. IsDone g x.place) (sym at.1) done) ∙ sym none)

    fills : (answer : Result ℕ (BodyError W)) → MatchResult answer
        (λ n. (n ≡ k') × EachGave r r' × (n ≡ 0 → TookWholeBody g (seen r' c q calls k')))
        (λ e. NoPayload g (seen r c p calls k) e (seen r' c q calls k'))
        → IfOk answer (λ n. 0 < n → k ≡ 0 → AllShown g q.place n r'.block.bytes)
        → FillsPayload remaining rules g (seen r c p calls k) answer (seen r' c q calls k')
    fills answer answers all = record {
      went = state_went way.takes (sym (append-nil calls.reads.given));
      answers = answers;
      all = all;
      asked = AsksWithRoom-open remaining rules g 0 r p.place r' way.asked;
      passes = TellsOnce-passes way.tells;
      still = fill_still;
      noted = refl;
      whole = there_is;
    }

  pub filled : (n : ℕ) → ShowsOn remaining rules g 0 r p (Ok n) r' q
      → FillsPayload remaining rules g (seen r c p calls k) (Ok n) (seen r' c q calls n)
  filled n shows = fills shows.0 n shows.1.1.0 (Ok n) (
    refl,
    shows.1.0,
    (λ ended. Leads-whole g _ _ _ _ (there_is shows.0 n shows.1.1.0).leads (shows.1.1.1 ended)),
  ) (λ some _. shows.1.1.2 some)

  pub not_filled : (e : BodyError W) → ShowsOn remaining rules g 0 r p (Err e) r' q
      → FillsPayload remaining rules g (seen r c p calls k) (Err e) (seen r' c q calls k)
  not_filled e shows =
      let known : IsKnown g q.place k r'.block.bytes = (omega (arith, none), λ some. absurd (omega (arith, some, none))) in
      fills shows.0 k known (Err e) (stops (there_is shows.0 k known) lawful (seen r c p calls k) q.count q.counted e shows.1) tt

-- payload was known
pub fill_known : {S Q C P W : Type 0} (remaining : S → Option (List ℕ)) (rules : ReadRules Q) (g : Grammar P W)
    (d : BodyState S Q C P) → IsBodyReader g d → 0 < d.known → FillsPayload remaining rules g d (Ok d.known) d
fill_known remaining rules g d is some = grind (arith, BodyWent-none, EachGave-none, PassesTo-none)
