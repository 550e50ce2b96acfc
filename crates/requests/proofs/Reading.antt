-- What reads of a run met.
use Rattle.std.proofs.Common.{◌≡◌, ℕ, ◌+◌, ◌≤◌, Bool, true, false, List, [], ◌∷◌, ◌++◌, All, length, Option, None, Some, Result, Ok, Err, sym, ap, subst, inl, inr, ◌∙◌, refl, arith, append_assoc, append-nil, length-append}
use Rattle.requests.proofs.Names.{All-append, All-nil, AskedWhere, AsksFew, BadHead, BadRequest, Begun, body_error, body_rules, BodyCoding, BodyPlace, Breaks, Buffered, Closes, CameToBody, coding_of, ends_of, Enters, Error, FailsInRead, FailsToFinish, FaultAfterInterrupts, FaultAfterInterrupts-after, faults_of, FewFailed, FinishesBody, handed_of, Heads, heads, InBody, Inside, InsideGoes, IsBodyReader, IsHead, Io, IsOpen, IsPartTaken, IsToBeRefused, LeadsOpen, left_of, Malformed, MayFollow, Message, MetEnd, MetEnd-once, nil_from_length, NextAnswer, NextAnswers, NextPiece, NoEnd, NoFault, NoPayload, one_ahead, OnlyInterrupts, OnlyInterrupts-joins, OnlyInterrupts-none, PiecesWent-stream, Reader, ReaderState, OneReadFails, ReadsAlong-stream, ReadsPayload, ReadsSteadily, Side, std_read_rules, stream_in, StreamWent, StdPolicy, StreamLog, StreamWent-joins, TellsWhy, TookWholeBody, Truncated, Unbuffered, unbuffered, Untaken, usual, WhyNone, Wrong}
use Rattle.body_reader.specs.BetweenLaws.{AsksWithRoom-open}
use Rattle.body_reader.specs.BodyReaderLaws.{BodyWent-leads}
use Rattle.body_reader.specs.Coding.{Agree, heeded}
use Rattle.body_reader.specs.CodingLaws.{Agree-less, heeded_front, LeadsOpen-behind}
use Rattle.body_reader.specs.declared.either.Side.TheVariants as side
use Rattle.body_reader.specs.declared.error.BodyError.TheVariants as unread
use Rattle.codec.specs.declared.NextError.TheVariants as why
use Rattle.messages.specs.declared.error.BodyError.{BodyError}
use Rattle.requests.specs.Answers.{IsTorn, unless_large, WhyUntaken}
use Rattle.requests.specs.Large.{IsNewlyLarge, too_large}
use Rattle.requests.specs.declared.taking.Untaken.TheVariants.{Body, Large, Unsent}

-- no fault was met, or one
pub none_met : {a b : List Error} → b ≡ a → OnlyInterrupts a b
none_met {a} {b} same = subst (OnlyInterrupts a) (sym same) (OnlyInterrupts-none a)

pub failed_behind : (a b c : List Error) (e : Error) → OnlyInterrupts a b → c ≡ b ++ e ∷ [] → FaultAfterInterrupts a c e
failed_behind a b c e reads faults = record {
  interrupts = reads.interrupts;
  interrupted = reads.interrupted;
  faults = faults ∙ ap (λ l. l ++ e ∷ []) reads.faults;
}

-- a stream gave no less than before
grew : {S : Type 0} {s t : Unbuffered S} {Such : List ℕ → Type 0} → AskedWhere Such s t
    → length s.log.reads.given ≤ length t.log.reads.given
grew (inl same) = omega (arith, ap (λ l. length l.reads.given) same)
grew {s = s} {t = t} (inr over) =
    omega (arith, ap length over.given, length-append s.log.reads.given (over.came ++ t.log.reads.latest))

-- each read that was made gave some
pub steady_gave : {S : Type 0} {s t : Unbuffered S} {Such : List ℕ → Type 0} → AskedWhere Such s t
    → faults_of t ≡ faults_of s → ends_of t ≡ ends_of s
    → t.log.reads.asks + length s.log.reads.given ≤ s.log.reads.asks + length t.log.reads.given → ReadsSteadily 0 s t
steady_gave asked faults ends gave = record {
  faults = none_met faults;
  ends = ends;
  asks = record {
    once = omega (arith, ends);
    told = omega (arith, gave, ends, ap length faults);
    few = omega (arith, ap length faults, grew asked);
  };
}

pub steady_same : {S : Type 0} (s t : Unbuffered S) → t.log ≡ s.log → ReadsSteadily 0 s t
steady_same s t same = steady_gave {Such = λ bytes. bytes ≡ []} (inl same) (ap (λ l. l.reads.faults) same)
    (ap (λ l. l.reads.zero_reads) same) (omega (arith, ap (λ l. l.reads.asks) same, ap (λ l. length l.reads.given) same))

-- a stream that was asked failed once, or met its end
asked_few : {S : Type 0} {s t : Unbuffered S} {Such : List ℕ → Type 0} → AskedWhere Such s t
    → length (faults_of t) + ends_of t ≡ length (faults_of s) + ends_of s + 1 → ends_of s ≤ ends_of t
    → ends_of t ≤ ends_of s + 1 → AsksFew 1 s t
asked_few {s = s} {t = t} (inl same) one more once = absurd (omega (
  arith,
  one,
  ap (λ l. length l.reads.faults) same,
  ap (λ l. l.reads.zero_reads) same,
))
asked_few {s = s} {t = t} (inr over) one more once = record {
  once = once;
  told = omega (
    arith,
    one,
    over.asks,
    ap length over.given,
    length-append s.log.reads.given (over.came ++ t.log.reads.latest),
    length-append over.came t.log.reads.latest,
  );
  few = omega (arith, one, more, grew {s = s} {t = t} (inr over));
}

-- and often enough, where it failed less often than that
pub AsksFew-upto : {S : Type 0} {s t : Unbuffered S} {few more : ℕ} → AsksFew few s t → few ≤ more → AsksFew more s t
AsksFew-upto asks less = record { once = asks.once; told = asks.told; few = omega (arith, asks.few, less) }

-- so few asks are those for one head
pub next_few : {R : Type 0} {remaining : R → Option (List ℕ)} {s t : ReaderState R Heads}
    (answer : NextAnswer BadHead) → NextPiece remaining (heads usual) s answer t → s.ended ≡ false
    → AsksFew 1 (left_of s) (left_of t)
next_few {s = s} {t = t} answer next told = few answer next.answers
  where
    asked : AskedWhere (IsOpen (heads usual)) (left_of s) (left_of t)
    asked = elim next.asked [ inl same ↦ inl same | inr over ↦ inr over.1 ]

    gives : NoFault s t → NoEnd s t → AsksFew 1 (left_of s) (left_of t)
    gives faults ends = AsksFew-upto (steady_gave asked faults ends (next.gave ends faults)).asks (omega arith)

    ends : NoFault s t → MetEnd s t → AsksFew 1 (left_of s) (left_of t)
    ends faults met =
        let end = MetEnd-once s t told met in
        asked_few asked (omega (arith, end, ap length faults)) (omega (arith, end)) (omega (arith, end))

    few : (answer : NextAnswer BadHead) → NextAnswers (heads usual) s answer next.bytes t → AsksFew 1 (left_of s) (left_of t)
    few (Ok (Some payload)) (faults, inl piece) = gives faults piece.2
    few (Ok (Some payload)) (faults, inr last) = absurd last.0
    few (Ok None) answers = ends answers.2 answers.4
    few (Err (why.Wrong e)) (none, faults, on, inl wrong) = gives faults wrong.1
    few (Err (why.Wrong e)) (none, faults, on, inr cut) = ends faults cut.3
    few (Err (why.Io e)) answers = asked_few asked
        (omega (arith, answers.4, ap length answers.2, length-append (faults_of (left_of s)) (e ∷ []))) (omega (arith, answers.4))
        (omega (arith, answers.4))

pub no_shorter : {a b : List Error} → OnlyInterrupts a b → length a ≤ length b
no_shorter {a} {b} reads = omega (arith, ap length reads.faults, length-append a reads.interrupts)

-- none may follow the last of more messages
pub Closes-after : (ms ns : List Message) → All (MayFollow true) ms → Closes ns → Closes (ms ++ ns)
Closes-after ms ns keep closes = record {
  before = ms ++ closes.before;
  last = closes.last;
  all = ap (λ l. ms ++ l) closes.all ∙ sym (append_assoc ms closes.before (closes.last ∷ []));
  keep = All-append (MayFollow true) ms closes.before keep closes.keep;
  close = closes.close;
}

-- or of one
pub Closes-one : {m : Message} → MayFollow false m → Closes (m ∷ [])
Closes-one {m} close = record { before = []; last = m; all = refl; keep = All-nil (MayFollow true); close = close }

-- what was met from here on was met since
module _ {S : Type 0} {s m : Unbuffered S} {before : ℕ} (steady : ReadsSteadily before s m) where
  pub joined : (t : Unbuffered S) → OnlyInterrupts (faults_of m) (faults_of t) → OnlyInterrupts (faults_of s) (faults_of t)
  joined t met = OnlyInterrupts-joins (faults_of s) (faults_of m) (faults_of t) steady.faults met

  pub AsksFew-after : {t : Unbuffered S} {more all : ℕ} → AsksFew more m t → before + more ≤ all → AsksFew all s t
  AsksFew-after few sum = record {
    once = omega (arith, few.once, steady.ends);
    told = omega (arith, few.told, steady.asks.told);
    few = omega (arith, few.few, steady.asks.few, sum);
  }

  pub steady_on : {t : Unbuffered S} {more row : ℕ} → ReadsSteadily more m t → FewFailed row s t → ReadsSteadily row s t
  steady_on {t} then few = record {
    faults = joined t then.faults;
    ends = then.ends ∙ steady.ends;
    asks = record {
      once = omega (arith, then.ends, steady.ends);
      told = omega (arith, then.asks.told, steady.asks.told);
      few = few;
    };
  }

-- why a body isn't taken from here on is so of what was met since
pub WhyUntaken-after : {S : Type 0} {s m : Unbuffered S} {row : ℕ} {Fails Fails' : Error → Type 0} (Torn : Type 0)
    → ReadsSteadily row s m → (e : Untaken) → (b : InBody S)
    → ((fault : Error) → e ≡ Body (Io fault) → Fails fault → Fails' fault)
    → WhyUntaken Fails Torn m e b → WhyUntaken Fails' Torn s e b
WhyUntaken-after Torn steady (Body (Io e)) b so fails = so e refl fails
WhyUntaken-after Torn steady (Body (Wrong why)) b so (met, torn, is) =
    (joined steady (stream_in b) met, subst (λ n. IsTorn n b) steady.ends torn, is)
WhyUntaken-after Torn steady (Body (Truncated due)) b so (met, torn, is) =
    (joined steady (stream_in b) met, subst (λ n. IsTorn n b) steady.ends torn, is)
WhyUntaken-after Torn steady Large b so (met, large) = (joined steady (stream_in b) met, large)
WhyUntaken-after Torn steady (Unsent e) b so met = joined steady (stream_in b) met

-- and what is too large is called that
pub unless_too_large : {S : Type 0} (Fails : Error → Type 0) (s : Unbuffered S) (b : InBody S) (large : Bool)
    → too_large b ≡ large → IsNewlyLarge b → (e : Untaken) → WhyUntaken Fails (Unit {0}) s e b
    → WhyUntaken Fails (too_large b ≡ false) s (unless_large e large) b
unless_too_large Fails s b large is fresh (Body (Io e)) fails = fails
unless_too_large Fails s b true is fresh (Body (Wrong why)) (met, torn, any) = (met, record { large = is; fresh = fresh })
unless_too_large Fails s b true is fresh (Body (Truncated due)) (met, torn, any) = (met, record { large = is; fresh = fresh })
unless_too_large Fails s b false is fresh (Body (Wrong why)) (met, torn, any) = (met, torn, is)
unless_too_large Fails s b false is fresh (Body (Truncated due)) (met, torn, any) = (met, torn, is)
unless_too_large Fails s b large is fresh Large why = why
unless_too_large Fails s b large is fresh (Unsent e) why = why

pub steadily : {S : Type 0} {s m t : Unbuffered S} → ReadsSteadily 0 s m → ReadsSteadily 0 m t → ReadsSteadily 0 s t
steadily first then = steady_on first then (omega (arith, first.asks.few, then.asks.few))

pub FailsInRead-still : {S : Type 0} {tells : S → StreamLog} {s m : Unbuffered S} → ReadsSteadily 0 s m → (e : Error)
    → (t : Unbuffered S) → FailsInRead tells m e t → FailsInRead tells s e t
FailsInRead-still {s = s} {m = m} steady e t (fault, hard) = (
  FaultAfterInterrupts-after (faults_of s) (faults_of m) (faults_of t) e steady.faults fault,
  λ is. let row = hard is in record {
    begun = row.begun;
    told = row.told;
    first = omega (arith, row.first, no_shorter steady.faults);
    none = row.none;
    others = row.others;
  },
)

-- calls in a body, as those of its stream
pub inside_went : {S : Type 0} {remaining : S → Option (List ℕ)} {b t : InBody S} {handed : List ℕ}
    (goes : InsideGoes remaining b handed t) → StreamWent remaining (stream_in b) goes.went.wire (stream_in t)
inside_went {remaining = remaining} {b = b} {t = t} goes =
    ReadsAlong-stream remaining std_read_rules b.body.reader goes.went.wire t.body.reader goes.went.along

-- behind bytes that were no payload the body goes on as it does from them
pub begins_on : {S : Type 0} {remaining : S → Option (List ℕ)} {b m : InBody S}
    → IsBodyReader (body_rules b.body.coding) b.body → (goes : InsideGoes remaining b [] m) → (more : List ℕ)
    → LeadsOpen (body_rules m.body.coding) m.body.place [] (m.body.reader.block.bytes ++ more)
    → LeadsOpen (body_rules b.body.coding) b.body.place [] (goes.went.wire ++ (m.body.reader.block.bytes ++ more))
begins_on {remaining = remaining} {b = b} {m = m} whole goes more on =
    let bytes = m.body.reader.block.bytes in
    LeadsOpen-behind (body_rules b.body.coding) b.body.place m.body.place goes.went.wire [] [] bytes more
    (BodyWent-leads remaining std_read_rules (body_rules b.body.coding) b.body m.body [] whole
    (subst (λ c. IsBodyReader (body_rules c) m.body) goes.went.coding goes.whole) goes.went)
    (subst (λ c. LeadsOpen (body_rules c) m.body.place [] (bytes ++ more)) goes.went.coding on)

-- no read of a body is made where what comes next is wrong
module _ {S : Type 0} (m t : InBody S) (whole : IsBodyReader (body_rules m.body.coding) m.body) where
  pub wrong_unasked : (why : Side (Unit {0}) Malformed) → Breaks (body_rules m.body.coding) why m.body
      → AskedWhere (LeadsOpen (body_rules m.body.coding) m.body.place []) (stream_in m) (stream_in t)
      → (stream_in t).log ≡ (stream_in m).log
  wrong_unasked why breaks (inl same) = same
  wrong_unasked why breaks (inr over) =
      let bytes = m.body.reader.block.bytes in
      let o = LeadsOpen-behind (body_rules m.body.coding) (body_rules m.body.coding).first m.body.place m.body.taken
      (handed_of m.body) [] bytes over.came whole.leads over.such in
      let behind = o.settles_nothing.behind in
      let front = heeded_front (body_rules m.body.coding) o.shown in
      let agree = Agree-less (heeded (body_rules m.body.coding) o.shown) front.0 (o.shown ++ behind)
      (subst (λ l. Agree l (o.shown ++ behind)) front.1 (behind, [], sym (append-nil (o.shown ++ behind)))) in
      absurd (breaks.none (o.wire ++ (o.shown ++ behind)) _ [] (over.came ++ behind)
      (o.leads.onward (o.shown ++ behind) o.settles_nothing.payload agree o.settles_nothing.completes)
      (append-nil (o.wire ++ (o.shown ++ behind)) ∙ sym (append_assoc o.wire o.shown behind)
      ∙ ap (λ l. l ++ behind) (sym o.equal) ∙ append_assoc m.body.taken (bytes ++ over.came) behind
      ∙ ap (λ l. m.body.taken ++ l) (append_assoc bytes over.came behind)))

-- what one read did, whatever it answered
module _ {S : Type 0} (remaining : S → Option (List ℕ)) (s t : InBody S) (out : List ℕ) where
  abbrev pub Reads : Result ℕ BodyError → Type 0
  Reads = TellsWhy t.body.place
      (λ told. ReadsPayload remaining std_read_rules (body_rules s.body.coding) s.body out told t.body)

  pub read_asked : (answer : Result ℕ BodyError) → Reads answer
      → AskedWhere (LeadsOpen (body_rules s.body.coding) s.body.place []) (stream_in s) (stream_in t)
  read_asked (Ok n) reads = AsksWithRoom-open remaining std_read_rules (body_rules s.body.coding) (length out) s.body.reader
      s.body.place t.body.reader reads.asked
  read_asked (Err e) (why, told, reads) = AsksWithRoom-open remaining std_read_rules (body_rules s.body.coding) (length out)
      s.body.reader s.body.place t.body.reader reads.asked

  -- and it asked few times
  none_few : (why : WhyNone) → NoPayload (body_rules s.body.coding) s.body why t.body
      → AskedWhere (LeadsOpen (body_rules s.body.coding) s.body.place []) (stream_in s) (stream_in t)
      → AsksFew 1 (stream_in s) (stream_in t)
  none_few (unread.Wrong name right) fails asked =
      AsksFew-upto (steady_gave asked fails.1.faults fails.1.zero_reads fails.1.asks).asks (omega arith)
  none_few (unread.Truncated right) fails asked =
      asked_few asked (omega (arith, fails.1.1, ap length fails.1.0)) (omega (arith, fails.1.1)) (omega (arith, fails.1.1))
  none_few (unread.Io e) fails asked = asked_few asked
      (omega (arith, fails.0.1, ap length fails.0.0, length-append (faults_of (stream_in s)) (e ∷ [])))
      (omega (arith, fails.0.1)) (omega (arith, fails.0.1))

  -- why it failed is why no more is read
  none_comes : (place : Side ℕ BodyPlace) (why : WhyNone) → AsksFew 1 (stream_in s) (stream_in t)
      → NoPayload (body_rules t.body.coding) s.body why t.body → OneReadFails (stream_in s) (Body (body_error place why)) t
  none_comes place (unread.Wrong (side.First none) right) few fails =
      (few, (none_met fails.1.faults, inl (side.First none, fails.2), tt))
  none_comes place (unread.Wrong (side.Second name) right) few fails =
      (few, (none_met fails.1.faults, inl (side.Second name, fails.2), tt))
  none_comes (side.First due) (unread.Truncated right) few fails =
      (few, (none_met fails.1.0, inr (omega (arith, fails.1.1), fails.2), tt))
  none_comes (side.Second q) (unread.Truncated right) few fails =
      (few, (none_met fails.1.0, inr (omega (arith, fails.1.1), fails.2), tt))
  none_comes place (unread.Io e) few fails = (
    few,
    record {
      fault = fails.0.0;
      ends = fails.0.1;
      none = nil_from_length (stream_in t).left (omega (arith, fails.1.settles_nothing.few, one_ahead t.body.coding));
      goes_on = λ whole. fails.1.none t.body.taken (handed_of t.body) t.body.reader.block.bytes whole refl;
    },
  )

  pub read_fails : (e : BodyError) → Reads (Err e) → OneReadFails (stream_in s) (Body e) t
  read_fails e (why, told, reads) = subst (λ x. OneReadFails (stream_in s) (Body x) t) (sym told)
      (none_comes t.body.place why (none_few why reads.answers (read_asked (Err e) (why, told, reads)))
      (subst (λ c. NoPayload (body_rules c) s.body why t.body) (sym reads.went.coding) reads.answers))

-- a call that goes into no message takes nothing
pub nothing_went : {R : Type 0} {remaining : R → Option (List ℕ)} {s t : ReaderState R Heads} {answer : NextAnswer BadHead}
    (next : NextPiece remaining (heads usual) s answer t) → next.bytes ≡ [] → StreamWent remaining (left_of s) [] (left_of t)
nothing_went {R} {remaining} {s} {t} next none =
    subst (λ l. StreamWent remaining (left_of s) l (left_of t)) none
    (PiecesWent-stream remaining (heads usual).most s t next.bytes next.went)

-- the head of a message went without a fault, and no end was met
module _ {R : Type 0} {remaining : R → Option (List ℕ)} {m : ReaderState R Heads} {b : InBody R}
    (begun : Begun remaining m b) where
  pub begun_steady : ReadsSteadily 0 (left_of m) (stream_in b)
  begun_steady =
      let next = begun.next in
      let ends : NoEnd m begun.behind = elim next.answers.1 [ inl is ↦ is.2 | inr last ↦ absurd last.0 ] in
      let asked : AskedWhere (IsOpen (heads m.decoder.0)) (left_of m) (left_of begun.behind) =
      elim next.asked [ inl same ↦ inl same | inr over ↦ inr over.1 ] in
      subst (ReadsSteadily 0 (left_of m)) (sym begun.stream)
      (steady_gave asked next.answers.0 ends (next.gave ends next.answers.0))

  -- it is one under the usual limits
  pub begun_enters : m.decoder.0 ≡ usual → Enters usual b
  begun_enters same = subst (λ l. Enters l b) same begun.enters

-- a head that was come to is one under the usual limits
module _ {R W : Type 0} {remaining : R → Option (List ℕ)} {tells : W → StreamLog} {trace : W → W → Type 0} {s : Unbuffered R}
    {w v : Buffered W StdPolicy} {b : InBody R} (come : CameToBody remaining tells trace s w b v) where
  pub begun_usual : come.last.decoder.0 ≡ usual
  begun_usual = sym (ap (λ x. x.limits) come.begun.enters.is) ∙ ap (λ x. x.limits) come.enters.is

  pub begun_head : IsHead usual b.head b.said
  begun_head = subst (λ l. IsHead l b.head b.said) begun_usual come.begun.is

  -- a part of its message was taken
  pub part_went : {t : InBody R} {handed : List ℕ} (goes : InsideGoes remaining b handed t)
      → StreamWent remaining s (b.head ++ goes.went.wire) (stream_in t)
  part_went {t} goes =
      StreamWent-joins remaining s (stream_in b) (stream_in t) b.head goes.went.wire come.went (inside_went goes)

  pub is_part : {t : InBody R} {handed : List ℕ} (goes : InsideGoes remaining b handed t)
      → IsPartTaken (Inside t) (b.head ++ goes.went.wire) (handed_of t.body)
  is_part {t} goes = (
    ap (λ l. l ++ goes.went.wire) (sym goes.head)
        ∙ ap (λ l. t.head ++ l) (sym (goes.went.taken ∙ ap (λ x. x.body.taken ++ goes.went.wire) come.enters.is)),
    refl,
    subst (λ h. IsHead usual h t.said) (sym goes.head) (subst (λ x. IsHead usual b.head x) (sym goes.said) begun_head),
    goes.went.coding ∙ ap (λ x. x.body.coding) come.enters.is ∙ ap (λ x. coding_of usual x.extent) (sym goes.said),
    goes.whole,
  )

-- behind a body that ended nothing is wrong, or missing
never_fails : {S : Type 0} (c : BodyCoding) (s t : Reader S) → TookWholeBody (body_rules c) t → (why : WhyNone)
    → ¬ (NoPayload (body_rules c) s why t)
never_fails c s t all (unread.Wrong name right) none = none.2.none t.taken (handed_of t) t.reader.block.bytes [] all
    (ap (λ l. t.taken ++ l) (sym (append-nil t.reader.block.bytes)))
never_fails c s t all (unread.Truncated right) none = none.2.none t.taken (handed_of t) t.reader.block.bytes all refl
never_fails c s t all (unread.Io e) none = none.1.none t.taken (handed_of t) t.reader.block.bytes all refl

-- so it can be finished, and leaves the reader where it stands
module _ {S : Type 0} {remaining : S → Option (List ℕ)} {m : InBody S} (whole : TookWholeBody (body_rules m.body.coding) m.body)
  where
    pub left_there : {next : ReaderState S Heads} → FinishesBody remaining m next → left_of next ≡ stream_in m
    left_there ends = ends.left ∙ ap (λ d. unbuffered d.reader) (ends.drains.takes.ended whole)

    pub finishes : {e : BodyError} {t : InBody S} → FailsToFinish remaining m e t → ⊥
    finishes {t = t} fails =
        let drains = fails.drains in
        let same = drains.takes.ended whole in
        elim drains.answers [
          | inl none ↦
              never_fails m.body.coding m.body t.body (subst (TookWholeBody (body_rules m.body.coding)) (sym same) whole)
              fails.why none
          | inr many ↦ omega (
            arith,
            many.3,
            ap length drains.takes.went.handed,
            ap (λ d. length (handed_of d)) same,
            length-append (handed_of m.body) drains.payload,
          )
        ]
