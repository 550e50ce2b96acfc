-- Answers, one after another.
use Rattle.std.proofs.Common.{IfSome, ◌≡◌, ◌⊎◌, ◌+◌, ℕ, Bool, true, false, List, [], ◌++◌, length, Option, None, Some, Result, Ok, Err, sym, subst, inl, inr, refl, arith}
use Rattle.requests.proofs.Names.{All-nil, answered, AnswersWhole, AsksFew, AwaitsBody, BadRequest, Begun-message, body_rules, Both, Buffered, CallsFor, coding_of, CameToBody, early_refusal, Ending, ending_of, ends_of, EndsUntaken, Error, faults_of, handed_of, HandsOutInOrder-none, InBody, Inside, InsideGoes, Io, is_known, is_large, IsAwaited, IsBody, IsLastTurn, IsMessage, IsPartTaken, IsToBeRefused, LargeBody, MayFollow, Message, OnlyInterrupts, Over, ParsedHead, Place, Prompt, Refusal, refusal, RunEndsBy, RunsToLast, sending_of, sent_till, StdPolicy, stream_at, stream_in, StreamLog, StreamWent-joins, TakeFails, TakesWhole, Truncated, Unbuffered, Unread, Untaken, WritesParts, Wrong}
use Rattle.redux_buffer.specs.Faults.{interrupt_limit}
use Rattle.requests.specs.Answers.{IsTorn}
use Rattle.requests.specs.Large.{too_large, TurnsLarge}
use Rattle.requests.specs.declared.Ending.TheVariants as stop
use Rattle.requests.specs.declared.taking.Untaken.TheVariants.{Body, Large, Unsent}
use Rattle.requests.proofs.Reading.{AsksFew-after, FailsInRead-still, begun_head, begun_usual, is_part, joined, part_went}
use Rattle.requests.proofs.Sending.{Prompt-none, Prompt-on}

module _ {W : Type 0} {tells : W → StreamLog} {trace : W → W → Type 0} where
  -- more of a body is asked for only where its head settles no refusal
  awaits : {R : Type 0} (head : List ℕ) (said : ParsedHead) {a b : Both R W} (sending : Result (Unit {0}) Error)
      → early_refusal (is_known head) said ≡ None
      → Prompt tells trace (IsAwaited said.extent) a sending b
      → Prompt tells trace (AwaitsBody head said) a sending b
  awaits head said {a} {b} sending open' = Prompt-on (IsAwaited said.extent) (AwaitsBody head said) a a b sending
      (HandsOutInOrder-none a.0) (λ front behind is. (open', is)) (Prompt-none (AwaitsBody head said) a)

  module _ {R : Type 0} {remaining : R → Option (List ℕ)} where
    module _ {s : Unbuffered R} {w w' : Buffered W StdPolicy} (taken handed : List ℕ) (place : Place R)
        (part : IsPartTaken place taken handed) {told : R → StreamLog}
        (asks : AsksFew (interrupt_limit + 1) s (stream_at place)) where
      -- a run of one turn, in which one message went, or none
      pub RunsToLast-one : (last : List Message) (refuses : Option Refusal) → IfSome refuses (IsToBeRefused (ends_of s) place)
          → (ending : Ending)
          → IsLastTurn remaining tells trace last taken place refuses (s, w) (sending_of ending) (stream_at place, w')
          → RunEndsBy remaining tells trace told s last taken refuses place ending
          → RunsToLast remaining tells trace told s w place ending w'
      RunsToLast-one last refuses wrong ending turn ends = record {
        messages = last;
        taken = taken;
        handed = handed;
        part = part;
        refuses = refuses;
        turns = record { front = []; last = last; all = refl; between = (s, w); each = refl; turn = turn };
        asks = asks;
        wrong = wrong;
        ends = ends;
      }

      -- what comes is refused, before a message went
      pub RunsToLast-refused : (why : Refusal) (sending : Result (Unit {0}) Error)
          → IsLastTurn remaining tells trace [] taken place (Some why) (s, w) sending (stream_at place, w')
          → IsToBeRefused (ends_of s) place why → OnlyInterrupts (faults_of s) (faults_of (stream_at place))
          → RunsToLast remaining tells trace told s w place (ending_of sending) w'
      RunsToLast-refused why (Ok x) turn wrong met =
          RunsToLast-one [] (Some why) wrong Over turn (met, inr (All-nil (MayFollow true), inl refl))
      RunsToLast-refused why (Err e) turn wrong met =
          RunsToLast-one [] (Some why) wrong (stop.Unsent e) turn (met, inl (All-nil (MayFollow true)))

    module _ {b : InBody R} (open' : early_refusal (is_known b.head) b.said ≡ None) where
      -- one did in part, and this is why
      module _ {s : Unbuffered R} {w x u : Buffered W StdPolicy} {t : InBody R} {handed : List ℕ}
          (come : CameToBody remaining tells trace s w b x) (goes : InsideGoes remaining b handed t)
          (call : CallsFor remaining tells trace b.head b.said (s, w) (Ok tt) (stream_in b, u)) where
        still : (P : List ℕ → ParsedHead → Type 0) → P b.head b.said → P t.head t.said
        still P is = subst (λ x. P t.head x) (sym goes.said) (subst (λ h. P h b.said) (sym goes.head) is)

        called_here : CallsFor remaining tells trace t.head t.said (s, w) (Ok tt) (stream_in b, u)
        called_here = still (λ h x. CallsFor remaining tells trace h x (s, w) (Ok tt) (stream_in b, u)) call

        awaits_here : (sending : Result (Unit {0}) Error) (v : Buffered W StdPolicy)
            → Prompt tells trace (IsAwaited b.said.extent) (stream_in b, u) sending (stream_in t, v)
            → Prompt tells trace (AwaitsBody t.head t.said) (stream_in b, u) sending (stream_in t, v)
        awaits_here sending v on =
            still (λ h x. Prompt tells trace (AwaitsBody h x) (stream_in b, u) sending (stream_in t, v))
            (awaits b.head b.said sending open' on)

        refused_torn : {told : R → StreamLog} {v w' : Buffered W StdPolicy} (why : Refusal) (answer : Result (Unit {0}) Error)
            → AsksFew (interrupt_limit + 1) (stream_in b) (stream_in t)
            → OnlyInterrupts (faults_of (stream_in b)) (faults_of (stream_in t))
            → ((why ≡ LargeBody) × TurnsLarge t)
            ⊎ ((why ≡ BadRequest) × (too_large t ≡ false) × IsTorn (ends_of (stream_in b)) t)
            → Prompt tells trace (IsAwaited b.said.extent) (stream_in b, u) (Ok tt) (stream_in t, v)
            → WritesParts tells trace v (refusal why false) answer w'
            → RunsToLast remaining tells trace told s w (Inside t) (ending_of answer) w'
        refused_torn {v = v} {w' = w'} why answer few reads torn on parts =
            RunsToLast-refused (b.head ++ goes.went.wire) (handed_of t.body) (Inside t) (is_part come goes)
            (AsksFew-after come.reads few (omega arith)) why answer
            (part_went come goes, inr ((stream_in b, u), called_here, (v, awaits_here (Ok tt) v on, parts)))
            (subst (λ n. IsToBeRefused n (Inside t) why) come.reads.ends
            (inr (still (λ h x. early_refusal (is_known h) x ≡ None) open', torn)))
            (joined come.reads (stream_in t) reads)

        -- nothing is refused, and the run ends so
        stops : {told : R → StreamLog} {v : Buffered W StdPolicy} (ending : Ending)
            → AsksFew (interrupt_limit + 1) (stream_in b) (stream_in t)
            → Prompt tells trace (IsAwaited b.said.extent) (stream_in b, u) (sending_of ending) (stream_in t, v)
            → RunEndsBy remaining tells trace told s [] (b.head ++ goes.went.wire) None (Inside t) ending
            → RunsToLast remaining tells trace told s w (Inside t) ending v
        stops {v = v} ending few on ends =
            RunsToLast-one (b.head ++ goes.went.wire) (handed_of t.body) (Inside t) (is_part come goes)
            (AsksFew-after come.reads few (omega arith)) [] None tt ending
            (part_went come goes, inr ((stream_in b, u), called_here, awaits_here (sending_of ending) v on)) ends

        pub torn_answered : {told : R → StreamLog} {v w' : Buffered W StdPolicy} (why : Untaken) (ending : Ending)
            → TakeFails told (stream_in b) why t
            → Prompt tells trace (IsAwaited b.said.extent) (stream_in b, u) (sent_till why) (stream_in t, v)
            → EndsUntaken tells trace v why ending w' → RunsToLast remaining tells trace told s w (Inside t) ending w'
        torn_answered (Body (Wrong why)) ending (few, (reads, torn, small)) on (answer, is, parts) =
            rw is (refused_torn BadRequest answer few reads (inr (refl, small, torn)) on parts)
        torn_answered (Body (Truncated due)) ending (few, (reads, torn, small)) on (answer, is, parts) =
            rw is (refused_torn BadRequest answer few reads (inr (refl, small, torn)) on parts)
        torn_answered (Body (Io e)) ending (few, fails) on (is, same) =
            rw (is, same)
            (stops (Unread e) few on (FailsInRead-still come.reads e (stream_in t) fails, All-nil (MayFollow true), refl))
        torn_answered Large ending (few, (reads, large)) on (answer, is, parts) =
            rw is (refused_torn LargeBody answer few reads (inl (refl, large)) on parts)
        torn_answered (Unsent e) ending (few, reads) on (is, same) =
            rw (is, same)
            (stops (stop.Unsent e) few on (joined come.reads (stream_in t) reads, inl (All-nil (MayFollow true))))

      -- one did, whole, and its payload was counted
      pub one_answered : {s t : Unbuffered R} {len : ℕ} {known : Bool} {said : ParsedHead}
          {w x u v w' : Buffered W StdPolicy} {sending : Result (Unit {0}) Error}
          → (come : CameToBody remaining tells trace s w b x)
          → (whole : TakesWhole remaining b t len) → said ≡ b.said → known ≡ is_known b.head
          → CallsFor remaining tells trace b.head b.said (s, w) (Ok tt) (stream_in b, u)
          → Prompt tells trace (IsAwaited b.said.extent) (stream_in b, u) (Ok tt) (t, v)
          → WritesParts tells trace v (answered known said len) sending w'
          → AnswersWhole remaining tells trace (b.head, whole.1) (s, w) sending (t, w')
      one_answered {s} {t} {len} {known} {said} {w} {x} {u} {v} {w'} {sending} come (wire, payload, went, is, many, small)
          same method call on parts =
          let bytes = b.head ++ wire in
          let same_limits = begun_usual come in
          let message = subst (λ l. (m : IsMessage l (b.head ++ wire) b.head payload) × (m.wire ≡ wire) × (m.text.said ≡ b.said))
          same_limits (Begun-message remaining come.last b wire payload come.begun
          (subst (λ l. IsBody (body_rules (coding_of l b.said.extent)) wire payload) (sym same_limits) is)) in
          let taken : is_large message.0.text.said.extent (length message.0.wire) (length payload) ≡ false =
          rw (message.2, message.1) small in
          let answer : answered known said len ≡ answered (is_known b.head) b.said (length payload) = rw (method, same, many) in
          record {
            bytes = bytes;
            is = (message.0, taken);
            went = StreamWent-joins remaining s (stream_in b) t b.head wire come.went went;
            said = b.said;
            head = begun_head come;
            open' = open';
            begun = (stream_in b, u);
            calls = call;
            before = v;
            reads = awaits b.head b.said (Ok tt) open' on;
            answers = subst (λ l. WritesParts tells trace v l sending w') answer parts;
          }
