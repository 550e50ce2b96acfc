-- What the head settles is told at once; else the call is written while nobody is asked, and where either fails no byte of the
-- body was taken.
use Rattle.std.proofs.Common.{◌≡◌, ◌∙◌, ap, Bool, true, false, ◌&&◌, if◌then◌else◌, [], ◌++◌, None, Some, Err, Ok, refl, inl, inr, subst, sym, arith}
use Rattle.requests.proofs.Names.{All-nil, AwaitsBody, called, early_refusal, handed_of, Inside, InsideGoes-none, is_called, is_known, MayFollow, Refusal, RunsToLast, SendsForRoom, stream_in, Unknown, Unmet, Unsent, waits}
use Rattle.requests.proofs.Answering.{RunsToLast-one, RunsToLast-refused}
use Rattle.requests.proofs.Reading.{AsksFew-upto, is_part, part_went}
use Rattle.requests.proofs.Sending.{Prompt-none, SendsForRoom-held}
use Rattle.requests.proofs.answer_body.Goals as goal
use Rattle.requests.proofs.answer_body.Goals.{After-early_refusal}

-- who is refused isn't called
no_call : (w k m : Bool) (why : Refusal)
    → (if w then (if k then (if m then None else Some Unmet) else Some Unknown) else None) ≡ Some why → (w && (k && m)) ≡ false
no_call false k m why is = cc
no_call true true true why is = cc
no_call true true false why is = refl
no_call true false m why is = refl

-- what its head settles of the message
settled : (g : _) (c : After-early_refusal g)
    → c.early_refusal.result ≡ early_refusal (is_known c.args.body.head) c.args.body.said
settled g c = c.early_refusal.ensures ∙ ap (early_refusal c.is_known-known.result) c.said-said.ensures.value
    ∙ ap (λ k. early_refusal k c.args.body.said) (c.is_known-known.ensures ∙ ap is_known c.head.ensures)

pub answer_called-requires-clause-held : goal.answer_called-requires-clause-held
answer_called-requires-clause-held g c =
    SendsForRoom-held (Ok tt) c.in-Ok.ensures c.requires.held

-- the text of the call
text : (g : _) (c : After-early_refusal g)
    → called (is_called c.is_known-known.result c.said-said.result)
    ≡ called (is_called (is_known c.args.body.head) c.args.body.said)
text g c = ap (λ s. called (is_called c.is_known-known.result s)) c.said-said.ensures.value
    ∙ ap (λ k. called (is_called k c.args.body.said)) (c.is_known-known.ensures ∙ ap is_known c.head.ensures)

pub returns-in-Ok-clause-turns : goal.returns-in-Ok-clause-turns
returns-in-Ok-clause-turns g c = λ s w come.
    c.answer_called.ensures.turns s w c.args.writer.now come (record {
      went = come.went;
      before = c.args.writer.now;
      comes = come.comes;
      call = subst (λ l. SendsForRoom g.W.Tell.log g.W.TellWrite.trace c.args.writer.now l (Ok tt) c.call_for_body.new.writer)
          (text g (goal.at.returns-in-Ok-clause-turns g c).After-early_refusal) c.in-Ok.ensures;
    })

pub returns-in-Err-clause-turns : goal.returns-in-Err-clause-turns
returns-in-Err-clause-turns g c = λ s w come.
    let b = c.args.body in
    let none = InsideGoes-none g.R.TellRead.remaining b c.requires.enters.whole in
    RunsToLast-one (b.head ++ none.went.wire) (handed_of b.body) (Inside b)
    (is_part come none) (AsksFew-upto come.reads.asks (omega arith)) [] None tt (Unsent c.in-Err.e) (
      part_went come none,
      inl (
        refl,
        record {
          went = come.went;
          before = c.args.writer.now;
          comes = come.comes;
          call = subst (λ l. SendsForRoom g.W.Tell.log g.W.TellWrite.trace c.args.writer.now l (Err c.in-Err.e)
              c.call_for_body.new.writer)
              (text g (goal.at.returns-in-Err-clause-turns g c).After-early_refusal) c.in-Err.ensures;
        },
      ),
    ) (come.reads.faults, inl (All-nil (MayFollow true)))

pub returns-in-Some-clause-turns : goal.returns-in-Some-clause-turns
returns-in-Some-clause-turns g c = λ s w come.
    let b = c.args.body in
    let why = c.in-Some.why in
    let none = InsideGoes-none g.R.TellRead.remaining b c.requires.enters.whole in
    let is = sym (settled g (goal.at.returns-in-Some-clause-turns g c).After-early_refusal) ∙ c.in-Some.is in
    let front : called (is_called (is_known b.head) b.said) ≡ [] =
    ap called (no_call (waits b.said) (is_known b.head) b.said.met why is) in
    subst (λ x. RunsToLast g.R.TellRead.remaining g.W.Tell.log g.W.TellWrite.trace g.R.Tell.log s w (Inside b) x
    c.refuse.new.writer)
    (sym c.ending_of-ending.ensures)
    (RunsToLast-refused (b.head ++ none.went.wire) (handed_of b.body) (Inside b)
    (is_part come none) (AsksFew-upto come.reads.asks (omega arith)) why c.refuse.result (
      part_went come none,
      inr (
        (stream_in b, c.args.writer.now),
        record {
          went = come.went;
          before = c.args.writer.now;
          comes = come.comes;
          call = inl (front, refl, refl);
        },
        (
          c.args.writer.now,
          Prompt-none (AwaitsBody b.head b.said) (stream_in b, c.args.writer.now),
          c.refuse.ensures,
        ),
      ),
    ) (inl (is, ap (λ x. x.body.taken) c.requires.enters.is)) come.reads.faults)
