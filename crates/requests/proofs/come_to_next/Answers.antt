-- Where no head is settled what is held is sent first, so the stream is asked with nothing held; an interrupted read is made
-- again, and all else that no head came behind ends the run.
use Rattle.std.proofs.Common.{◌≡◌, ◌∙◌, ◌+◌, ◌<◌, IsTrue, [], ◌∷◌, true, None, Ok, Err, ap, length, subst, sym, inl, inr, refl, arith, length-append}
use Rattle.redux_buffer.specs.Faults.{interrupt_limit}
use Rattle.requests.proofs.Names.{All-nil, AsksFew, AwaitsHead, BadHead, Before, Begun-went, Ending, faults_of, heads, left_of, MayFollow, MetEnd, MetEnd-once, never_cut, NextAnswer, NextPiece, NoFault, only_line_ends, OnlyInterrupts-one, Over, Prompt, refusal_of, rest, RunEndsBy, RunsToLast, same_room, sending_of, stream_in, StreamWent, StreamWent-joins, StreamWent-none, Unread, Unsent, usual}
use Rattle.requests.proofs.Answering.{RunsToLast-one, RunsToLast-refused}
use Rattle.requests.proofs.Coming.{comes, open_where, usually}
use Rattle.requests.proofs.Interrupted.{again, calm, came, head_came, none_came, row_on, some_came}
use Rattle.requests.proofs.Reading.{AsksFew-after, AsksFew-upto, begun_enters, begun_steady, failed_behind, joined, next_few, none_met, nothing_went, steady_same}
use Rattle.requests.proofs.Sending.{Prompt-held, Prompt-none, Prompt-unsent}
use Rattle.requests.proofs.Turns.{comes_on}
use Rattle.requests.proofs.come_to_next.Goals as goal
use Rattle.requests.proofs.come_to_next.Goals.{In-Err-next}

pub asks-init : goal.asks-init
asks-init g c = record {
  went = StreamWent-none g.R.TellRead.remaining (left_of c.args.requests);
  comes = Prompt-none AwaitsHead (left_of c.args.requests, c.args.writer.now);
  reads = steady_same _ _ refl;
  rows = λ some. absurd (omega (arith, some));
  most = omega arith;
  open' = λ some. absurd (omega (arith, some));
  held = c.requires.held;
  limits = c.requires.limits;
  room = refl;
}

pub returns-in-Err-clause-comes : goal.returns-in-Err-clause-comes
returns-in-Err-clause-comes g c =
    let s = left_of c.args.requests in
    let m = c.asks.next in
    let before = c.asks.invariant in
    RunsToLast-one [] [] (Before m) (refl, refl) (AsksFew-upto before.reads.asks (omega (arith, before.most))) [] None tt
    (Unsent c.in-Err.e) (
      before.went,
      comes_on g.R.TellRead.remaining g.W.Tell.log g.W.TellWrite.trace (s, c.args.writer.now) (left_of m, c.asks.writer)
          (left_of m, c.send_to_ask.new.writer) (Err c.in-Err.e) before.went before.comes
          (Prompt-unsent AwaitsHead (left_of m) c.asks.writer c.send_to_ask.new.writer c.in-Err.e c.in-Err.ensures
          (λ unsettled. inr (open_where m unsettled))),
    ) (before.reads.faults, inl (All-nil (MayFollow true)))

pub returns-in-Ok-next-clause-comes : goal.returns-in-Ok-next-clause-comes
returns-in-Ok-next-clause-comes g c =
    let s = left_of c.args.requests in
    let m = c.asks.next in
    let before = c.asks.invariant in
    let begun = c.in-Ok-next.ensures.next in
    let b = c.in-Ok-next.body in
    let calm_here = begun_steady begun in
    record {
      last = m;
      begun = begun;
      enters = begun_enters begun before.limits;
      went = StreamWent-joins g.R.TellRead.remaining s (left_of m) (stream_in b) [] b.head before.went
          (Begun-went g.R.TellRead.remaining m b begun);
      reads = calm before.reads before.most calm_here (ap (λ u. faults_of u) begun.stream ∙ begun.next.answers.0)
          (λ pos. head_came before.limits c.in-Ok-next.ensures.told (before.open' pos) begun);
      comes = subst (λ u. Prompt g.W.Tell.log g.W.TellWrite.trace AwaitsHead (s, c.args.writer.now) (Ok tt)
          (u, c.send_to_ask.new.writer)) (sym begun.stream)
          (comes_on g.R.TellRead.remaining g.W.Tell.log g.W.TellWrite.trace (s, c.args.writer.now) (left_of m, c.asks.writer)
          (left_of begun.behind, c.send_to_ask.new.writer) (Ok tt) before.went before.comes
          (comes m c.asks.writer c.send_to_ask.new.writer c.in-Ok.ensures _ begun.behind (usually before.limits begun.next)));
    }

-- no head came
module _ (g : _) (c : In-Err-next g) {answer : NextAnswer BadHead}
    (next : NextPiece g.R.TellRead.remaining (heads usual) c.asks.next answer c.in-Err-next.back) (none : next.bytes ≡ []) where
  gone : StreamWent g.R.TellRead.remaining (left_of c.args.requests) [] (left_of c.in-Err-next.back)
  gone = StreamWent-joins g.R.TellRead.remaining (left_of c.args.requests) (left_of c.asks.next) (left_of c.in-Err-next.back) []
      [] c.asks.invariant.went (nothing_went next none)

  asked : Prompt g.W.Tell.log g.W.TellWrite.trace AwaitsHead (left_of c.args.requests, c.args.writer.now) (Ok tt)
      (left_of c.in-Err-next.back, c.send_to_ask.new.writer)
  asked = comes_on g.R.TellRead.remaining g.W.Tell.log g.W.TellWrite.trace (left_of c.args.requests, c.args.writer.now)
      (left_of c.asks.next, c.asks.writer) (left_of c.in-Err-next.back, c.send_to_ask.new.writer) (Ok tt) c.asks.invariant.went
      c.asks.invariant.comes
      (comes c.asks.next c.asks.writer c.send_to_ask.new.writer c.in-Ok.ensures answer c.in-Err-next.back next)

  few : AsksFew (interrupt_limit + 1) (left_of c.args.requests) (left_of c.in-Err-next.back)
  few = AsksFew-after c.asks.invariant.reads (next_few answer next c.in-Err-next.ensures.told)
      (omega (arith, c.asks.invariant.most))

  -- so the run ends
  abbrev Ran : Ending → Type 0
  Ran ending = RunsToLast g.R.TellRead.remaining g.W.Tell.log g.W.TellWrite.trace g.R.Tell.log (left_of c.args.requests)
      c.args.writer.now (Before c.in-Err-next.back) ending c.send_to_ask.new.writer

  over : (ending : Ending) → sending_of ending ≡ Ok tt
      → RunEndsBy g.R.TellRead.remaining g.W.Tell.log g.W.TellWrite.trace g.R.Tell.log (left_of c.args.requests) [] [] None
      (Before c.in-Err-next.back) ending → Ran ending
  over ending well =
      RunsToLast-one [] [] (Before c.in-Err-next.back) (refl, refl) few [] None tt ending (gone, rw well asked)

  over_blank : NoFault c.asks.next c.in-Err-next.back → MetEnd c.asks.next c.in-Err-next.back
      → IsTrue (only_line_ends (rest c.in-Err-next.back)) → Ran Over
  over_blank faults met blank = over Over refl (
    joined c.asks.invariant.reads (left_of c.in-Err-next.back) (none_met faults),
    inr (
      All-nil (MayFollow true),
      inr (
        omega (
          arith,
          MetEnd-once c.asks.next c.in-Err-next.back c.in-Err-next.ensures.told met,
          c.asks.invariant.reads.ends,
        ),
        blank,
      ),
    ),
  )

pub returns-in-Ended-clause-comes : goal.returns-in-Ended-clause-comes
returns-in-Ended-clause-comes g c =
    let next = rw c.in-Ended.is at (usually c.asks.invariant.limits c.in-Err-next.ensures.next) in
    over_blank g (goal.at.returns-in-Ended-clause-comes g c).In-Err-next next next.answers.0 next.answers.2 next.answers.4
    (subst (λ l. IsTrue (only_line_ends l)) (sym next.answers.1) refl)

pub returns-then-is_blank_end-clause-comes : goal.returns-then-is_blank_end-clause-comes
returns-then-is_blank_end-clause-comes g c =
    let was = c.is_blank_end.ensures.yes c.if-is_blank_end.true in
    let next = rw was.1 at (rw c.in-Bad.is at (usually c.asks.invariant.limits c.in-Err-next.ensures.next)) in
    elim next.answers.3 [
      | inl wrong ↦ absurd (never_cut _ _ _ wrong.0)
      | inr end ↦
          over_blank g (goal.at.returns-then-is_blank_end-clause-comes g c).In-Err-next next next.answers.0 next.answers.1 end.3
          (subst (λ l. IsTrue (only_line_ends l)) c.buffered-in-Bad.ensures was.2)
    ]

pub returns-in-Bad-clause-comes : goal.returns-in-Bad-clause-comes
returns-in-Bad-clause-comes g c =
    let before = c.asks.invariant in
    let m = c.asks.next in
    let t = c.in-Err-next.back in
    let at = (goal.at.returns-in-Bad-clause-comes g c).In-Err-next in
    let next = rw c.in-Bad.is at (usually before.limits c.in-Err-next.ensures.next) in
    let none = next.answers.0 in
    subst (λ x. RunsToLast g.R.TellRead.remaining g.W.Tell.log g.W.TellWrite.trace g.R.Tell.log (left_of c.args.requests)
    c.args.writer.now (Before t) x c.refuse.new.writer) (sym c.ending_of-ending.ensures)
    (RunsToLast-refused [] [] (Before t) (refl, refl) (few g at next none) c.refusal_of.result c.refuse.result
    (gone g at next none, (c.send_to_ask.new.writer, asked g at next none, c.refuse.ensures))
    (elim next.answers.3 [
      | inl wrong ↦ inl (_, wrong.0, c.refusal_of.ensures)
      | inr cut ↦ inr (
        c.refusal_of.ensures ∙ ap refusal_of cut.0,
        omega (arith, MetEnd-once m t c.in-Err-next.ensures.told cut.3, before.reads.ends),
        ap only_line_ends (sym c.buffered-in-Bad.ensures) ∙ sym (c.is_blank_end.ensures.cut _ cut.0) ∙ c.if-is_blank_end.false,
        cut.1,
      )
    ])
    (joined before.reads (left_of t) (none_met next.answers.1)))

pub returns-in-None-clause-comes : goal.returns-in-None-clause-comes
returns-in-None-clause-comes g c =
    let before = c.asks.invariant in
    let s = left_of c.args.requests in
    let m = c.asks.next in
    let t = c.in-Err-next.back in
    let e = c.in-Io.e in
    let next = rw c.in-Io.is at (usually before.limits c.in-Err-next.ensures.next) in
    let answers = next.answers in
    over g (goal.at.returns-in-None-clause-comes g c).In-Err-next next answers.0 (Unread e) refl (
      (
        failed_behind (faults_of s) (faults_of (left_of m)) (faults_of (left_of t)) e before.reads.faults answers.2,
        λ is. row_on before.reads (omega (arith, ap length answers.2, length-append (faults_of (left_of m)) (e ∷ [])))
            (c.in-None.ensures.last is) before.rows (sym c.get_ref.ensures.log ∙ ap g.R.Tell.log c.get_ref.ensures.inner)
            (λ some less. none_came (nothing_went next answers.0).order
            (omega (arith, less, ap length c.buffered.ensures, ap length c.buffered-in-Io.ensures))),
      ),
      All-nil (MayFollow true),
      refl,
    )

pub asks-preserved : goal.asks-preserved
asks-preserved g c =
    let before = c.asks.invariant in
    let m = c.asks.next in
    let t = c.in-Err-next.back in
    let e = c.in-Io.e in
    let more = c.in-Some.ensures.again in
    let next = rw c.in-Io.is at (usually before.limits c.in-Err-next.ensures.next) in
    let answers = next.answers in
    let fault : length (faults_of (left_of t)) ≡ length (faults_of (left_of m)) + 1 =
    omega (arith, ap length answers.2, length-append (faults_of (left_of m)) (e ∷ [])) in
    let at = (goal.at.asks-preserved g c).In-Err-next in
    let here = asked g at next answers.0 in
    let order = (nothing_went next answers.0).order in
    record {
      went = gone g at next answers.0;
      comes = here;
      reads = again before.reads fault more.1 before.most (record {
        faults = OnlyInterrupts-one (faults_of (left_of m)) (faults_of (left_of t)) e more.0 answers.2;
        ends = answers.4;
        asks = next_few _ next c.in-Err-next.ensures.told;
      }) (λ some less. some_came order
          (omega (arith, less, ap length c.buffered.ensures, ap length c.buffered-in-Io.ensures)));
      rows = λ pos. row_on before.reads fault more.1 before.rows
          (sym c.get_ref.ensures.log ∙ ap g.R.Tell.log c.get_ref.ensures.inner) (λ some less. none_came order
          (omega (arith, less, ap length c.buffered.ensures, ap length c.buffered-in-Io.ensures)));
      most = more.2;
      open' = λ pos. answers.1;
      held = Prompt-held (Ok tt) here c.requires.held;
      limits = ap (λ d. d.0) next.went.decoder ∙ before.limits;
      room = same_room t.reader.block m.reader.block next.went.capacity next.went.limit ∙ before.room;
    }

pub asks-smaller : goal.asks-smaller
asks-smaller g c =
    let before = c.asks.invariant in
    let m = c.asks.next in
    let t = c.in-Err-next.back in
    let next = rw c.in-Io.is at (usually before.limits c.in-Err-next.ensures.next) in
    let shows = next.looked.shows next.answers.1 in
    let fits : length (rest t) < (heads usual).most = omega (arith, shows.most, shows.few) in
    let grows = came (nothing_went next next.answers.0).order in
    elim c.in-Some.ensures.again.1 [
      | inl on ↦ omega (arith, fits, grows, on.1, c.in-Some.ensures.again.2)
      | inr anew ↦ omega (
        arith,
        fits,
        anew.0,
        anew.1,
        before.most,
        ap length c.buffered.ensures,
        ap length c.buffered-in-Io.ensures,
      )
    ]
