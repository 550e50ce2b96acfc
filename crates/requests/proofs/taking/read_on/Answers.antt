-- The stream is asked only where nothing buffered is payload, and what was held was sent then.
use Rattle.std.proofs.Common.{◌≡◌, ◌∙◌, ℕ, [], ◌∷◌, ◌++◌, take, Option, List, ap, arith, inl, inr, subst, sym}
use Rattle.std.proofs.lemmas.Result.{IfErr-weaker, IfOk-weaker}
use Rattle.body_reader.specs.Between.{handed_out}
use Rattle.requests.proofs.Names.{AwaitsMore, body_rules, InBody, InsideGoes, InsideGoes-joins, Prompt, OneReadFails, stream_in, TookWholeBody, Unbuffered, Untaken}
use Rattle.requests.proofs.Coming.{comes_inside, unsent_empty}
use Rattle.requests.proofs.Reading.{AsksFew-after, inside_went, steadily, steady_same, WhyUntaken-after}
use Rattle.requests.proofs.Sending.{Prompt-read}
use Rattle.requests.proofs.taking.read_on.Goals as goal

read_none : {R : Type 0} {remaining : R → Option (List ℕ)} {b m : InBody R} {count : ℕ} (out : List ℕ) → count ≡ 0
    → InsideGoes remaining b (take count out) m → InsideGoes remaining b [] m
read_none {R} {remaining} {b} {m} out none goes =
    subst (λ l. InsideGoes remaining b l m) (ap (λ n. take n out) none) goes

-- why one read failed it did so of a stream that told the same
why_from : {S : Type 0} (s m : Unbuffered S) → m.log ≡ s.log → (e : Untaken) (b : InBody S) → OneReadFails m e b
    → OneReadFails s e b
why_from s m same e b (few, why) = (
  AsksFew-after (steady_same s m same) few (omega arith),
  WhyUntaken-after (Unit {0}) (steady_same s m same) e b (λ fault is once. record {
    fault = once.fault ∙ ap (λ l. l.reads.faults ++ fault ∷ []) same;
    ends = once.ends ∙ ap (λ l. l.reads.zero_reads) same;
    none = once.none;
    goes_on = once.goes_on;
  }) why,
)

pub returns-then-count-gt0-clause-writes : goal.returns-then-count-gt0-clause-writes
returns-then-count-gt0-clause-writes g c =
    Prompt-read (AwaitsMore c.args.body.now) c.args.writer.now
    (inside_went c.read_shown-count.ensures.goes).order c.read_shown-count.ensures.unasked

pub returns-then-is_done-clause-writes : goal.returns-then-is_done-clause-writes
returns-then-is_done-clause-writes g c =
    Prompt-read (AwaitsMore c.args.body.now) c.args.writer.now
    (inside_went c.read_shown-count.ensures.goes).order c.read_shown-count.ensures.unasked

pub returns-in-Ok : goal.returns-in-Ok
returns-in-Ok g c =
    let b = c.args.body.now in
    let none = c.read_shown-count.ensures in
    let m = c.read_shown-count.new.body in
    let t = c.read.new.body in
    let read = c.read.ensures in
    let out = c.read_shown-count.new.out in
    let zero : c.read_shown-count.result ≡ 0 = omega (arith, c.if-count-gt0.false) in
    let goes = read_none out zero none.goes in
    let comes = comes_inside b m c.requires.whole goes none.unasked
    c.args.writer.now c.send_unless_shown.new.writer t c.read_shown-count.result out read.goes c.in-Ok.ensures zero
    (omega (arith, c.requires.room))
    (λ done. let odd = c.is_done.ensures.ended.1 done in absurd (cc))
    none.all read.asked read.asks in
    record {
      bound = read.bound;
      noted = read.noted;
      goes = InsideGoes-joins g.R.TellRead.remaining b m t [] (handed_out c.read.new.out c.read.result) goes read.goes;
      reads = IfOk-weaker c.read.result _ _ (λ n r. record {
        steady = steadily (steady_same (stream_in b) (stream_in m) none.unasked) r.steady;
        same = r.same ∙ ap (λ l. l.reads.faults) none.unasked;
        more = r.more;
      }) read.reads;
      fails = IfErr-weaker c.read.result _ _ (λ e. why_from (stream_in b) (stream_in m) none.unasked e t) read.fails;
      asks = IfOk-weaker c.read.result _ _ (λ n some empty goes_on.
          (let there = none.idle empty in
          omega (
            arith,
            read.asks (ap (λ x. (stream_in x).left) there.1 ∙ empty)
                (subst (λ x. ¬ (TookWholeBody (body_rules x.body.coding) x.body)) (sym there.1) goes_on),
            ap (λ l. l.reads.asks) none.unasked,
          ))) read.reads;
      writes = subst (λ r. Prompt g.W.Tell.log g.W.TellWrite.trace (AwaitsMore b) (stream_in b, c.args.writer.now) r
          (stream_in t, c.send_unless_shown.new.writer))
          (sym read.sent) comes;
    }

pub returns-in-Err-clause-writes : goal.returns-in-Err-clause-writes
returns-in-Err-clause-writes g c =
    unsent_empty c.args.body.now c.read_shown-count.new.body
    c.requires.whole
    (read_none c.read_shown-count.new.out (omega (arith, c.if-count-gt0.false)) c.read_shown-count.ensures.goes)
    c.read_shown-count.ensures.unasked c.args.writer.now c.send_unless_shown.new.writer c.in-Err.e c.in-Err.ensures

pub returns-then-count-gt0-clause-reads : goal.returns-then-count-gt0-clause-reads
returns-then-count-gt0-clause-reads g c =
    let same = c.read_shown-count.ensures.unasked in
    record {
      steady = steady_same _ _ same;
      same = ap (λ l. l.reads.faults) same;
      more = inr (omega (arith, c.if-count-gt0.true));
    }

pub returns-then-is_done-clause-reads : goal.returns-then-is_done-clause-reads
returns-then-is_done-clause-reads g c =
    let same = c.read_shown-count.ensures.unasked in
    record {
      steady = steady_same _ _ same;
      same = ap (λ l. l.reads.faults) same;
      more = inl (c.is_done.ensures.ended.0 c.if-is_done.true);
    }
