-- A message that was taken whole is answered behind the call; of another a part is all that went.
use Rattle.std.proofs.Common.{◌≡◌, ◌⊎◌, All, Bool, List, ℕ, None, [], ◌∷◌, true, false, inr, ap, sym, ◌∙◌, refl, inl, arith}
use Rattle.requests.proofs.Names.{All-cons, All-nil, Before, ends_of, is_known, IsClosed, IsHead, left_of, MayFollow, Over, ParsedHead, Place, stream_at, Unbuffered, Unsent, usual}
use Rattle.requests.proofs.Answering.{RunsToLast-one, one_answered, torn_answered}
use Rattle.requests.proofs.Reading.{AsksFew-upto, Closes-one, begun_head, steadily}
use Rattle.requests.proofs.answer_called.Goals as goal

-- another may follow a message, or none does
follows : {S : Type 0} (s : Unbuffered S) (place : Place S) {head payload : List ℕ} {said : ParsedHead} (keeps : Bool)
    → IsHead usual head said → said.keeps ≡ keeps → ends_of (stream_at place) ≡ ends_of s
    → All (MayFollow true) ((head, payload) ∷ []) ⊎ IsClosed ((head, payload) ∷ []) [] None (ends_of s) place
follows s place {head} {payload} {said} true is same ends =
    inl (All-cons (MayFollow true) (head, payload) [] (said, is, same) (All-nil (MayFollow true)))
follows s place {said = said} false is same ends = inr (Closes-one (said, is, same), refl, refl, ends)

pub returns-then-said-clause-turns : goal.returns-then-said-clause-turns
returns-then-said-clause-turns g c = λ s w v come call.
    let b = c.args.body in
    let head = begun_head come in
    let whole = c.in-Ok.ensures.whole in
    let reads = steadily come.reads c.in-Ok.ensures.steady in
    let keeps = sym (ap (λ x. x.keeps) c.said-said.ensures.value) ∙ c.if-said.true in (
      record {
        messages = (b.head, whole.1) ∷ [];
        each = (
          (left_of c.in-Ok.requests, c.answer_whole.new.writer),
          one_answered c.requires.open come whole
              c.said-said.ensures.value (c.is_known-known.ensures ∙ ap is_known c.head.ensures) call c.in-Ok.ensures.writes
              c.in-Ok-answer_whole.ensures,
          refl,
        );
        keep = All-cons (MayFollow true) (b.head, whole.1) [] (b.said, head, keeps) (All-nil (MayFollow true));
        reads = reads;
      },
      omega arith,
    )

pub returns-else-said-clause-turns : goal.returns-else-said-clause-turns
returns-else-said-clause-turns g c = λ s w v come call.
    let b = c.args.body in
    let head = begun_head come in
    let whole = c.in-Ok.ensures.whole in
    let reads = steadily come.reads c.in-Ok.ensures.steady in
    let one = one_answered c.requires.open come
    whole c.said-said.ensures.value (c.is_known-known.ensures ∙ ap is_known c.head.ensures) call c.in-Ok.ensures.writes
    c.in-Ok-answer_whole.ensures in
    RunsToLast-one [] [] (Before c.in-Ok.requests) (refl, refl) (AsksFew-upto reads.asks (omega arith))
    ((b.head, c.in-Ok.ensures.whole.1) ∷ []) None tt Over (one, refl, refl) (
      reads.faults,
      inl (
        Closes-one (b.said, head, sym (ap (λ x. x.keeps) c.said-said.ensures.value) ∙ c.if-said.false),
        refl,
        refl,
        reads.ends,
      ),
    )

pub returns-in-Err-answer_whole-clause-turns : goal.returns-in-Err-answer_whole-clause-turns
returns-in-Err-answer_whole-clause-turns g c = λ s w v come call.
    let b = c.args.body in
    let head = begun_head come in
    let reads = steadily come.reads c.in-Ok.ensures.steady in
    let one = one_answered c.requires.open come
    c.in-Ok.ensures.whole c.said-said.ensures.value (c.is_known-known.ensures ∙ ap is_known c.head.ensures) call
    c.in-Ok.ensures.writes c.in-Err-answer_whole.ensures in
    RunsToLast-one [] [] (Before c.in-Ok.requests) (refl, refl) (AsksFew-upto reads.asks (omega arith))
    ((b.head, c.in-Ok.ensures.whole.1) ∷ []) None tt (Unsent c.in-Err-answer_whole.e) (one, refl, refl)
    (reads.faults, follows s (Before c.in-Ok.requests) b.said.keeps head refl reads.ends)

pub returns-in-Err-clause-turns : goal.returns-in-Err-clause-turns
returns-in-Err-clause-turns g c = λ s w v come call.
    let part = c.in-Err.ensures.part in
    torn_answered c.requires.open come part.1 call
    c.in-Err.why c.unended-ending.result part.2 c.in-Err.ensures.writes c.unended-ending.ensures
