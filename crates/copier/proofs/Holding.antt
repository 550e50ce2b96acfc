-- How many bytes wait in the writer's buffer while the reader is asked.
use Rattle.std.proofs.Common.{◌≡◌, ◌∙◌, ℕ, zero, suc, ◌<◌, ◌≤◌, inl, inr, List, [], length, Option, Result, Ok, Err, sym, ap, subst, arith, length-append, length-take, ◌++◌}
use Rattle.std.proofs.lemmas.Bool.{cases_lt}
use Rattle.std.specs.declared.io.Error.{Error}
use Rattle.buffer_redux.specs.Block.{Block, IsBlock, usable}
use Rattle.buffer_redux.specs.Buffered.{Buffered}
use Rattle.buffer_redux.specs.BufWriter.{CopiesIn, Prepared, TakesIn, Writes, WritesInOrder}
use Rattle.buffer_redux.specs.Copy.{CopyBuf, CopyRows, CopyStep, CopyStreams, MovingRows}
use Rattle.buffer_redux.specs.CopyLaws.{CopyBuf-moved}
use Rattle.buffer_redux.specs.EmptyReads.{ReadsWhole-std}
use Rattle.buffer_redux.specs.Policy.{amount_when_full, std_read_rules, std_write_rules}
use Rattle.buffer_redux.specs.ReaderTells.{ReaderWent, reader_log}
use Rattle.buffer_redux.specs.Retried.{InterruptedSteps, Retried}
use Rattle.buffer_redux.specs.StreamLog.{StreamLog, portion}
use Rattle.buffer_redux.specs.WriterLaws.{ways_in}
use Rattle.buffer_redux.specs.declared.policy.StdPolicy.{StdPolicy}
use Rattle.buffer_redux.specs.WriterTells.{LeavesCapacity-std, WriterCalled, WriterWent, writer_log}
use Rattle.copier.specs.Copy.{HoldsBackAtMost, most_held}

-- no more is buffered than may wait
abbrev Held : Block → Type 0
Held b = length b.bytes ≤ most_held b.capacity

held_small : (n capacity : ℕ) → capacity ≤ 1 → n ≤ most_held capacity → n ≡ 0
held_small n capacity small held = grind arith

held_none : (n capacity : ℕ) → n ≡ 0 → n ≤ most_held capacity
held_none n capacity none = grind arith

held_large : (n capacity : ℕ) → 1 < capacity → n ≤ capacity → n ≤ most_held capacity
held_large n capacity large fits = grind arith

none_sent : (b : Block) (n : ℕ) → length b.bytes ≡ 0 → amount_when_full b n ≡ 0
none_sent b n none = grind arith

portion_none : (bs : List ℕ) (answer : Result ℕ Error) → length bs ≡ 0 → length (portion bs answer) ≡ 0
portion_none bs (Ok n) none = omega (arith, none, length-take n bs)
portion_none bs (Err e) none = omega arith

-- a write to an empty buffer of one byte, or of none, leaves it empty
module _ {W P : Type 0} (s t : Buffered W P) (bs : List ℕ) (small : s.block.capacity ≤ 1)
    (none : length s.block.bytes ≡ 0) where
  module _ (answer : Result (Unit {0}) Error) (m : Buffered W P)
      (prepared : Prepared std_write_rules (length bs) s answer m) where
    amount_none : prepared.amount.0 ≡ 0
    amount_none = prepared.asked.allowed.2 ∙ none_sent s.block (length bs) none

    answered : answer ≡ Ok tt
    answered = (prepared.flush.idle (inl amount_none)).answered

    same : m.block ≡ s.block
    same = (prepared.flush.idle (inl amount_none)).buffer ∙ prepared.asked.allowed.1

  copied_none : (m v : Buffered W P) (answer : Result ℕ Error) → length m.block.bytes ≡ 0 → length bs ≡ 0
      → CopiesIn bs m answer v → length v.block.bytes ≡ 0
  copied_none m v answer empty nothing copies =
      let settled : length copies.settled.bytes ≡ 0 = elim (cases_lt 0 (usable m.block)) [
        | inl some ↦ ap (λ b. length b.bytes) (copies.roomy some) ∙ empty
        | inr few ↦ ap length (copies.tight (omega (arith, few))).bytes ∙ empty
      ] in
      omega (
        arith,
        settled,
        ap length copies.added.bytes,
        length-append copies.settled.bytes (portion bs answer),
        portion_none bs answer nothing,
      )

  taken_none : (m v : Buffered W P) (answer : Result ℕ Error) → m.block ≡ s.block → TakesIn bs m answer v
      → length v.block.bytes ≡ 0
  taken_none m v answer is took =
      let empty : length m.block.bytes ≡ 0 = ap (λ b. length b.bytes) is ∙ none in
      elim (ways_in m.block (length bs)) [
        | inl past ↦ ap (λ b. length b.bytes) (took.past past).block ∙ empty
        | inr inside ↦ copied_none m v answer empty (elim inside [
          | inl some ↦ absurd (omega (arith, some, empty))
          | inr few ↦ omega (arith, few, small, ap (λ b. b.capacity) is)
        ]) (took.inside inside)
      ]

  stays_empty : (answer : Result ℕ Error) → Writes std_write_rules s bs answer t → length t.block.bytes ≡ 0
  stays_empty (Ok n) wrote =
      let after = taken_none wrote.before wrote.after (Ok n) (same (Ok tt) wrote.before wrote.prepared) wrote.took_in in
      ap (λ b. length b.bytes) (wrote.finished.flush.idle (inl wrote.finished.asked.allowed.1)).buffer ∙ after
  stays_empty (Err e) (inl refused) = absurd refused.asked.allowed
  stays_empty (Err e) (inr (inl prepared)) = absurd (let odd = answered (Err e) t prepared in cc)
  stays_empty (Err e) (inr (inr failed)) =
      taken_none failed.before t (Err e) (same (Ok tt) failed.before failed.prepared) failed.took_in

module _ {W : Type 0} (tells : W → StreamLog) (trace : W → W → Type 0) where
  -- one call
  held_call : (s t : Buffered W StdPolicy) → WriterCalled tells trace std_write_rules s t → t.block.capacity ≡ s.block.capacity
      → Held s.block → Held t.block
  held_call s t called kept held = elim (cases_lt 1 t.block.capacity) [
    | inl large ↦ held_large (length t.block.bytes) t.block.capacity large (omega (arith, called.whole.fits))
    | inr few ↦ (
        let small : s.block.capacity ≤ 1 = omega (arith, few, kept) in
        let none = held_small (length s.block.bytes) s.block.capacity small held in
        held_none (length t.block.bytes) t.block.capacity (elim called.steps [
          | inl (bytes, answer, steps, noted, rows) ↦ stays_empty s t bytes small none answer steps
          | inr (answer, flushed, noted) ↦ omega (
            arith,
            none,
            ap length flushed.in_order.equal,
            length-append flushed.in_order.sent t.block.bytes,
            length-append s.block.bytes [],
          )
        ])
        )
  ]

module _ {R W : Type 0} (remaining : R → Option (List ℕ)) (tells : W → StreamLog) (trace : W → W → Type 0) where
  abbrev Streams : Type 0
  Streams = CopyStreams (Buffered R StdPolicy) (Buffered W StdPolicy)

  abbrev Step : Streams → Result ℕ Error → Streams → Type 0
  Step = CopyStep reader_log writer_log (ReaderWent remaining std_read_rules) (WriterWent trace std_write_rules)
      (WriterCalled tells trace std_write_rules)

  -- one turn
  held_turn : (s t : Streams) (answer : Result ℕ Error) → Step s answer t → Held s.target.block → Held t.target.block
  held_turn s t answer step held =
      let from = s.source.own_calls.fills.faults in
      let on = step.read.own_grows.faults in
      elim (cases_lt (length from) (length t.source.own_calls.fills.faults)) [
        | inl more ↦ subst (λ w. Held w.block) (sym (step.turn.no_write more)) held
        | inr few ↦ held_call tells trace s.target t.target
            (step.turn.called (omega (arith, few, ap length on.equal, length-append from on.more)))
            (step.wrote.same_capacity LeavesCapacity-std) held
      ]

  held_interrupted : (k : ℕ) (s t : Streams) → InterruptedSteps Step k s t → Held s.target.block → Held t.target.block
  held_interrupted zero s t same held = subst (λ x. Held x.target.block) same held
  held_interrupted (suc k) s t (m, steps, e, is, step) held = held_turn m t (Err e) step (held_interrupted k s m steps held)

  held_row : (s t : Streams) (answer : Result ℕ Error) → Retried Step s answer t → Held s.target.block → Held t.target.block
  held_row s t answer row held =
      held_turn row.last t answer row.went (held_interrupted row.count s row.last row.interrupted held)

  held_rows : (k : ℕ) (s t : Streams)
      → MovingRows reader_log writer_log (ReaderWent remaining std_read_rules) (WriterWent trace std_write_rules)
      (WriterCalled tells trace std_write_rules) k s t → Held s.target.block → Held t.target.block
  held_rows zero s t same held = subst (λ x. Held x.target.block) same held
  held_rows (suc k) s t (m, rows, n, some, row) held = held_row m t (Ok n) row (held_rows k s m rows held)

  held_copy : (answer : Result ℕ Error) (s t : Streams)
      → CopyRows reader_log writer_log (ReaderWent remaining std_read_rules) (WriterWent trace std_write_rules)
      (WriterCalled tells trace std_write_rules) answer s t → Held s.target.block → Held t.target.block
  held_copy (Ok n) s t ends held = held_row ends.begun t (Ok 0) ends.row (held_rows ends.count s ends.begun ends.moving held)
  held_copy (Err e) s t (inl ends) held =
      held_row ends.begun t (Err e) ends.row (held_rows ends.count s ends.begun ends.moving held)
  held_copy (Err e) s t (inr (much, rows)) held = held_rows rows.0 s t rows.1 held

  module _ {s s' : Buffered R StdPolicy} {t t' : Buffered W StdPolicy} (went : ReaderWent remaining std_read_rules s s')
      (went' : WriterWent trace std_write_rules t t') (none : s.block.bytes ≡ []) (none' : t.block.bytes ≡ [])
      (whole : IsBlock s.block) where
    -- what was given in the last ask is not yet sent, and what waits in the writer's buffer
    pub copy_holds : (answer : Result ℕ Error)
        → CopyBuf writer_log (WriterWent trace std_write_rules) (WriterCalled tells trace std_write_rules) answer
        (reader_log s).fills (reader_log s').fills t t'
        → CopyRows reader_log writer_log (ReaderWent remaining std_read_rules) (WriterWent trace std_write_rules)
        (WriterCalled tells trace std_write_rules) answer (record { source = s; target = t })
        (record { source = s'; target = t' })
        → HoldsBackAtMost (most_held t.block.capacity) s.log s'.log t.log t'.log
    copy_holds answer copied rows =
        let held = held_copy answer (record { source = s; target = t }) (record { source = s'; target = t' }) rows
        (held_none (length t.block.bytes) t.block.capacity (ap length none')) in
        let moved = (CopyBuf-moved answer copied).1 in
        elim (went.offers ReadsWhole-std whole).offer [
          | inl same ↦ inl same
          | inr asked ↦ inr (omega (
            arith,
            held,
            ap most_held (went'.same_capacity LeavesCapacity-std),
            asked.1,
            ap length none,
            ap length none',
            ap length went.in_order.given,
            length-append s.log.reads.given went.in_order.got,
            ap length went.in_order.equal,
            length-append went.handed s'.block.bytes,
            length-append s.block.bytes went.in_order.got,
            ap length went.consumed,
            length-append s.own_calls.fills.consumed went.handed,
            ap length moved.consumed,
            length-append s.own_calls.fills.consumed moved.bytes,
            ap length moved.received,
            length-append t'.log.writes.received t'.block.bytes,
            length-append (t.log.writes.received ++ t.block.bytes) moved.bytes,
            length-append t.log.writes.received t.block.bytes,
          ))
        ]

-- and a send behind it holds no more back
pub flush_holds : {W P : Type 0} (most : ℕ) (read read' written : StreamLog) (v v' : Buffered W P)
    → HoldsBackAtMost most read read' written v.log → WritesInOrder v [] v' → HoldsBackAtMost most read read' written v'.log
flush_holds most read read' written v v' (inl unasked) order = inl unasked
flush_holds most read read' written v v' (inr few) order =
    inr (omega (arith, few, ap length order.received, length-append v.log.writes.received order.sent))
