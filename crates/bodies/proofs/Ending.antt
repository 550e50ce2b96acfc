-- What bytes that are put in whole, and the end of a body, do to the writer.
use Rattle.std.proofs.Common.{◌⊎◌, ◌≡◌, ℕ, ◌<◌, ◌≤◌, inl, inr, List, [], length, Result, Ok, Err, refl, subst, sym, arith, rules, length-append}
use Rattle.std.specs.IoError.{error_kind}
use Rattle.std.specs.declared.io.ErrorKind.TheVariants.{InvalidInput}
use Rattle.buffer_redux.specs.WritePartsLaws.{PutsIn-told}
use Rattle.buffer_redux.specs.WritesAlongLaws.{Flushes-once}
use Rattle.programs.specs.declared.error.RunError.TheVariants.{Write}
use Rattle.bodies.specs.Words.{nil_from_length, Sends, WritesInOrder-then, Finishes, LacksPayload, NotFinished, WritesOn-joins, SendRow, TakesAll-row, WasFlushed-sent, WasFlushed-writes, WritesOn-unflushed, unsent_row, body_end, Buffered, ChunkedWriterState, Error, failure_count, MetInterrupts-joins, PutsIn, room, RunError, InputFault, SendErrorCaused-after, SendsFirst, StdPolicy, StreamLog, TakesAll, taken_more, WasFlushed, WritesInOrder}
use Rattle.bodies.specs.Encode.{EndAnswers, EndsBody}

module _ {W : Type 0} (tells : W → StreamLog) (trace : W → W → Type 0) where
  -- bytes were taken in where there was room, or behind a send
  pub takes_put : {u v : Buffered W StdPolicy} {bytes more taken : List ℕ} {n : ℕ} → (n ≤ room u → PutsIn u bytes v)
      → (room u < n → SendsFirst tells trace u more v) → WritesInOrder u taken v → 0 < n → TakesAll n (λ _. ⊥) u taken (Ok tt) v
  takes_put {u} {v} {bytes} {more} fits full order some = record {
    taken = order;
    fits = λ fit. (refl, PutsIn-told u v bytes (fits (omega (arith, fit))));
    sends = λ none.
        let first = full (omega (arith, none, some)) in
        record {
          sending = Ok tt;
          left = first.sent.block;
          sends = subst (Sends (length u.block.bytes) u.block u.log (Ok tt) first.sent.block)
              (sym (PutsIn-told first.sent v more first.puts)) first.sends.sends;
          ended = tt;
        };
  }

  -- the end of a body wasn't taken in
  pub ends_not : (b c : ChunkedWriterState W) → b.due ≡ 0 → (e : Error)
      → (LacksPayload b c × (error_kind e ≡ InvalidInput)) ⊎ NotFinished tells trace b [] e c
      → EndsBody b.writer (Err (Write e)) c.writer
  ends_not b c between e (inl lacks) = absurd (omega (arith, lacks.0.due, between))
  ends_not b c between e (inr not) =
      let sent = not.sends in
      let writes = WritesOn-unflushed b.writer c.writer [] sent.in_order sent.not_flushed in
      let row = unsent_row b.writer c.writer sent in
      let more = length-append b.writer.log.writes.received writes.received.more in
      let answers : EndAnswers b.writer [] (Err (Write e)) c.writer = (
        inr refl,
        (e, refl, sent.caused, λ is. inl (elim row.ended [ inl failed ↦ failed.1 is | inr refused ↦ absurd refused.1 ])),
      ) in
      search rules

  -- the end of a body, and a flush
  module _ (b : ChunkedWriterState W) (m v : Buffered W StdPolicy) (goes : Finishes tells trace b [] m) where
    abbrev u : Buffered W StdPolicy
    u = b.writer

    row : SendRow u m (λ _. ⊥) (Ok tt)
    row = TakesAll-row u m (takes_put goes.fits goes.full goes.in_order (omega arith))

    kept : m.block.capacity ≡ u.block.capacity
    kept = grind (arith, goes.fits, goes.full)

    ends : (answer : Result (Unit {0}) Error) → WasFlushed tells trace m answer v
        → (said : Result (Unit {0}) (RunError InputFault)) → failure_count answer ≡ failure_count said
        → EndAnswers u (body_end []) said v → EndsBody u said v
    ends answer f said same_count answers =
        let flush = WasFlushed-writes m v f in
        let writes = WritesOn-joins u.log.writes m.log.writes v.log.writes
        (WritesOn-unflushed u m (body_end []) goes.in_order row.not_flushed) flush.writes in
        let taken = WritesInOrder-then u m v (body_end []) goes.in_order f.in_order in
        let more = taken_more u m (body_end []) goes.in_order in
        let received = length-append u.log.writes.received writes.received.more in
        search (rules, kept, row, Flushes-once m v answer f.steps)

    pub ends_well : WasFlushed tells trace m (Ok tt) v → EndsBody u (Ok tt) v
    ends_well f = ends (Ok tt) f (Ok tt) refl (
      refl,
      WasFlushed-sent m v (Ok tt) f,
      MetInterrupts-joins u.log.writes m.log.writes v.log.writes row.ended f.ok.met,
    )

    pub ends_badly : (e : Error) → WasFlushed tells trace m (Err e) v → EndsBody u (Err (Write e)) v
    ends_badly e f = ends (Err e) f (Err (Write e)) refl (
      inl refl,
      (
        e,
        refl,
        SendErrorCaused-after u.log.writes m.log.writes v.log.writes e row.ended f.caused,
        λ is. elim ((WasFlushed-writes m v f).ended.1 is) [
          | inl many ↦ inl (grind (arith, row, length-append))
          | inr none ↦ inr (nil_from_length v.block.bytes none, refl)
        ],
      ),
    )
