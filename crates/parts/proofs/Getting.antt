-- What was received of the wanted part, or of a list.
use Rattle.std.proofs.Common.{◌≡◌, ◌≤◌, ◌+◌, ℕ, List, [], ◌++◌, Option, None, Some, Result, Ok, OnOk, inl, inr, ap, arith, subst, ◌∙◌, append_assoc}
use Rattle.buffer_redux.specs.BufWriter.{FlushedAlong, WasFlushed}
use Rattle.buffer_redux.specs.Buffered.{Buffered}
use Rattle.buffer_redux.specs.Policy.{std_write_rules}
use Rattle.buffer_redux.specs.ReaderLaws.{ReadsInOrder-fresh}
use Rattle.buffer_redux.specs.StreamLog.{StreamLog}
use Rattle.buffer_redux.specs.WritesAlongLaws.{FlushedAlong-of}
use Rattle.buffer_redux.specs.declared.policy.StdPolicy.{StdPolicy}
use Rattle.body_reader.specs.BodyReader.{handed_of}
use Rattle.multipart.specs.Multipart.{FormState, hyphens}
use Rattle.parts.specs.Asked.{FlushedUnless, RunAnswers, RunSent}
use Rattle.redux_buffer.specs.Faults.{MetInterrupts-joins}
use Rattle.parts.proofs.Flushing.{at_done, ended_once}
use Rattle.parts.specs.Sections.{list_lines}
use Rattle.parts.specs.declared.error.RunError.{RunError}

module _ {S T : Type 0} (remaining : S → Option (List ℕ)) (tells : T → StreamLog) (trace : T → T → Type 0)
    (joins : (a b c : T) → trace a b → trace b c → trace a c) (s t : FormState S StdPolicy) (u v w : Buffered T StdPolicy)
    (unread : s.body.reader.block.bytes ≡ []) (unwritten : u.block.bytes ≡ []) where
  -- what was accepted was received
  received : (said : List ℕ) → FlushedAlong tells trace std_write_rules u said w
      → w.log.writes.received ≡ u.log.writes.received ++ said
  received said flushed = flushed.received ∙ ap (λ l. u.log.writes.received ++ (l ++ said)) unwritten

  abbrev Sent : Option (List ℕ) → Type 0
  Sent name = RunSent name s.body.coding s.other s.body.reader.log t.body.reader.log u.log w.log

  all_sent : (name : Option (List ℕ)) → RunAnswers remaining tells trace name s u (Ok tt) t v
      → WasFlushed tells trace v (Ok tt) w → Sent name
  all_sent (Some name) (inl none) flushes = absurd (let odd = none.1 in cc)
  all_sent (Some name) (inr did) flushes =
      let is = did.named in
      let flushed = FlushedAlong-of tells trace std_write_rules joins u v w (handed_of t.body) tt did.puts.all flushes in
      record {
        payload = handed_of t.body;
        gave = record {
          turn = is.turn;
          earlier = is.earlier;
          before = is.inside.0;
          text = t.body.taken;
          rest = t.body.reader.block.bytes;
          parts = is.inside.1.parts;
          named = is.named;
          first = is.first;
          whole = did.ends.0;
          given = ReadsInOrder-fresh s.body.reader t.body.reader (is.inside.0 ++ t.body.taken) unread is.inside.1.order
              ∙ ap (λ l. s.body.reader.log.reads.given ++ l) (append_assoc is.inside.0 t.body.taken t.body.reader.block.bytes);
        };
        received = received (handed_of t.body) flushed;
        flushed = flushed.flushed;
        met = MetInterrupts-joins u.log.writes v.log.writes w.log.writes did.puts.met flushes.ok.met;
      }
  all_sent None did flushes =
      let behind = did.ends.0 in
      let lines = list_lines did.turns did.text in
      let flushed = FlushedAlong-of tells trace std_write_rules joins u v w lines tt did.puts.all flushes in
      record {
        turns = did.turns;
        before = behind.before;
        bytes = behind.bytes;
        text = did.text;
        rest = t.body.reader.block.bytes;
        parts = behind.parts;
        whole = behind.whole;
        given = ReadsInOrder-fresh s.body.reader t.body.reader (behind.before ++ (behind.bytes ++ hyphens)) unread behind.order;
        received = received lines flushed;
        flushed = flushed.flushed;
        met = MetInterrupts-joins u.log.writes v.log.writes w.log.writes did.puts.met flushes.ok.met;
      }

  unflushed : (name : Option (List ℕ)) (answer : Result (Unit {0}) RunError)
      → RunAnswers remaining tells trace name s u answer t v → v.log.writes.flushes ≡ u.log.writes.flushes
  unflushed None answer did = did.puts.unflushed
  unflushed (Some name) answer (inl none) = ap (λ x. x.log.writes.flushes) none.3
  unflushed (Some name) answer (inr did) = did.puts.unflushed

  pub sent : (name : Option (List ℕ)) (answer last : Result (Unit {0}) RunError)
      → RunAnswers remaining tells trace name s u answer t v → FlushedUnless tells trace answer v last w
      → OnOk last (Sent name) × (w.log.writes.flushes ≤ u.log.writes.flushes + 1)
  sent name answer last did f = (
    at_done tells trace v w (Sent name) answer last f
        (λ ok flushes. all_sent name (subst (λ a. RunAnswers remaining tells trace name s u a t v) ok did) flushes),
    omega (arith, unflushed name answer did, ended_once tells trace v w answer last f),
  )
