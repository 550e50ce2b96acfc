-- What a call says first, in words of lists.
use Rattle.std.proofs.Common.{◌≡◌, ℕ, ◌≤◌, List, [], ◌++◌, length, min, Option, Result, OnOk, sym, ap, ◌∙◌, arith, append-nil, length-append}
use Rattle.std.proofs.lemmas.List.{nil_from_length}
use Rattle.buffer_redux.specs.BufReader.{ReadsInOrder}
use Rattle.buffer_redux.specs.Policy.{ReadRules}
use Rattle.body_reader.specs.declared.error.BodyError.{BodyError}
use Rattle.body_reader.specs.BodyReader.{BodyState, Drains, HandsBuffered, handed_of}
use Rattle.body_reader.specs.Coding.{Grammar, IsBody}

module _ {S Q C P W : Type 0} {remaining : S → Option (List ℕ)} {rules : ReadRules Q} {g : Grammar P W}
    {s t : BodyState S Q C P} where
  -- what is buffered was buffered, as nothing was asked for, and where less was handed out than fits none stays known
  pub buffered_says : (out : List ℕ) (handed : ℕ) → HandsBuffered remaining rules g s out handed t → record {
    least : min s.known (length out) ≤ handed;
    taken : (wire : List ℕ) × (wire ++ t.reader.block.bytes ≡ s.reader.block.bytes) × (t.taken ≡ s.taken ++ wire);
    reads : HandsBuffered remaining rules g s out handed t;
  }
  buffered_says out handed reads =
      let order = reads.went.along.in_order in
      let given = s.reader.log.reads.given in
      let same : given ≡ given ++ order.got = sym (ap (λ l. l.reads.given) reads.told) ∙ order.given in
      let none : order.got ≡ [] = nil_from_length order.got (omega (arith, ap length same, length-append given order.got)) in
      record {
        least = grind arith;
        taken = (
          reads.went.wire,
          order.equal ∙ ap (λ l. s.reader.block.bytes ++ l) none ∙ append-nil s.reader.block.bytes,
          reads.went.taken,
        );
        reads = reads;
      }

  pub drain_says : (answer : Result (Unit {0}) (BodyError W)) → Drains remaining rules g s answer t → record {
    ended : OnOk answer (IsBody g t.taken (handed_of t));
    in_order : (wire : List ℕ) × ReadsInOrder s.reader wire t.reader × (t.taken ≡ s.taken ++ wire);
    drains : Drains remaining rules g s answer t;
  }
  drain_says answer drains = grind arith
