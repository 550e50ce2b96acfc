-- Payload that is known to be buffered is consumed.
use Rattle.std.proofs.Common.{◌≡◌, ℕ, ◌<◌, ◌≤◌, List, ◌++◌, min, take, Option, Ok, subst, arith}
use Rattle.std.proofs.Math.Seq.{take-length}
use Rattle.std.proofs.lemmas.List.{length-take-le}
use Rattle.buffer_redux.specs.Buffered.{Buffered}
use Rattle.buffer_redux.specs.BufReader.{ReaderConsumes}
use Rattle.buffer_redux.specs.Policy.{ReadRules}
use Rattle.buffer_redux.specs.StreamLog.{StreamLog, after_read}
use Rattle.body_reader.specs.declared.progress.Progress.{Progress}
use Rattle.body_reader.specs.Between.{TakesFront}
use Rattle.body_reader.specs.BodyReader.{BodyState, BodyWent, ConsumesPayload, IsBodyReader, seen}
use Rattle.body_reader.specs.BodyReaderLaws.{BodyWent-none}
use Rattle.body_reader.specs.Coding.{Grammar}
use Rattle.body_reader.proofs.Payload.{state_is, state_went}

module _ {S Q C P W : Type 0} (remaining : S → Option (List ℕ)) (rules : ReadRules Q) (g : Grammar P W)
    (r : Buffered S Q) (c : C) (p : Progress P) (calls : StreamLog) (k : ℕ) (is : IsBodyReader g (seen r c p calls k))
    (n : ℕ) (few : n ≤ k) (r' : Buffered S Q) (q : Progress P) (k' : ℕ)
    (front : TakesFront remaining rules g n r p k r' q k') (calls' : StreamLog)
    (noted : calls' ≡ after_read calls (take n r.block.bytes) (Ok n)) where
  given : calls'.reads.given ≡ calls.reads.given ++ take n r.block.bytes
  given = grind (arith, length-take-le, take-length)

  pub consumes : (count : ℕ) → 0 < n → n ≡ min count k
      → ConsumesPayload remaining rules g count (seen r c p calls k) (seen r' c q calls' k')
  consumes count some all = record {
    went = subst (λ j. BodyWent remaining rules g (seen r c p calls k) (take j r.block.bytes) (seen r' c q calls' k')) all
        (state_went front.takes given);
    consumed = λ _. subst (λ j. ReaderConsumes rules j r r') all front.consumed;
    left = omega (arith, front.left, all);
    idle = λ none. absurd (omega (arith, none, all, some));
    told = front.consumed.told;
    noted = (
      (λ _. subst (λ j. calls' ≡ after_read calls (take j r.block.bytes) (Ok j)) all noted),
      (λ none. absurd (omega (arith, none, all, some))),
    );
    whole = state_is front.takes given is front.known;
  }

module _ {S Q C P W : Type 0} (remaining : S → Option (List ℕ)) (rules : ReadRules Q) where
  -- none is
  pub consumes_none : (g : Grammar P W) (count : ℕ) (d : BodyState S Q C P) → IsBodyReader g d → min count d.known ≡ 0
      → ConsumesPayload remaining rules g count d d
  consumes_none g count d is none = grind (arith, BodyWent-none)
