-- What was taken where none could be handed out of what was buffered came from the stream.
use Rattle.std.proofs.Common.{◌≡◌, ℕ, ◌<◌, inl, inr, List, [], ◌∷◌, ◌++◌, length, min, rules, Option, Result, Ok, ap, subst, ◌∙◌, arith, append_assoc, length-append, length-drop, length-take-le, sym}
use Rattle.bodies.specs.Words.{IsBodyReader, ReadsPayload, chunked, std_read_rules, cases_lt, IsBody, BodyError, chunked_lawful, follows, Malformed}
use Rattle.bodies.specs.Decoding.{ChunkedState, NoneBuffered}

-- what begins some bytes, and is not empty, begins with the first of them
begins : (front back later : List ℕ) (byte : ℕ) → front ++ back ≡ byte ∷ later → 0 < length front
    → (more : List ℕ) × (front ≡ byte ∷ more)
begins [] back later byte same some = absurd (omega (arith, some))
begins (first ∷ more) back later byte same some = (more, ap (λ b. b ∷ more) (cc same))

module _ {R : Type 0} (remaining : R → Option (List ℕ)) (s m : ChunkedState R) (is : IsBodyReader (chunked s.coding.0) s)
    (out : List ℕ) where
  -- bytes were taken for it
  pub taken_some : (n : ℕ) (p : ReadsPayload remaining std_read_rules (chunked s.coding.0) s out (Ok n) m) → 0 < n
      → 0 < length p.went.wire
  taken_some n p some = elim (cases_lt 0 s.known) [
    | inl known ↦
        let gone = p.consumed known some in
        let bytes = ap (λ b. b.bytes) gone.told_policy.allowed.1 in
        let left = length-drop (min n (length s.reader.block.bytes)) s.reader.block.bytes in
        let few = is.known.0 in
        search rules
    | inr none ↦
        let knows = p.knows (omega (arith, none)) some in
        let taken = ap length (sym p.went.taken ∙ knows.equal) in
        omega (arith, some, taken, length-take-le n out p.answers.0, length-append {A = ℕ})
  ]

  module _ (answer : Result ℕ (BodyError Malformed))
      (p : ReadsPayload remaining std_read_rules (chunked s.coding.0) s out answer m) (some : 0 < length p.went.wire) where
    -- some body begins with what was taken
    onward : (rest : List ℕ) × (payload : List ℕ) × IsBody (chunked s.coding.0) (m.taken ++ rest) payload
    onward =
        let (rest, payload, completes) = (chunked_lawful s.coding.0).alive m.place p.whole.place in
        (rest, _, p.whole.leads.onward rest payload (follows rest) completes)

    -- bytes that were taken, where none could be handed out of what was buffered, came from the stream
    pub some_given : NoneBuffered s → length s.reader.log.reads.given < length m.reader.log.reads.given
    some_given (inl whole) = absurd (grind (arith, some, p.idle (inl whole), p.went.taken, length-append))
    some_given (inr (inl none)) = grind (arith, some, none, p.went.along.in_order, length-append)
    some_given (inr (inr (why, breaks))) =
        let order = p.went.along.in_order in
        let (more, first) = begins p.went.wire m.reader.block.bytes (breaks.later ++ order.got) breaks.byte
        (order.equal ∙ ap (λ l. l ++ order.got) breaks.next) some in
        let (rest, payload, body) = onward in
        absurd (breaks.none (more ++ rest) payload
        (subst (λ l. IsBody (chunked s.coding.0) l payload)
        (ap (λ l. l ++ rest) (p.went.taken ∙ ap (λ l. s.taken ++ l) first)
        ∙ append_assoc s.taken (breaks.byte ∷ more) rest) body))
