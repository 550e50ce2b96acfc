-- Where a read of a body asks its stream.
use Rattle.std.proofs.Common.{◌≡◌, ℕ, ◌+◌, ◌<◌, ◌∙◌, List, [], ◌∷◌, ◌++◌, length, inl, inr, Option, Result, Ok, Err, ap, subst, sym, arith, append-nil, length-append}
use Rattle.messages.specs.Names.{body_rules, BodyWent, cases_lt, handed_of, IsBodyReader, length-take-le, nil_from_length, none_wrong, NoPayload, Reader, ReadsAlong-stream, ReadsPayload, std_read_rules, StreamWent-unasked, TookWholeBody, unbuffered, WhyNone}
use Rattle.body_reader.specs.declared.error.BodyError.TheVariants as unread
use Rattle.messages.specs.MessagesLaws.{body_lawful}

-- where nothing was buffered, and nobody was asked, nothing was taken; nothing is wrong then, and the stream neither ends nor
-- fails
module _ {R : Type 0} {remaining : R → Option (List ℕ)} {s t : Reader R} (is' : IsBodyReader (body_rules s.coding) t)
    {handed : List ℕ} (went : BodyWent remaining std_read_rules (body_rules s.coding) s handed t)
    (same : t.reader.log ≡ s.reader.log) (none : s.reader.block.bytes ≡ []) where
  empty : length went.wire + length t.reader.block.bytes ≡ 0
  empty =
      let stream = ReadsAlong-stream remaining std_read_rules s.reader went.wire t.reader went.along in
      let left = StreamWent-unasked remaining (unbuffered s.reader) (unbuffered t.reader) went.wire stream same in
      omega (arith, ap length none, ap length left, length-append {A = ℕ})

  none_taken : t.taken ≡ s.taken
  none_taken = went.taken ∙ ap (λ l. s.taken ++ l) (nil_from_length went.wire (omega (arith, empty))) ∙ append-nil s.taken

  -- so the body was over, if it is
  was_over : length handed ≡ 0 → TookWholeBody (body_rules s.coding) t → TookWholeBody (body_rules s.coding) s
  was_over few whole =
      let told = went.handed ∙ ap (λ l. handed_of s ++ l) (nil_from_length handed few) ∙ append-nil (handed_of s) in
      rw (none_taken, told) at whole

  never_fails : (e : WhyNone) → ¬ (NoPayload (body_rules s.coding) s e t)
  never_fails (unread.Wrong why right) fails =
      none_wrong (body_rules s.coding) (body_lawful s.coding) t.place why is'.place
      (subst (λ l. (body_rules s.coding).wrong t.place l why) (nil_from_length t.reader.block.bytes (omega (arith, empty)))
      fails.2.name)
  never_fails (unread.Truncated right) fails = omega (arith, fails.1.1, ap (λ l. l.reads.zero_reads) same)
  never_fails (unread.Io e) fails =
      let grew = ap length fails.0.0 ∙ length-append s.reader.log.reads.faults (e ∷ []) in
      omega (arith, grew, ap (λ l. length l.reads.faults) same)

-- so a read of a body that goes on asks the stream then
module _ {R : Type 0} {remaining : R → Option (List ℕ)} {s t : Reader R} (is : IsBodyReader (body_rules s.coding) s)
    {out : List ℕ} where
  never_unasked : (answer : Result ℕ WhyNone) → ReadsPayload remaining std_read_rules (body_rules s.coding) s out answer t
      → t.reader.log ≡ s.reader.log → s.reader.block.bytes ≡ [] → 0 < length out
      → ¬ (¬ (TookWholeBody (body_rules s.coding) s))
  never_unasked (Ok n) reads same none some goes_on =
      let few = length-take-le n out reads.answers.0 in
      let none_read : n ≡ 0 = elim (cases_lt 0 n) [
        | inl more ↦
            (let k = reads.knows (omega (arith, is.known.0, ap length none)) more in
            let taken = ap length (sym (none_taken reads.whole reads.went same none) ∙ k.equal) in
            absurd (omega (arith, more, few, taken, length-append {A = ℕ})))
        | inr zero ↦ omega (arith, zero)
      ] in
      goes_on (was_over reads.whole reads.went same none (omega (arith, few, none_read)) (reads.answers.2 none_read some))
  never_unasked (Err e) reads same none some goes_on = never_fails reads.whole reads.went same none e reads.answers

  pub body_asks : (answer : Result ℕ WhyNone) → ReadsPayload remaining std_read_rules (body_rules s.coding) s out answer t
      → s.reader.block.bytes ≡ [] → 0 < length out → ¬ (TookWholeBody (body_rules s.coding) s)
      → s.reader.log.reads.asks < t.reader.log.reads.asks
  body_asks answer reads none some goes_on = elim reads.asked [
    | inl same ↦ absurd (never_unasked answer reads same none some goes_on)
    | inr over ↦ over.some
  ]
