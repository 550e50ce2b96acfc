-- The digits of a number of ten or more are those of a tenth of it, then the last one.
use Rattle.std.proofs.Common.{◌≡◌, ℕ, ◌+◌, ◌/◌, ◌%◌, ◌≤◌, ◌<◌, ◌^◌, ◌++◌, [], ◌∷◌, length, take, ap, sym, ◌∙◌, arith, append_assoc, length-append}
use Rattle.std.specs.Fmt.{decimal}
use Rattle.std.proofs.lemmas.Fmt.{decimal_digit, decimal_step}
use Rattle.codec.proofs.header_bytes.HeaderBytes.+push_number.Goals as goal
use Rattle.codec.proofs.header_bytes.HeaderBytes.+push_number.Goals.{then-number-ge10, else-number-ge10}

longer : (n : ℕ) → 10 ≤ n → n < 2 ^ 64 → length (decimal n) ≡ length (decimal (n / 10)) + 1
longer n big fits =
    omega (arith, ap length (decimal_step n big fits), length-append (decimal (n / 10)) ((48 + n % 10) ∷ []))

pub push_number-requires : goal.push_number-requires
push_number-requires t c = (
  omega (arith, c.decreases, c.if-number-ge10.true),
  omega (arith, c.requires, longer c.args.number c.if-number-ge10.true (omega (arith, c.ranges.number.fits))),
)

pub push-requires : goal.push-requires
push-requires t c = elim c.if-number-ge10.branch [
  | then-number-ge10 w ↦ omega (
    arith,
    c.requires,
    longer c.args.number w.if-number-ge10.true (omega (arith, c.ranges.number.fits)),
    w.push_number.ensures.len,
    ap (λ h. h.len) w.self-is,
  )
  | else-number-ge10 w ↦ omega (
    arith,
    c.requires,
    ap length (decimal_digit c.args.number (omega (arith, w.if-number-ge10.false))),
    ap (λ h. h.len) w.self-is,
  )
]

pub returns-clause-bytes : goal.returns-clause-bytes
returns-clause-bytes t c =
    let n = c.args.number in
    let old = take c.args.self.now.len c.args.self.now.bytes in
    elim c.if-number-ge10.branch [
      | then-number-ge10 w ↦
          let step = decimal_step n w.if-number-ge10.true (omega (arith, c.ranges.number.fits)) in
          c.push.ensures.bytes
          ∙ ap (λ h. take h.len h.bytes ++ ((48 + n % 10) ∷ [])) w.self-is
          ∙ ap (λ l. l ++ ((48 + n % 10) ∷ [])) w.push_number.ensures.bytes
          ∙ append_assoc old (decimal (n / 10)) ((48 + n % 10) ∷ [])
          ∙ ap (λ l. old ++ l) (sym step)
      | else-number-ge10 w ↦
          let one : 48 + n % 10 ≡ 48 + n = omega (arith, w.if-number-ge10.false) in
          c.push.ensures.bytes
          ∙ ap (λ h. take h.len h.bytes ++ ((48 + n % 10) ∷ [])) w.self-is
          ∙ ap (λ d. old ++ (d ∷ [])) one
          ∙ ap (λ l. old ++ l) (sym (decimal_digit n (omega (arith, w.if-number-ge10.false))))
    ]

pub returns-clause-len : goal.returns-clause-len
returns-clause-len t c = elim c.if-number-ge10.branch [
  | then-number-ge10 w ↦ omega (
    arith,
    c.push.ensures.len,
    longer c.args.number w.if-number-ge10.true (omega (arith, c.ranges.number.fits)),
    w.push_number.ensures.len,
    ap (λ h. h.len) w.self-is,
  )
  | else-number-ge10 w ↦ omega (
    arith,
    c.push.ensures.len,
    ap length (decimal_digit c.args.number (omega (arith, w.if-number-ge10.false))),
    ap (λ h. h.len) w.self-is,
  )
]
