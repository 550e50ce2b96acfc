-- Rows of reads that were interrupted.
use Rattle.std.proofs.Common.{◌≡◌, ℕ, ◌+◌, ◌-◌, ◌*◌, ◌^◌, ◌<◌, ◌≤◌, List, [], ◌++◌, length, min, Option, Ok, Some, ap, append-nil, arith, inl, inr, length-append, refl, sym, true, false, ◌∙◌}
use Rattle.codec.specs.AskedAgain.{InARow}
use Rattle.redux_buffer.specs.Faults.{interrupt_limit}
use Rattle.requests.proofs.Names.{Begun, cases_lt, FailsInRow, faults_of, HandsOutInOrder, Heads, heads, InBody, InsideGoes, IsOpen, left_of, max_payload, nil_from_length, NoEnd, ReaderState, ReadsSteadily, rest, stream_in, StreamLog, Unbuffered, usual}
use Rattle.requests.proofs.Coming.{asks_where, usually}
use Rattle.requests.proofs.Reading.{inside_went, no_shorter, steady_on}

module _ {S : Type 0} {s m t : Unbuffered S} {row : ℕ} (steady : ReadsSteadily row s m) where
  -- a read that met no fault ends a row, as bytes came
  pub calm : row ≤ interrupt_limit → ReadsSteadily 0 m t → faults_of t ≡ faults_of m
      → (0 < row → length m.log.reads.given < length t.log.reads.given) → ReadsSteadily 0 s t
  calm most then same came = steady_on steady then (elim (cases_lt 0 row) [
    | inl some ↦ omega (arith, steady.asks.few, ap length same, most, came some)
    | inr none ↦ omega (arith, steady.asks.few, then.asks.few, none)
  ])

  -- and one that was interrupted adds to it, or begins it anew
  module _ (fault : length (faults_of t) ≡ length (faults_of m) + 1) {had has more : ℕ} (in_a_row : InARow row had has more) where
    pub again : row ≤ interrupt_limit → ReadsSteadily 1 m t
        → (0 < row → had < has → length m.log.reads.given < length t.log.reads.given) → ReadsSteadily more s t
    again most then came = steady_on steady then (elim in_a_row [
      | inl on ↦ omega (arith, steady.asks.few, then.asks.few, on.1)
      | inr anew ↦ elim (cases_lt 0 row) [
        | inl some ↦ omega (arith, steady.asks.few, most, fault, came some anew.0, anew.1)
        | inr zero ↦ omega (arith, steady.asks.few, then.asks.few, zero, anew.1)
      ]
    ])

    pub row_on : {tells : S → StreamLog} → (0 < row → FailsInRow tells row s m) → t.log ≡ tells t.inner
        → (0 < row → has ≤ had → t.log.reads.given ≡ m.log.reads.given) → FailsInRow tells more s t
    row_on {tells} rows told none = elim in_a_row [
      | inl on ↦ elim (cases_lt 0 row) [
        | inl some ↦ (let before = rows some in record {
          begun = before.begun;
          told = before.told;
          first = before.first;
          none = none some on.0 ∙ before.none;
          others = omega (arith, before.others, fault, on.1);
        })
        | inr zero ↦ begins (omega (arith, on.1, zero))
      ]
      | inr anew ↦ begins (omega (arith, anew.1))
    ]
      where
        begins : more ≤ 1 → FailsInRow tells more s t
        begins one = record {
          begun = t;
          told = told;
          first = omega (arith, fault, no_shorter steady.faults);
          none = refl;
          others = omega (arith, one);
        }

-- where a head was asked for behind an interruption bytes came
pub head_came : {R : Type 0} {remaining : R → Option (List ℕ)} {m : ReaderState R Heads} {b : InBody R}
    → m.decoder.0 ≡ usual → m.ended ≡ false → IsOpen (heads usual) (rest m) → Begun remaining m b
    → length (left_of m).log.reads.given < length (stream_in b).log.reads.given
head_came {m = m} {b = b} limits going open' begun =
    let next = begun.next in
    let ends : NoEnd m begun.behind = elim next.answers.1 [ inl is ↦ is.2 | inr last ↦ absurd last.0 ] in
    let asked = asks_where m begun.behind (Ok (Some b.head)) (usually limits next) (λ settled. elim settled [
      | inl ended ↦ (let odd : false ≡ true = sym going ∙ ended in absurd (cc))
      | inr more ↦ elim more [ inl begins ↦ open'.no_piece begins | inr (e, wrong) ↦ open'.not_wrong e wrong ]
    ]) in
    omega (arith, asked.some, next.gave ends next.answers.0, ap (λ u. length u.log.reads.given) begun.stream)

-- bytes came just where more than was left is so now, or was handed out
module _ {S : Type 0} {s t : Unbuffered S} {bytes : List ℕ} (order : HandsOutInOrder s bytes t) where
  pub came : length bytes + length t.left ≡ length s.left + length order.got
  came = omega (arith, ap length order.equal, length-append bytes t.left, length-append s.left order.got)

  pub none_came : length bytes + length t.left ≤ length s.left → t.log.reads.given ≡ s.log.reads.given
  none_came less =
      let no : order.got ≡ [] = nil_from_length order.got (omega (arith, less, came)) in
      order.given ∙ ap (λ l. s.log.reads.given ++ l) no ∙ append-nil s.log.reads.given

  pub some_came : length s.left < length bytes + length t.left → length s.log.reads.given < length t.log.reads.given
  some_came more = omega (arith, more, came, ap length order.given, length-append s.log.reads.given order.got)

-- by a read that was interrupted, where nothing was buffered before or behind it, just that came which was taken
module _ {S : Type 0} {remaining : S → Option (List ℕ)} {m t : InBody S} {handed : List ℕ}
    (goes : InsideGoes remaining m handed t) (none : (stream_in m).left ≡ []) (empty : (stream_in t).left ≡ []) {had has : ℕ}
    (was : had ≡ min (length m.body.taken) (2 ^ 64 - 1)) (is : has ≡ min (length t.body.taken) (2 ^ 64 - 1)) where
  pub body_came : had < has → length (stream_in m).log.reads.given < length (stream_in t).log.reads.given
  body_came more = some_came (inside_went goes).order (omega (
    arith,
    was,
    is,
    more,
    ap length none,
    ap length goes.went.taken,
    length-append m.body.taken goes.went.wire,
  ))

  pub body_none : length m.body.taken ≤ 8 * max_payload → has ≤ had
      → (stream_in t).log.reads.given ≡ (stream_in m).log.reads.given
  body_none few less = none_came (inside_went goes).order (omega (
    arith,
    was,
    is,
    less,
    few,
    ap length empty,
    ap length goes.went.taken,
    length-append m.body.taken goes.went.wire,
  ))
