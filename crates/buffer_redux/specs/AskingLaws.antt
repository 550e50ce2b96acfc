-- Laws of where a stream is asked.
use Rattle.std.proofs.Common.{◌≡◌, ℕ, ◌+◌, ◌≤◌, inl, inr, List, ◌++◌, length, sym, ap, subst, ◌∙◌, arith, append_assoc, length-append}
use Rattle.buffer_redux.specs.Asking.{AskedOver, AskedWhere}
use Rattle.buffer_redux.specs.Unbuffer.{HandsOutInOrder, Unbuffered}

module _ {R : Type 0} where
  pub AskedWhere-of : (P Q : List ℕ → Type 0) (s t : Unbuffered R) → ((more : List ℕ) → P (s.left ++ more) → Q (s.left ++ more))
      → AskedWhere P s t → AskedWhere Q s t
  AskedWhere-of P Q s t so (inl same) = inl same
  AskedWhere-of P Q s t so (inr over) = inr (record {
    came = over.came;
    given = over.given;
    such = so over.came over.such;
    some = over.some;
    asks = over.asks;
  })

  -- where what is told stays as it is, so does where the stream was asked
  pub AskedOver-same : (P : List ℕ → Type 0) (s m t : Unbuffered R) → t.log ≡ m.log → AskedOver P s m → AskedOver P s t
  AskedOver-same P s m t same over = record {
    came = over.came;
    given = ap (λ l. l.reads.given) same ∙ over.given
        ∙ ap (λ l. s.log.reads.given ++ (over.came ++ l.reads.latest)) (sym same);
    such = over.such;
    some = omega (arith, over.some, ap (λ l. l.reads.asks) same);
    asks = omega (arith, over.asks, ap (λ l. l.reads.asks) same);
  }

  pub AskedWhere-same : (P : List ℕ → Type 0) (s m t : Unbuffered R) → t.log ≡ m.log → AskedWhere P s m → AskedWhere P s t
  AskedWhere-same P s m t same (inl none) = inl (same ∙ none)
  AskedWhere-same P s m t same (inr over) = inr (AskedOver-same P s m t same over)

  -- calls behind others, which handed out these bytes and of which each ask gave some, ask behind what those handed out
  pub AskedOver-on : (P Q : List ℕ → Type 0) (s m t : Unbuffered R) (bytes : List ℕ) → HandsOutInOrder s bytes m
      → s.log.reads.asks ≤ m.log.reads.asks
      → m.log.reads.asks + length s.log.reads.given ≤ s.log.reads.asks + length m.log.reads.given
      → ((more : List ℕ) → P (m.left ++ more) → Q (bytes ++ (m.left ++ more))) → AskedOver P m t → AskedOver Q s t
  AskedOver-on P Q s m t bytes order more gave so over =
      let got = order.got in
      let there : bytes ++ (m.left ++ over.came) ≡ s.left ++ (got ++ over.came) =
      sym (append_assoc bytes m.left over.came) ∙ ap (λ l. l ++ over.came) order.equal ∙ append_assoc s.left got over.came in
      record {
        came = got ++ over.came;
        given = over.given ∙ ap (λ l. l ++ (over.came ++ t.log.reads.latest)) order.given
            ∙ append_assoc s.log.reads.given got (over.came ++ t.log.reads.latest)
            ∙ ap (λ l. s.log.reads.given ++ l) (sym (append_assoc got over.came t.log.reads.latest));
        such = subst Q there (so over.came over.such);
        some = omega (arith, over.some, more);
        asks = omega (
          arith,
          over.asks,
          gave,
          ap length order.given,
          length-append s.log.reads.given got,
          length-append got over.came,
        );
      }
