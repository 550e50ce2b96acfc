-- Laws of what is copied into a writer where it fits, and of a write of parts.
use Rattle.std.specs.Prelude.{◌≡◌, ◌⊎◌, List, ℕ, [], ◌++◌, length, Result, Ok, Err, MatchResult}
use Rattle.std.proofs.Common.{sym, ap, inl, inr, ◌∙◌, arith, append_assoc, append-nil}
use Rattle.std.proofs.lemmas.Bool.{cases_lt}
use Rattle.std.specs.declared.io.Error.{Error}
use Rattle.redux_buffer.specs.Block.{Reserves, usable}
use Rattle.redux_buffer.specs.GrowError.{GrowthFailed}
use Rattle.redux_buffer.specs.StreamLog.{StreamLog}
use Rattle.buffer_redux.specs.Buffered.{Buffered, with_block}
use Rattle.buffer_redux.specs.BufWriter.{WasSent, WritesInOrder}
use Rattle.buffer_redux.specs.WriteParts.{JustAppends, MakesPlace, PutsIn, WritesParts}

-- bytes behind others are both
pub PutsIn-joins : {S P : Type 0} (s m t : Buffered S P) (a b : List ℕ) → PutsIn s a m → PutsIn m b t → PutsIn s (a ++ b) t
PutsIn-joins s m t a b p q = record {
  others = q.others ∙ ap (λ x. with_block x t.block) p.others;
  added = q.added ∙ ap (λ l. l ++ b) p.added ∙ append_assoc s.block.bytes a b;
  capacity = q.capacity ∙ p.capacity;
  limit = q.limit ∙ p.limit;
  kind = q.kind ∙ p.kind;
  consumed = q.consumed ∙ p.consumed;
  whole = q.whole;
}

-- nothing was told
pub PutsIn-told : {S P : Type 0} (s t : Buffered S P) (bytes : List ℕ) → PutsIn s bytes t → t.log ≡ s.log
PutsIn-told s t bytes p = ap (λ x. x.log) p.others

-- what is copied in is taken in
pub PutsIn-order : {S P : Type 0} (s t : Buffered S P) (bytes : List ℕ) → PutsIn s bytes t → WritesInOrder s bytes t
PutsIn-order s t bytes p = record {
  sent = [];
  received = ap (λ x. x.log.writes.received) p.others ∙ sym (append-nil s.log.writes.received);
  equal = p.added;
  consumed = omega (arith, p.consumed);
}

module _ {S P : Type 0} (tells : S → StreamLog) (trace : S → S → Type 0) (s t : Buffered S P) (bytes : List ℕ) where
  -- who made place told of the send alone, whose failure is the answer, and left the limit
  place_told : (count : ℕ) (answer : Result (Unit {0}) Error) (m : Buffered S P) (p : MakesPlace tells trace count s answer m)
      → (m.log ≡ p.left.log) × (m.block.limit ≡ p.left.block.limit) × ((e : Error) → p.sending ≡ Err e → answer ≡ Err e)
  place_told count answer m p = told p.sending answer p.ended
    where
      told : (sending answer : Result (Unit {0}) Error) → MatchResult sending
          (λ _. MatchResult answer (λ _. Reserves count p.left.block m.block × (m ≡ with_block p.left m.block))
          (λ e. GrowthFailed count p.left.block e × (m ≡ p.left)))
          (λ e. (answer ≡ Err e) × (m ≡ p.left))
          → (m.log ≡ p.left.log) × (m.block.limit ≡ p.left.block.limit) × ((e : Error) → sending ≡ Err e → answer ≡ Err e)
      told (Ok x) (Ok y) (grown, others) = (
        ap (λ v. v.log) others,
        grown.limit,
        λ e is. (let odd : ◌≡◌ {A = Result (Unit {0}) Error} (Ok x) (Err e) = is in cc),
      )
      told (Ok x) (Err why) (failed, same) = (
        ap (λ v. v.log) same,
        ap (λ v. v.block.limit) same,
        λ e is. (let odd : ◌≡◌ {A = Result (Unit {0}) Error} (Ok x) (Err e) = is in cc),
      )
      told (Err why) answer (is, same) =
          (ap (λ v. v.log) same, ap (λ v. v.block.limit) same, λ e fails. is ∙ fails)

  -- a write of parts told nothing, or of one send, whose failure is the answer
  pub WritesParts-sent : (answer : Result (Unit {0}) Error) → WritesParts tells trace s bytes answer t → (t.log ≡ s.log)
      ⊎ ((sending : Result (Unit {0}) Error) × (left : Buffered S P) × WasSent tells trace s sending left × (t.log ≡ left.log)
      × ((e : Error) → sending ≡ Err e → answer ≡ Err e))
  WritesParts-sent answer w = elim (cases_lt (usable s.block) (length bytes)) [
    | inl few ↦ inr (sent _ answer (w.full few))
    | inr fit ↦ inl (ap (λ x. x.log) (w.fits fit).1.others)
  ]
    where
      sent : (count : ℕ) (answer : Result (Unit {0}) Error) → MatchResult answer
          (λ _. (m : Buffered S P) × MakesPlace tells trace count s (Ok tt) m × JustAppends m bytes t)
          (λ e. MakesPlace tells trace count s (Err e) t)
          → (sending : Result (Unit {0}) Error) × (left : Buffered S P) × WasSent tells trace s sending left
          × (t.log ≡ left.log) × ((e : Error) → sending ≡ Err e → answer ≡ Err e)
      sent count (Ok x) (m, p, put) =
          (let made = place_told count (Ok tt) m p in (p.sending, p.left, p.sent, ap (λ x. x.log) put.others ∙ made.0, made.2))
      sent count (Err e) p =
          (let made = place_told count (Err e) t p in (p.sending, p.left, p.sent, made.0, made.2))

  -- the limit stays
  pub WritesParts-limit : (answer : Result (Unit {0}) Error) → WritesParts tells trace s bytes answer t
      → t.block.limit ≡ s.block.limit
  WritesParts-limit answer w = elim (cases_lt (usable s.block) (length bytes)) [
    | inl few ↦ behind _ answer (w.full few)
    | inr fit ↦ (w.fits fit).1.added.limit
  ]
    where
      behind : (count : ℕ) (answer : Result (Unit {0}) Error) → MatchResult answer
          (λ _. (m : Buffered S P) × MakesPlace tells trace count s (Ok tt) m × JustAppends m bytes t)
          (λ e. MakesPlace tells trace count s (Err e) t) → t.block.limit ≡ s.block.limit
      behind count (Ok x) (m, p, put) =
          put.added.limit ∙ (place_told count (Ok tt) m p).1 ∙ p.sent.sends.sent.dropped.limit
      behind count (Err e) p = (place_told count (Err e) t p).1 ∙ p.sent.sends.sent.dropped.limit
