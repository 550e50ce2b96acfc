-- What is known of the bytes that a reader has left, while it gives some of them.
use Rattle.std.specs.Prelude.{◌≡◌, ℕ, ◌<◌, List, [], ◌++◌, length, Option, None, Some, IfSome}
use Rattle.std.proofs.Common.{sym, ap, ◌∙◌, append-nil, append_assoc, length-append, arith, inl, inr}
use Rattle.std.proofs.lemmas.Bool.{cases_lt}
use Rattle.std.proofs.lemmas.List.{append_cancel_left, nil_from_length}
use Rattle.std.proofs.KnownBytes.{Consumes-nil, Consumes-trans}
use Rattle.std.specs.Io.KnownBytes.{Consumes, IsAtEnd, prepend_known}
use Rattle.redux_buffer.specs.StreamLog.{ReadLog}

-- the bytes known to be left lost just those that were given since, and where the reader ran dry, none is left
pub record GivesRemaining (left : Option (List ℕ)) (log : ReadLog) (left' : Option (List ℕ))
    (log' : ReadLog) : Type 0 where
  pub more : List ℕ
  pub given : log'.given ≡ log.given ++ more
  pub went : Consumes left left' more
  pub dry : log.zero_reads < log'.zero_reads → IfSome left (λ _. IsAtEnd left')

pub GivesRemaining-none : (left : Option (List ℕ)) (log : ReadLog) → GivesRemaining left log left log
GivesRemaining-none left log = record {
  more = [];
  given = sym (append-nil log.given);
  went = Consumes-nil left;
  dry = λ rose. absurd (omega (arith, rose));
}

stays_at_end : (a b c : Option (List ℕ)) (bs cs : List ℕ) → Consumes a b bs → Consumes b c cs
    → IfSome a (λ _. IsAtEnd b) → IfSome a (λ _. IsAtEnd c)
stays_at_end None b c bs cs p q ended = tt
stays_at_end (Some x) None c bs cs p q ended = absurd p
stays_at_end (Some x) (Some y) None bs cs p q ended = absurd q
stays_at_end (Some x) (Some y) (Some z) bs cs p q ended =
    nil_from_length z (omega (arith, ap length q, length-append cs z, ap length ended))

ends_later : (a b c : Option (List ℕ)) (bs : List ℕ) → Consumes a b bs
    → IfSome b (λ _. IsAtEnd c) → IfSome a (λ _. IsAtEnd c)
ends_later None b c bs p ended = tt
ends_later (Some x) None c bs p ended = absurd p
ends_later (Some x) (Some y) c bs p ended = ended

pub GivesRemaining-joins : (a : Option (List ℕ)) (k : ReadLog) (b : Option (List ℕ)) (l : ReadLog)
    (c : Option (List ℕ)) (m : ReadLog)
    → GivesRemaining a k b l → GivesRemaining b l c m → GivesRemaining a k c m
GivesRemaining-joins a k b l c m p q = record {
  more = p.more ++ q.more;
  given = q.given ∙ ap (λ l. l ++ q.more) p.given ∙ append_assoc k.given p.more q.more;
  went = Consumes-trans a b c p.more q.more p.went q.went;
  dry = λ rose. elim (cases_lt k.zero_reads l.zero_reads) [
    | inl first ↦ stays_at_end a b c p.more q.more p.went q.went (p.dry first)
    | inr second ↦ ends_later a b c p.more p.went (q.dry (omega (arith, rose, second)))
  ];
}

-- bytes that are buffered before those that are left, gain what is given, and lose what is handed out: of all of them just
-- the latter is gone
pub GivesRemaining-ahead : (left left' : Option (List ℕ)) (log log' : ReadLog) (buffered buffered' handed got : List ℕ)
    → GivesRemaining left log left' log' → log'.given ≡ log.given ++ got → handed ++ buffered' ≡ buffered ++ got
    → Consumes (prepend_known buffered left) (prepend_known buffered' left') handed
GivesRemaining-ahead None left' log log' buffered buffered' handed got gives given equal = tt
GivesRemaining-ahead (Some x) None log log' buffered buffered' handed got gives given equal = absurd gives.went
GivesRemaining-ahead (Some x) (Some y) log log' buffered buffered' handed got gives given equal =
    let same : gives.more ≡ got = append_cancel_left log.given gives.more got (sym gives.given ∙ given) in
    ap (λ l. buffered ++ l) gives.went ∙ sym (append_assoc buffered gives.more y)
    ∙ ap (λ l. l ++ y) (ap (λ l. buffered ++ l) same ∙ sym equal) ∙ append_assoc handed buffered' y
