-- What was flushed before a step.
use Rattle.std.proofs.Common.{◌≡◌, List, ℕ, ◌++◌, append_assoc, Option, Result, Ok, Err, inl, inr, ap, subst, ◌∙◌}
use Rattle.std.specs.declared.io.Error.{Error}
use Rattle.buffer_redux.specs.Buffered.{Buffered}
use Rattle.buffer_redux.specs.StreamLog.{StreamLog}
use Rattle.codec.specs.Fetching.{FlushedFirst, FlushesToAsk, MustAsk}
use Rattle.piece_reader.specs.Grammar.{Grammar, IsLawful, IsOpen}
use Rattle.piece_reader.specs.NextPiece.{NextAnswer, NextPiece, StaysLeft}
use Rattle.piece_reader.specs.PieceReader.{ReaderState, rest}
use Rattle.piece_reader.specs.StaysLeftLaws.{StaysLeft-next}

-- what settles nothing with more behind it settles nothing
open_front : {V : Type 0} (g : Grammar V) → IsLawful g → (bytes more : List ℕ) → IsOpen g (bytes ++ more) → IsOpen g bytes
open_front g law bytes more o = record {
  no_piece = λ b. o.no_piece (record {
    piece = b.piece;
    payload = b.payload;
    more = b.more ++ more;
    is = b.is;
    equal = ap (λ l. l ++ more) b.equal ∙ append_assoc b.piece b.more more;
  });
  not_wrong = λ e wrong. o.not_wrong e (law.stays bytes more e wrong);
}

-- a step that hasn't to ask doesn't
asks_none : {S D V : Type 0} (remaining : S → Option (List ℕ)) (g : Grammar V) → IsLawful g → (s : ReaderState S D)
    → ¬ (MustAsk g s) → (answer : NextAnswer V) (t : ReaderState S D) → NextPiece remaining g s answer t
    → t.reader.log ≡ s.reader.log
asks_none remaining g law s settled answer t next = elim next.asked [
  | inl same ↦ same
  | inr over ↦ absurd (settled (over.0, open_front g law (rest s) over.1.came over.1.such))
]

module _ {S D V : Type 0} (remaining : S → Option (List ℕ)) (grammar : D → Grammar V) (s m : ReaderState S D)
    (stays : StaysLeft (grammar s.decoder) s m) where
  told : m.decoder ≡ s.decoder
  told = ap (λ x. x.decoder) stays.same

  -- a step behind a look is the step that it would have been
  stepped : (answer : NextAnswer V) (t : ReaderState S D) → NextPiece remaining (grammar m.decoder) m answer t
      → NextPiece remaining (grammar s.decoder) m answer t
  stepped answer t next = subst (λ d. NextPiece remaining (grammar d) m answer t) told next

  pub next_ok : (answer : NextAnswer V) (t : ReaderState S D) → NextPiece remaining (grammar m.decoder) m answer t
      → NextPiece remaining (grammar s.decoder) s answer t
  next_ok answer t next = StaysLeft-next remaining (grammar s.decoder) s m stays t answer (stepped answer t next)

  module _ {T P : Type 0} (tells : T → StreamLog) (trace : T → T → Type 0) (w v : Buffered T P) where
    -- a step behind the flush that it needs is the step that it would have been
    pub first_ok : (x : Unit {0}) → IsLawful (grammar s.decoder) → FlushesToAsk tells trace (grammar m.decoder) m w (Ok x) v
        → (answer : NextAnswer V) (t : ReaderState S D) → NextPiece remaining (grammar m.decoder) m answer t
        → FlushedFirst tells trace (grammar s.decoder) s w {A = Unit {0}} (Ok tt) t v
    first_ok x law flushes answer t next =
        elim (subst (λ d. FlushesToAsk tells trace (grammar d) m w (Ok x) v) told flushes) [
          | inl (settled, is, same) ↦
              inl (
                same,
                asks_none remaining (grammar s.decoder) law m settled answer t (stepped answer t next)
                    ∙ ap (λ x. x.reader.log) stays.same,
              )
          | inr (must, flushed) ↦ inr (subst (MustAsk (grammar s.decoder)) stays.same must, flushed)
        ]

    -- where that fails there is no step
    pub first_err : (e : Error) → FlushesToAsk tells trace (grammar m.decoder) m w (Err e) v
        → FlushedFirst tells trace (grammar s.decoder) s w {A = Unit {0}} (Err e) m v
    first_err e flushes = elim (subst (λ d. FlushesToAsk tells trace (grammar d) m w (Err e) v) told flushes) [
      | inl (settled, is, same) ↦ absurd (let odd : ◌≡◌ {A = Result (Unit {0}) Error} (Err e) (Ok tt) = is in cc)
      | inr (must, flushed) ↦ (subst (MustAsk (grammar s.decoder)) stays.same must, flushed, stays)
    ]
