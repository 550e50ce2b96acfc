-- What is handed out of what is buffered alone.
use Rattle.std.proofs.Common.{◌≡◌, ◌≤◌, ℕ, List, length, ap, refl, subst, sym, ◌∙◌, arith, le_refl}
use Rattle.piece_reader.specs.declared.decoder.Found.{Found}
use Rattle.piece_reader.specs.declared.decoder.Span.{Span}
use Rattle.piece_reader.specs.Decoding.{IsPiece}
use Rattle.piece_reader.specs.Grammar.{Begins, Grammar, IsLawful, IsOpen}
use Rattle.piece_reader.specs.GrammarLaws.{begins_of, open_of}
use Rattle.piece_reader.specs.Looking.{LooksAtRest, LookTells}
use Rattle.piece_reader.specs.NextPiece.{StaysLeft}
use Rattle.piece_reader.specs.NextPieceLaws.{seen_inside}
use Rattle.piece_reader.specs.PieceReader.{ReaderState, IsPieceReader, rest}
use Rattle.piece_reader.specs.Steps.{Takes}
use Rattle.piece_reader.specs.declared.decoder.Found.TheVariants as found

module _ {S D W : Type 0} (g : Grammar W) (s t : ReaderState S D) (whole : IsPieceReader g t) where
  -- a look alone hands nothing out
  looked : (seen : ℕ) → t ≡ record s { seen = seen } → s.seen ≤ seen → (IsOpen g (rest s) → seen ≡ length (rest s))
      → StaysLeft g s t
  looked seen same more all = record {
    same = same ∙ ap (λ n. record s { seen = n }) (sym (ap (λ x. x.seen) same));
    stays = omega (arith, more, ap (λ x. x.seen) same);
    looked = λ open'. ap (λ x. x.seen) same ∙ all open';
    whole = whole;
  }

  -- a step hands nothing out where more is wanted, or where no piece can come
  pub none_yet : IsPieceReader g s → (need : ℕ) → Takes g s (found.More need) t → StaysLeft g s t × ¬ (Begins g (rest s))
  none_yet before need wants = (
    looked (length (rest s)) wants.3 (seen_inside g s before) (λ _. refl),
    (open_of g need (rest s) wants.0 wants.2).no_piece,
  )

  pub none_wrong : IsLawful g → (e : W) → g.wrong (rest s) e → t ≡ s → StaysLeft g s t × ¬ (Begins g (rest s))
  none_wrong law e wrong same = (
    looked s.seen same (le_refl s.seen) (λ open'. absurd (open'.not_wrong e wrong)),
    λ b. law.apart b.piece b.payload b.more e b.is (subst (λ l. g.wrong l e) b.equal wrong),
  )

-- a piece that was found in what is left is one that it begins with
pub found_begins : {S D W : Type 0} (grammar : D → Grammar W) (s : ReaderState S D) (d : D) → d ≡ s.decoder → (bytes : List ℕ)
    → bytes ≡ rest s → (span : Span) (used : ℕ) → IsPiece (grammar d) bytes span used → Begins (grammar s.decoder) (rest s)
found_begins grammar s d same bytes is span used found =
    let here = subst (λ x. IsPiece (grammar x) bytes span used) same found in
    subst (Begins (grammar s.decoder)) is (begins_of (grammar s.decoder) bytes span used here)

-- a look at what is left is one, as the parts of a reader show it
pub looked_rest : {S D W : Type 0} (looks : D → LookTells W) {f s : ReaderState S D} {bytes : List ℕ} (found : Found W) → f ≡ s
    → bytes ≡ rest s → looks f.decoder bytes f.seen found → LooksAtRest looks s
looked_rest looks {f} {s} {bytes} found same left look =
    (found, subst (λ x. looks x.decoder (rest s) x.seen found) same (subst (λ l. looks f.decoder l f.seen found) left look))
