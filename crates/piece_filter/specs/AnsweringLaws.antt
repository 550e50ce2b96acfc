-- Payloads are answered in order, and what is due of whole pieces is their answers.
use Rattle.std.proofs.Common.{ℕ, ◌≤◌, inl, inr, List, Option, refl, arith}
use Rattle.piece_reader.specs.Grammar.{Grammar}
use Rattle.piece_reader.specs.NextPiece.{empty_reads}
use Rattle.piece_reader.specs.PieceReader.{ReaderState}
use Rattle.forward.specs.Filter.{IsLawful}
use Rattle.piece_filter.specs.Answering.{IsWrongPiece, answering}
use Rattle.piece_filter.specs.Pieces.{IsCoherent, piece_rules}
use Rattle.piece_filter.specs.PiecesLaws.{piece_lawful}

wrong_after : {R D X : Type 0} (g : Grammar X) (a b c : ReaderState R D) (why : X) → empty_reads a.reader ≤ empty_reads b.reader
    → IsWrongPiece g b why c → IsWrongPiece g a why c
wrong_after g a b c why less (inl wrong) = inl wrong
wrong_after g a b c why less (inr (cut, is_open, some, dry)) = inr (cut, is_open, some, omega (arith, less, dry))

module _ {R D X A W N : Type 0} (grammar : D → Grammar X) (Answers : A → List ℕ → List ℕ → A → Type 0) where
  pub answering_sound : IsCoherent (answering {R = R} {W = W} {N = N} grammar Answers)
  answering_sound = record {
    wrong_after = λ a b c why less wrong. wrong_after (grammar c.source.decoder) a.source b.source c.source why less wrong;
    is_due = λ d a b bytes left reply payloads is is_open answers. record {
      payloads = payloads;
      whole = bytes;
      left = left;
      equal = refl;
      pieces = is;
      is_open = is_open;
      after = b;
      answers = answers;
    };
    all_sent = λ s sent. sent.1;
  }

  pub answering_lawful : (remaining : R → Option (List ℕ)) → IsLawful
      (piece_rules remaining (answering {W = W} {N = N} grammar Answers))
  answering_lawful remaining = piece_lawful remaining (answering {N = N} grammar Answers) answering_sound
