-- What pieces say beside their payloads.
use Rattle.std.specs.Prelude.{◌≡◌, ℕ, ◌⊎◌, List, Option, Result, IfOk, IfSome}
use Rattle.std.specs.Option.{option_map}
use Rattle.std.specs.Result.{result_map_both}
use Rattle.piece_reader.specs.declared.decoder.Span.{Span}
use Rattle.piece_reader.specs.declared.error.NextError.{NextError}
use Rattle.piece_reader.specs.Grammar.{Grammar}
use Rattle.piece_reader.specs.NextPiece.{NextPiece, load_answer}
use Rattle.piece_reader.specs.PieceReader.{ReaderState}

-- these bytes are a piece, or a last one
abbrev pub IsWhole : {W : Type 0} → Grammar W → List ℕ → Type 0
IsWhole g bytes = (payload : List ℕ) × (g.piece bytes payload ⊎ g.last bytes payload)

-- what one call of `step_item` does: as `step`, and the item is what the piece says, by all of its bytes
pub record NextItem {S D W I : Type 0} (remaining : S → Option (List ℕ)) (g : Grammar W) (item_of : List ℕ → I)
    (s : ReaderState S D) (answer : Result (Option (I × Span)) (NextError W)) (t : ReaderState S D) : Type 0 where
  pub next : NextPiece remaining g s (load_answer (result_map_both (option_map (λ said. said.1)) (λ e. e) answer) t) t
  pub says : IfOk answer (λ found. IfSome found (λ said. said.0 ≡ item_of next.bytes))
