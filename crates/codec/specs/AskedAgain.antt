-- A step that is made again where its read was interrupted.
use Rattle.std.specs.Prelude.{◌≡◌, ℕ, zero, suc, ◌+◌, ◌*◌, ◌<◌, ◌≤◌, ◌⊎◌, List, length, Option, Result, Err, IfOk, IfSome}
use Rattle.std.specs.Option.{option_map}
use Rattle.std.specs.Result.{result_map_both}
use Rattle.std.specs.declared.io.Error.{Error}
use Rattle.buffer_redux.specs.Faults.{IsInterrupt, interrupt_limit}
use Rattle.buffer_redux.specs.StreamLog.{ReadLog}
use Rattle.piece_reader.specs.declared.decoder.Span.{Span}
use Rattle.piece_reader.specs.declared.error.NextError.{NextError}
use Rattle.piece_reader.specs.declared.error.NextError.TheVariants.{Io}
use Rattle.piece_reader.specs.Grammar.{Grammar}
use Rattle.piece_reader.specs.NextPiece.{NextAnswer, NextPiece, load_answer}
use Rattle.piece_reader.specs.PieceReader.{ReaderState, rest}

-- a step found so many bytes left, and left so many: with it so many in a row failed, and so many had before. A row begins anew
-- where bytes came
abbrev pub InARow : (before had has row : ℕ) → Type 0
InARow before had has row = ((has ≤ had) × (row ≡ before + 1)) ⊎ ((had < has) × (row ≡ 1))

module _ {S D W : Type 0} (limit : ℕ) (remaining : S → Option (List ℕ)) (g : Grammar W) where
  -- so many steps were interrupted, one after another, the last so many of them in a row, which never were more than the limit
  abbrev pub AskedAgain : ℕ → ReaderState S D → ℕ → ReaderState S D → Type 0
  AskedAgain zero s row t = (s ≡ t) × (row ≡ 0)
  AskedAgain (suc count) s row t =
      (m : ReaderState S D) × (before : ℕ) × AskedAgain count s before m
      × (e : Error) × IsInterrupt e × NextPiece remaining g m (Err (Io e)) t
      × InARow before (length (rest m)) (length (rest t)) row × (row ≤ limit)

  -- a step behind such, which isn't made again: if it was interrupted too, it is one more in a row than the limit
  pub record StepRetried (s : ReaderState S D) (answer : NextAnswer W) (t : ReaderState S D) : Type 0 where
    pub count : ℕ
    pub row : ℕ
    pub last : ReaderState S D
    pub again : AskedAgain count s row last
    pub next : NextPiece remaining g last answer t
    pub often : (e : Error) → answer ≡ Err (Io e) → IsInterrupt e
        → InARow row (length (rest last)) (length (rest t)) (limit + 1)

-- a step that answers an item, made so
pub record FetchesItem {S D W I : Type 0} (limit : ℕ) (remaining : S → Option (List ℕ)) (g : Grammar W)
    (item_of : List ℕ → I) (s : ReaderState S D) (answer : Result (Option (I × Span)) (NextError W)) (t : ReaderState S D)
    : Type 0 where
  pub steps : StepRetried limit remaining g s (load_answer (result_map_both (option_map (λ said. said.1)) (λ e. e) answer) t) t
  pub says : IfOk answer (λ found. IfSome found (λ said. said.0 ≡ item_of steps.next.bytes))

-- for each byte that was given, and each read that gave nothing, reads failed as often as the limit at most, and once more than
-- that for each of so many failures
abbrev pub ReadsFailFew : ℕ → ReadLog → ReadLog → Type 0
ReadsFailFew failed old new =
    length new.faults + interrupt_limit * (length old.given + old.zero_reads)
    ≤ length old.faults + interrupt_limit * (length new.given + new.zero_reads) + (interrupt_limit + 1) * failed
