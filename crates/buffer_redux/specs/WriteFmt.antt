-- What a write of formatted text promises.
use Rattle.std.specs.Prelude.{◌≡◌, ℕ, ◌⊎◌, List, [], ◌∷◌, ◌++◌, Option, None, Some, Result, Ok, Err, MatchResult, OnOk, IfErr, IfSome}
use Rattle.std.specs.List.{concat}
use Rattle.std.specs.IoError.{error_kind}
use Rattle.std.specs.declared.io.Error.{Error}
use Rattle.std.specs.declared.io.ErrorKind.TheVariants.{Uncategorized}
use Rattle.redux_buffer.specs.StreamLog.{StreamLog}
use Rattle.buffer_redux.specs.Policy.{WriteRules}
use Rattle.buffer_redux.specs.Buffered.{Buffered}
use Rattle.buffer_redux.specs.BufWriter.{WritesAlong}
use Rattle.buffer_redux.specs.WriteAll.{WritesAll}

module _ {S P : Type 0} (tells : S → StreamLog) (trace : S → S → Type 0) (rules : WriteRules P) where
  -- these pieces were written, one after another, each by a `write_all` of it, and nothing else was done
  abbrev pub WritesEach : Buffered S P → List (List ℕ) → Buffered S P → Type 0
  WritesEach s [] t = s ≡ t
  WritesEach s (piece ∷ pieces) t =
      (m : Buffered S P) × WritesAll tells trace rules s piece (Ok tt) m × WritesEach m pieces t

  -- these bytes were accepted, piece by piece
  pub record WritesPieces (s : Buffered S P) (bytes : List ℕ) (t : Buffered S P) : Type 0 where
    pub pieces : List (List ℕ)
    pub all : concat pieces ≡ bytes
    pub each : WritesEach s pieces t
    pub along : WritesAlong tells trace rules s bytes t

  -- some bytes were accepted so, and then the write of all of a piece ended with this error
  pub record PieceFailed (s : Buffered S P) (e : Error) (t : Buffered S P) : Type 0 where
    pub before : List ℕ
    pub last : Buffered S P
    pub went : WritesPieces s before last
    pub piece : List ℕ
    pub steps : WritesAll tells trace rules last piece (Err e) t

  -- just a beginning of the text was accepted, and that piece was one of the text's
  pub record StoppedIn (s : Buffered S P) (text : List ℕ) (e : Error) (t : Buffered S P) : Type 0 where
    pub why : PieceFailed s e t
    pub behind : List ℕ
    pub piece_of : text ≡ (why.before ++ why.piece) ++ behind
    pub accepted : List ℕ
    pub more : List ℕ
    pub all : text ≡ accepted ++ more
    pub along : WritesAlong tells trace rules s accepted t

  -- a text went so far, whatever is known of it: pieces were written, and the write of one more failed, where there is an error
  abbrev pub TextWent : Buffered S P → Option Error → Buffered S P → Type 0
  TextWent s None t = (accepted : List ℕ) × WritesPieces s accepted t
  TextWent s (Some e) t = PieceFailed s e t

  -- what a write of this text did. Where nothing is known of the text, or the formatting failed by itself
  -- (`Uncategorized`), it still wrote pieces and did nothing else: some bytes were accepted, and none was lost
  pub record WritesText (s : Buffered S P) (text : Option (List ℕ)) (answer : Result (Unit {0}) Error) (t : Buffered S P)
      : Type 0 where
    pub along : ∥ ((accepted : List ℕ) × WritesAlong tells trace rules s accepted t) ∥₁
    pub went : MatchResult answer (λ _. ∥ TextWent s None t ∥₁)
        (λ e. ∥ (((error_kind e ≡ Uncategorized) × ((ended : Option Error) × TextWent s ended t)) ⊎ PieceFailed s e t) ∥₁)
    pub whole : OnOk answer (IfSome text (λ bytes. WritesPieces s bytes t))
    pub beginning : IfErr answer (λ e. IfSome text (λ bytes. (error_kind e ≡ Uncategorized) ⊎ StoppedIn s bytes e t))

  -- one piece was taken: all of it was written, and an error of that ended the text; behind such an error nothing was done
  abbrev pub TakesOnePiece : Buffered S P → Option Error → List ℕ → Buffered S P → Option Error → Type 0
  TakesOnePiece s None piece t None = WritesAll tells trace rules s piece (Ok tt) t
  TakesOnePiece s None piece t (Some e) = WritesAll tells trace rules s piece (Err e) t
  TakesOnePiece s (Some e) piece t None = ⊥
  TakesOnePiece s (Some e) piece t (Some f) = (e ≡ f) × (s ≡ t)

  -- pieces of it were taken, one after another, and none behind the error that ended it
  abbrev pub TakesPieces : Buffered S P → Option Error → List ℕ → Buffered S P → Option Error → Type 0
  TakesPieces s None bytes t None = WritesPieces s bytes t
  TakesPieces s None bytes t (Some e) = StoppedIn s bytes e t
  TakesPieces s (Some e) bytes t None = ⊥
  TakesPieces s (Some e) bytes t (Some f) = (e ≡ f) × (s ≡ t)
