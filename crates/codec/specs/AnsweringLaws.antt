-- What is written behind a piece is the answer to it.
use Rattle.std.specs.Prelude.{ℕ, List, Bool, Result, Ok, Err}
use Rattle.std.proofs.Common.{inl, inr, subst, sym}
use Rattle.buffer_redux.specs.Buffered.{Buffered}
use Rattle.buffer_redux.specs.BufWriter.{WritesAlong}
use Rattle.buffer_redux.specs.Policy.{std_write_rules}
use Rattle.buffer_redux.specs.StreamLog.{StreamLog}
use Rattle.buffer_redux.specs.WritesAlongLaws.{WritesAlong-none}
use Rattle.codec.specs.Answering.{AnswersBy, WasAnswered, WritesOnce}
use Rattle.codec.specs.declared.answering.AnswerError.{AnswerError}
use Rattle.codec.specs.declared.answering.AnswerError.TheVariants.{Write, Failed}

module _ {T P : Type 0} (tells : T → StreamLog) (trace : T → T → Type 0) (w v : Buffered T P) where
  -- an answer that was written, or refused, and is one to the piece
  pub AnswersBy-answered : {A F : Type 0} (Answers : List ℕ → Bool → A → Type 0) (Fails : F → A → Type 0) (answer : List ℕ)
      (more : Bool) (t : A) → Answers answer more t → (result : Result Bool (AnswerError F))
      → AnswersBy tells trace answer more w result v → WasAnswered tells trace Answers Fails w result t v
  AnswersBy-answered Answers Fails answer more t says (Ok further) (is, written) =
      (answer, subst (λ b. Answers answer b t) (sym is) says, inl written)
  AnswersBy-answered Answers Fails answer more t says (Err (Write e)) written = (answer, more, says, written)
  AnswersBy-answered Answers Fails answer more t says (Err (Failed why)) none = absurd none

  -- what was written once was accepted
  pub WritesOnce-along : ((u : T) → trace u u) → (bytes : List ℕ) → WritesOnce tells trace w bytes v
      → WritesAlong tells trace std_write_rules w bytes v
  WritesOnce-along none bytes (inl written) = written.along
  WritesOnce-along none bytes (inr (empty, same)) =
      subst (λ x. WritesAlong tells trace std_write_rules w bytes x) (sym same)
      (subst (λ l. WritesAlong tells trace std_write_rules w l w) (sym empty)
      (WritesAlong-none tells trace std_write_rules none w))
