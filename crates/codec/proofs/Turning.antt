-- What a turn of a server comes to.
use Rattle.std.proofs.Common.{◌≡◌, ◌⊎◌, ℕ, List, Bool, Option, Result, Ok, Err, Some, IfOk, inr, refl, subst, sym}
use Rattle.std.specs.declared.io.Error.{Error}
use Rattle.buffer_redux.specs.Buffered.{Buffered}
use Rattle.buffer_redux.specs.StreamLog.{StreamLog}
use Rattle.codec.specs.Answering.{WasAnswered}
use Rattle.codec.specs.AskedAgain.{FetchesItem}
use Rattle.codec.specs.declared.answering.AnswerError.{AnswerError}
use Rattle.codec.specs.declared.answering.AnswerError.TheVariants.{Failed, Write}
use Rattle.piece_reader.specs.declared.decoder.Span.{Span}
use Rattle.piece_reader.specs.declared.error.NextError.{NextError}
use Rattle.piece_reader.specs.Decoding.{bytes_at}
use Rattle.codec.specs.Fetching.{FlushedFirst}
use Rattle.piece_reader.specs.Grammar.{Grammar}
use Rattle.piece_reader.specs.PieceReader.{ReaderState}
use Rattle.codec.specs.Serving.{AnswerFailed, Exchange, Fetched, FlushFailed, Server, ServiceFailed, TookPiece, server}

module _ {S D W I A F T P : Type 0} (limit : ℕ) (remaining : S → Option (List ℕ)) (tells : T → StreamLog)
    (trace : T → T → Type 0) (g : Grammar W) (item_of : List ℕ → I) (Answers : A → I → List ℕ → List ℕ → Bool → A → Type 0)
    (Fails : A → I → List ℕ → F → A → Type 0) (s : Server S D A T P) (t : ReaderState S D)
    (ready : Buffered T P) (r : Result (Result (Option (I × Span)) (NextError W)) Error) (said : I × Span)
    (is : r ≡ Ok (Ok (Some said)))
    (next : IfOk r (λ answer. FetchesItem limit remaining g item_of s.pieces answer t))
    (first : FlushedFirst tells trace g s.pieces s.answers r t ready) (shown : List ℕ)
    (lent : shown ≡ bytes_at said.1 t.reader.block.bytes) (after : A) (last : Buffered T P) where
  abbrev item : FetchesItem limit remaining g item_of s.pieces (Ok (Some said)) t
  item = subst (λ r. IfOk r (λ answer. FetchesItem limit remaining g item_of s.pieces answer t)) is next

  abbrev exchange : List ℕ → Exchange
  exchange reply = record { bytes = item.steps.next.bytes; payload = bytes_at said.1 t.reader.block.bytes; reply = reply }

  abbrev fetched : Fetched limit remaining tells trace g item_of Answers s (Ok (Some (bytes_at said.1 t.reader.block.bytes)))
      ready t
  fetched = record {
    steps = item.steps;
    first = subst (λ r. FlushedFirst tells trace g s.pieces s.answers r t ready) is first;
  }

  answers : (reply : List ℕ) (more : Bool) → Answers s.service said.0 shown reply more after
      → Answers s.service (item_of item.steps.next.bytes) (bytes_at said.1 t.reader.block.bytes) reply more after
  answers reply more a = subst (λ i. Answers s.service i (bytes_at said.1 t.reader.block.bytes) reply more after) item.says
      (subst (λ l. Answers s.service said.0 l reply more after) lent a)

  -- the piece was answered
  pub took_piece : (b more : Bool) → b ≡ more → WasAnswered tells trace (Answers s.service said.0 shown)
      (Fails s.service said.0 shown) ready (Ok b) after last
      → (x : Exchange) × TookPiece limit remaining tells trace g item_of Answers s x more (server t after last)
  took_piece b more same (reply, a, written) = (
    exchange reply,
    record {
      ready = ready;
      fetched = fetched;
      all = refl;
      answers = answers reply more (subst (λ m. Answers s.service said.0 shown reply m after) same a);
      written = written;
    },
  )

  -- the piece couldn't be answered
  pub answer_failed : (r : AnswerError F) (e : Error) → r ≡ Write e
      → WasAnswered tells trace (Answers s.service said.0 shown) (Fails s.service said.0 shown) ready (Err r) after last
      → FlushFailed limit remaining tells trace g item_of Answers s e (server t after last)
      ⊎ ((x : Exchange) × AnswerFailed limit remaining tells trace g item_of Answers s x e (server t after last))
  answer_failed r e why answered =
      let failed = subst (λ r. WasAnswered tells trace (Answers s.service said.0 shown) (Fails s.service said.0 shown) ready
      (Err r) after last) why answered in inr (
        exchange failed.0,
        record {
          ready = ready;
          fetched = fetched;
          all = refl;
          answers = (failed.1, answers failed.0 failed.1 failed.2);
          written = failed.3;
        },
      )

  -- the service failed
  pub service_failed : (r : AnswerError F) (why : F) → r ≡ Failed why
      → WasAnswered tells trace (Answers s.service said.0 shown) (Fails s.service said.0 shown) ready (Err r) after last
      → ServiceFailed limit remaining tells trace g item_of Answers Fails s why (server t after last)
  service_failed r why same answered =
      let failed = subst (λ r. WasAnswered tells trace (Answers s.service said.0 shown) (Fails s.service said.0 shown) ready
      (Err r) after last) same answered in
      subst (λ v. ServiceFailed limit remaining tells trace g item_of Answers Fails s why (server t after v)) (sym failed.1)
      (record {
        payload = bytes_at said.1 t.reader.block.bytes;
        fetched = fetched;
        fails = subst (λ i. Fails s.service i (bytes_at said.1 t.reader.block.bytes) why after) item.says
            (subst (λ l. Fails s.service said.0 l why after) lent failed.0);
      })
