-- Laws of runs: they go on by one call, what their calls do joins, and their pieces are those of the text.
use Rattle.std.specs.Prelude.{◌≡◌, ℕ, List, [], ◌∷◌, ◌++◌, map, true, Option, None, Some, Result, Ok, Err, OnErr}
use Rattle.std.proofs.Common.{sym, ap, subst, ◌∙◌, refl, inl, inr, append_assoc, append-nil}
use Rattle.std.proofs.lemmas.List.{map-append}
use Rattle.piece_reader.specs.declared.error.NextError.{NextError}
use Rattle.piece_reader.specs.declared.error.NextError.TheVariants.{Wrong, Io}
use Rattle.piece_reader.specs.Grammar.{Grammar}
use Rattle.piece_reader.specs.NextPiece.{NextAnswer, NextAnswers, NextPiece, PiecesWent}
use Rattle.piece_reader.specs.PiecesWentLaws.{PiecesWent-none, PiecesWent-joins}
use Rattle.piece_reader.specs.PieceReader.{ReaderState}
use Rattle.piece_reader.specs.Runs.{AnswerPlays, AnswerRuns, Cuts, NextRuns, NoneTold, RunWent, all_handed}
use Rattle.piece_reader.specs.Texts.{HasPieces, IsLast}

-- what a `?` hands on is an `Err`
pub on_err : {T E P : Type 0} (r : Result T E) → P → OnErr r P
on_err (Ok x) p = tt
on_err (Err e) p = p

-- a record that gains one more
pub gains_more : {X A : Type 0} (f : X → A) (old new new' : List X) (answers : List A) (x : X)
    → map f new ≡ map f old ++ answers → new' ≡ new ++ x ∷ [] → map f new' ≡ map f old ++ (answers ++ f x ∷ [])
gains_more f old new new' answers x gained is =
    ap (λ l. map f l) is ∙ map-append f new (x ∷ []) ∙ ap (λ l. l ++ f x ∷ []) gained
    ∙ append_assoc (map f old) answers (f x ∷ [])

module _ {T A : Type 0} (Call : T → A → T → Type 0) where
  pub AnswerRuns-more : (s : T) (answers : List A) (m : T) (answer : A) (t : T) → AnswerRuns Call s answers m
      → Call m answer t → AnswerRuns Call s (answers ++ answer ∷ []) t
  AnswerRuns-more s [] m answer t e next = (t, subst (λ x. Call x answer t) (sym e) next, refl)
  AnswerRuns-more s (a ∷ answers) m answer t run next =
      (run.0, run.1, AnswerRuns-more run.0 answers m answer t run.2 next)

-- such calls, and what they come to: no call, and one more
module _ {T A : Type 0} (Call : T → A → T → Type 0) (Went : T → List A → T → Type 0)
    (went : (s : T) (answers : List A) (t : T) → AnswerRuns Call s answers t → Went s answers t) where
  pub AnswerPlays-none : (s : T) → AnswerPlays Call Went s [] s
  AnswerPlays-none s = record { run = refl; went = went s [] s refl }

  pub AnswerPlays-more : (s : T) (answers : List A) (m : T) (answer : A) (t : T) → AnswerPlays Call Went s answers m
      → Call m answer t → AnswerPlays Call Went s (answers ++ answer ∷ []) t
  AnswerPlays-more s answers m answer t plays next =
      let run = AnswerRuns-more Call s answers m answer t plays.run next in
      record { run = run; went = went s (answers ++ answer ∷ []) t run }

module _ {W : Type 0} (g : Grammar W) where
  -- a last piece is the last
  cuts_last : (answers : List (NextAnswer W)) (payload piece bytes more : List ℕ) → NoneTold answers
      → IsLast g piece payload → bytes ≡ piece ++ more
      → ((next : NextAnswer W) (later : List (NextAnswer W)) → answers ++ Ok None ∷ [] ≡ next ∷ later → next ≡ Ok None)
      → Cuts g (answers ++ Ok None ∷ []) more → HasPieces g bytes (payload ∷ all_handed answers)
  cuts_last [] payload piece bytes more none last is follows cut =
      inr (subst (λ l. IsLast g l payload) (sym (is ∙ ap (λ l. piece ++ l) cut ∙ append-nil piece)) last, refl)
  cuts_last (Ok (Some other) ∷ answers) payload piece bytes more none last is follows cut =
      (let odd : Ok (Some other) ≡ Ok None = follows (Ok (Some other)) (answers ++ Ok None ∷ []) refl in cc)
  cuts_last (Ok None ∷ answers) payload piece bytes more none last is follows cut = absurd none
  cuts_last (Err e ∷ answers) payload piece bytes more none last is follows cut =
      (let odd : Err e ≡ Ok None = follows (Err e) (answers ++ Ok None ∷ []) refl in cc)

  -- what was handed out up to the first end of the stream is a text of just these pieces
  pub Cuts-text : (answers : List (NextAnswer W)) (bytes : List ℕ) → NoneTold answers → Cuts g (answers ++ Ok None ∷ []) bytes
      → HasPieces g bytes (all_handed answers)
  Cuts-text [] bytes none cut = cut
  Cuts-text (Ok (Some payload) ∷ answers) bytes none cut = elim cut.1 [
    | inl starts ↦ inl (cut.0, starts, Cuts-text answers cut.0 none cut.2)
    | inr last ↦ cuts_last answers payload last.0 bytes cut.0 none last.1 last.2 last.3 cut.2
  ]
  Cuts-text (Ok None ∷ answers) bytes none cut = absurd none
  Cuts-text (Err e ∷ answers) bytes none cut = Cuts-text answers bytes none cut

module _ {S D W : Type 0} (remaining : S → Option (List ℕ)) (g : Grammar W) where
  -- after a last piece comes the end of the stream
  end_follows : (m : ReaderState S D) (answers : List (NextAnswer W)) (t : ReaderState S D) → m.ended ≡ true
      → NextRuns remaining g m answers t
      → (next : NextAnswer W) (later : List (NextAnswer W)) → answers ≡ next ∷ later → next ≡ Ok None
  end_follows m [] t ended run next later is = cc
  end_follows m (answer ∷ answers) t ended run next later is = (let same : answer ≡ next = cc in sym same ∙ run.1.told ended)

  no_bytes : (s m : ReaderState S D) (e : NextError W) (bytes : List ℕ) → NextAnswers g s (Err e) bytes m → bytes ≡ []
  no_bytes s m (Wrong e) bytes (is, fault, ended, refused) = is
  no_bytes s m (Io e) bytes (is, part, fault, ended, met) = is

  -- what one call hands out, in front of what the others do
  cut_off : (s m t : ReaderState S D) (answer : NextAnswer W) (answers : List (NextAnswer W)) (bytes more : List ℕ)
      → NextAnswers g s answer bytes m → NextRuns remaining g m answers t → Cuts g answers more
      → Cuts g (answer ∷ answers) (bytes ++ more)
  cut_off s m t (Ok (Some payload)) answers bytes more (fault, inl (is, ended, none)) run cut =
      (more, inl (record { piece = bytes; is = is; equal = refl }), cut)
  cut_off s m t (Ok (Some payload)) answers bytes more (fault, inr (is, open', some, none, ended, met)) run cut = (
    more,
    inr (bytes, record { is = is; open' = open'; some = some }, refl, end_follows m answers t ended run),
    cut,
  )
  cut_off s m t (Ok None) answers bytes more (is, none, fault, ended, met) run cut =
      subst (Cuts g answers) (ap (λ l. l ++ more) (sym is)) cut
  cut_off s m t (Err e) answers bytes more given run cut =
      subst (Cuts g answers) (ap (λ l. l ++ more) (sym (no_bytes s m e bytes given))) cut

  pub NextRuns-went : (s : ReaderState S D) (answers : List (NextAnswer W)) (t : ReaderState S D)
      → NextRuns remaining g s answers t → RunWent remaining g s answers t
  NextRuns-went s [] t e = record {
    bytes = [];
    cut = refl;
    went = subst (PiecesWent remaining g.most s []) e (PiecesWent-none remaining g.most s);
  }
  NextRuns-went s (answer ∷ answers) t run =
      let more = NextRuns-went run.0 answers t run.2 in record {
        bytes = run.1.bytes ++ more.bytes;
        cut = cut_off s run.0 t answer answers run.1.bytes more.bytes run.1.answers run.2 more.cut;
        went = PiecesWent-joins remaining g.most s run.0 t run.1.bytes more.bytes run.1.went more.went;
      }

-- a call under a decoder that is still the same
pub NextPiece-moved : {S D W : Type 0} (remaining : S → Option (List ℕ)) (grammar : D → Grammar W) (s m t : ReaderState S D)
    {answer : NextAnswer W} → m.decoder ≡ s.decoder → NextPiece remaining (grammar m.decoder) m answer t
    → NextPiece remaining (grammar s.decoder) m answer t
NextPiece-moved remaining grammar s m t {answer} same next = subst (λ d. NextPiece remaining (grammar d) m answer t) same next

-- calls under the decoder of the first: none, and one more
pub NextPlays-none : {S D W : Type 0} (remaining : S → Option (List ℕ)) (g : Grammar W) (s : ReaderState S D)
    → AnswerPlays (NextPiece remaining g) (RunWent remaining g) s [] s
NextPlays-none remaining g = AnswerPlays-none (NextPiece remaining g) (RunWent remaining g) (NextRuns-went remaining g)

pub NextPlays-more : {S D W : Type 0} (remaining : S → Option (List ℕ)) (grammar : D → Grammar W) (s : ReaderState S D)
    (answers : List (NextAnswer W)) (m : ReaderState S D) (answer : NextAnswer W) (t : ReaderState S D)
    → AnswerPlays (NextPiece remaining (grammar s.decoder)) (RunWent remaining (grammar s.decoder)) s answers m
    → NextPiece remaining (grammar m.decoder) m answer t
    → AnswerPlays (NextPiece remaining (grammar s.decoder)) (RunWent remaining (grammar s.decoder)) s (answers ++ answer ∷ []) t
NextPlays-more remaining grammar s answers m answer t plays next =
    let g = grammar s.decoder in
    AnswerPlays-more (NextPiece remaining g) (RunWent remaining g) (NextRuns-went remaining g) s answers m answer t plays
    (NextPiece-moved remaining grammar s m t plays.went.went.decoder next)
