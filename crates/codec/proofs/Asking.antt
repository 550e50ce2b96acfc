-- A step that is made again while it is interrupted.
use Rattle.std.proofs.Common.{◌≡◌, ℕ, suc, ◌+◌, ◌-◌, ◌*◌, ◌<◌, ◌≤◌, List, [], ◌∷◌, length, Option, None, Some, Result, Ok, Err, inl, inr, ap, subst, ◌∙◌, arith, length-append}
use Rattle.std.specs.Option.{option_map}
use Rattle.std.specs.Result.{result_map_both}
use Rattle.std.specs.declared.io.Error.{Error}
use Rattle.buffer_redux.specs.Buffered.{Buffered}
use Rattle.buffer_redux.specs.Faults.{IsInterrupt, interrupt_limit}
use Rattle.buffer_redux.specs.StreamLog.{StreamLog}
use Rattle.codec.specs.AskedAgain.{AskedAgain, FetchesItem, InARow}
use Rattle.codec.specs.AskedAgainLaws.{AskedAgain-quiet, AskedAgain-went}
use Rattle.codec.specs.Fetching.{FlushedFirst}
use Rattle.piece_reader.specs.declared.decoder.Span.{Span}
use Rattle.piece_reader.specs.declared.error.NextError.{NextError}
use Rattle.piece_reader.specs.declared.error.NextError.TheVariants.{Io}
use Rattle.piece_reader.specs.Grammar.{Grammar}
use Rattle.piece_reader.specs.Items.{NextItem}
use Rattle.piece_reader.specs.NextPiece.{NextPiece, load_answer}
use Rattle.piece_reader.specs.PieceReader.{ReaderState, rest}

-- what is lent is an error of the stream just where the step answered one
fault_of : {S D I W : Type 0} (answer : Result (Option (I × Span)) (NextError W)) (t : ReaderState S D) (e : Error)
    → load_answer (result_map_both (option_map (λ said. said.1)) (λ e. e) answer) t ≡ Err (Io e) → answer ≡ Err (Io e)
fault_of (Ok None) t e is = cc
fault_of (Ok (Some said)) t e is = cc
fault_of (Err why) t e is = (let same : why ≡ Io e = cc in ap (λ x. Err x) same)

module _ {S D W I T P : Type 0} (limit : ℕ) (remaining : S → Option (List ℕ)) (grammar : D → Grammar W)
    (item_of : D → List ℕ → I) (tells : T → StreamLog) (trace : T → T → Type 0) (s : ReaderState S D) (w : Buffered T P) where
  -- the last step is behind those that were interrupted, and the writer was flushed in front of the first
  pub record Asking (row had : ℕ) (answer : Result (Option (I × Span)) (NextError W)) (t : ReaderState S D) (v : Buffered T P)
      : Type 0 where
    pub count : ℕ
    pub last : ReaderState S D
    pub again : AskedAgain limit remaining (grammar s.decoder) count s row last
    pub step : NextItem remaining (grammar s.decoder) (item_of s.decoder) last answer t
    pub first : FlushedFirst tells trace (grammar s.decoder) s w (Ok answer) t v
    pub found : had ≡ length (rest last)
    pub few : row ≤ limit

  module _ (row had : ℕ) (answer : Result (Option (I × Span)) (NextError W)) (t : ReaderState S D) (v : Buffered T P)
      (before : Asking row had answer t v) (has : ℕ) (left : has ≡ length (rest t)) where
    as_left : (next : ℕ) → InARow row had has next → InARow row (length (rest before.last)) (length (rest t)) next
    as_left next = subst (λ n. InARow row had has next → InARow row n (length (rest t)) next) before.found
        (subst (λ n. InARow row had has next → InARow row had n next) left (λ in_a_row. in_a_row))

    module _ (e : Error) (is : answer ≡ Err (Io e)) where
      interrupted : NextPiece remaining (grammar s.decoder) before.last (Err (Io e)) t
      interrupted = subst (λ a. NextPiece remaining (grammar s.decoder) before.last
          (load_answer (result_map_both (option_map (λ said. said.1)) (λ e. e) a) t) t) is before.step.next

      pub decoder_stays : t.decoder ≡ s.decoder
      decoder_stays = interrupted.went.decoder
          ∙ (AskedAgain-went remaining (grammar s.decoder) limit before.count s row before.last before.again).decoder

      pub once_more : IsInterrupt e → (next : ℕ) → InARow row had has next → next ≤ limit
          → (further : Result (Option (I × Span)) (NextError W)) (u : ReaderState S D)
          → NextItem remaining (grammar t.decoder) (item_of t.decoder) t further u
          → Asking next has further u v
      once_more is_interrupt next in_a_row few further u item = record {
        count = suc before.count;
        last = t;
        again = (
          before.last,
          row,
          before.again,
          e,
          is_interrupt,
          interrupted,
          as_left next in_a_row,
          few,
        );
        step = subst (λ d. NextItem remaining (grammar d) (item_of d) t further u) decoder_stays item;
        first = elim before.first [
          | inl same ↦ absurd (omega (
            arith,
            ap (λ l. length l.reads.faults) same.1,
            ap length interrupted.answers.2,
            length-append before.last.reader.log.reads.faults (e ∷ []),
            (AskedAgain-quiet remaining (grammar s.decoder) limit before.count s row before.last before.again).2,
          ))
          | inr flushed ↦ inr flushed
        ];
        found = left;
        few = few;
      }

      -- what is left lacks bytes, and each time it lacks fewer, or the row is longer
      pub smaller : limit ≤ interrupt_limit → (next : ℕ) → InARow row had has next → next ≤ limit
          → ((grammar s.decoder).most - has) * 65 + (64 - next)
          < ((grammar s.decoder).most - had) * 65 + (64 - row)
      smaller most next in_a_row few =
          let shown = interrupted.looked.shows interrupted.answers.1 in
          elim in_a_row [
            | inl more ↦ omega (arith, most, few, more.0, more.1, came, left)
            | inr anew ↦ omega (arith, most, few, before.few, anew.0, anew.1, shown.few, shown.most, left)
          ]
        where
          came : had ≤ length (rest t)
          came = omega (
            arith,
            before.found,
            ap length interrupted.went.hands.equal,
            ap length interrupted.answers.0,
            length-append interrupted.bytes (rest t),
            length-append (rest before.last) interrupted.went.hands.got,
          )

    pub ended : ((e : Error) → answer ≡ Err (Io e) → IsInterrupt e → InARow row had has (limit + 1))
        → FetchesItem limit remaining (grammar s.decoder) (item_of s.decoder) s answer t
    ended often = record {
      steps = record {
        count = before.count;
        row = row;
        last = before.last;
        again = before.again;
        next = before.step.next;
        often = λ e is interrupt. as_left (limit + 1) (often e (fault_of answer t e is) interrupt);
      };
      says = before.step.says;
    }
