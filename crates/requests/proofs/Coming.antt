-- What was sent before a further head was asked for.
use Rattle.std.proofs.Common.{◌≡◌, ◌∙◌, ◌<◌, ◌+◌, ℕ, Bool, true, false, MatchBool, List, [], ◌∷◌, ◌++◌, length, Option, None, Some, Ok, Err, inl, inr, ap, refl, sym, subst, arith, length-append}
use Rattle.requests.proofs.Names.{AskedOver, AskedOver-on, AskedWhere, AsksNone-settled, AwaitsHead, AwaitsMore, BadHead, body_rules, Buffered, empty_reads, Error, HandsOutInOrder-joins, Heads, heads, heads_lawful, InBody, InsideGoes, IsBodyReader, IsOpen, IsSettled, LeadsOpen, left_of, NextAnswer, NextPiece, nil_from_length, NoEnd, NoneLeft, one_ahead, PiecesWent-stream, PiecesWent-unasked, Prompt, ReaderState, rest, SendsUnless, StdPolicy, stream_in, StreamLog, TookWholeBody, Unbuffered, usual}
use Rattle.codec.specs.declared.NextError.TheVariants as why
use Rattle.requests.proofs.Sending.{Prompt-asked, Prompt-on, Prompt-read, Prompt-unsent}
use Rattle.requests.proofs.Reading.{begins_on, inside_went, wrong_unasked}

-- under the usual limits heads are the usual ones
pub usually : {R : Type 0} {remaining : R → Option (List ℕ)} {s t : ReaderState R Heads} {answer : NextAnswer BadHead}
    → s.decoder.0 ≡ usual → NextPiece remaining (heads s.decoder.0) s answer t → NextPiece remaining (heads usual) s answer t
usually {R} {remaining} {s} {t} {answer} same next = subst (λ l. NextPiece remaining (heads l) s answer t) same next

-- what isn't settled is open
pub open_where : {R : Type 0} (s : ReaderState R Heads) → (¬ (IsSettled (heads usual) s)) → IsOpen (heads usual) (rest s)
open_where s unsettled = record {
  no_piece = λ b. unsettled (inr (inl b));
  not_wrong = λ e bad. unsettled (inr (inr (e, bad)));
}

-- an end that is met where nobody is asked was met before
ended_before : {R : Type 0} (s t : ReaderState R Heads) → t.reader.log ≡ s.reader.log → (before : Bool)
    → MatchBool before (NoEnd s t) (empty_reads t.reader ≡ empty_reads s.reader + 1) → before ≡ true
ended_before s t same true met = refl
ended_before s t same false met = absurd (omega (arith, met, ap (λ l. l.reads.zero_reads) same))

-- so what is answered there is settled
settled_where : {R : Type 0} {remaining : R → Option (List ℕ)} (s t : ReaderState R Heads) → t.reader.log ≡ s.reader.log
    → (answer : NextAnswer BadHead) → NextPiece remaining (heads usual) s answer t → IsSettled (heads usual) s
settled_where s t same (Ok (Some payload)) next = elim next.answers.1 [
  | inl piece ↦ inr (inl (record {
    piece = next.bytes;
    payload = payload;
    more = rest t;
    is = piece.0;
    equal = sym (PiecesWent-unasked _ _ s t next.bytes next.went same);
  }))
  | inr last ↦ absurd last.0
]
settled_where s t same (Ok None) next = inl (ended_before s t same s.ended next.answers.4)
settled_where s t same (Err (why.Wrong e)) next = elim next.answers.3 [
  | inl wrong ↦ inr (inr (
    e,
    subst (λ l. (heads usual).wrong l e)
        (ap (λ l. l ++ rest t) (sym next.answers.0) ∙ PiecesWent-unasked _ _ s t next.bytes next.went same) wrong.0,
  ))
  | inr cut ↦ inl (ended_before s t same s.ended cut.3)
]
settled_where s t same (Err (why.Io e)) next = absurd (omega (
  arith,
  ap length next.answers.2,
  length-append s.reader.log.reads.faults (e ∷ []),
  ap (λ l. length l.reads.faults) same,
))

-- and where nothing is settled the stream is asked
pub asks_where : {R : Type 0} {remaining : R → Option (List ℕ)} (s t : ReaderState R Heads) (answer : NextAnswer BadHead)
    → NextPiece remaining (heads usual) s answer t → (¬ (IsSettled (heads usual) s))
    → AskedOver (AwaitsHead []) (left_of s) (left_of t)
asks_where s t answer next unsettled = elim next.asked [
  | inl same ↦ absurd (unsettled (settled_where s t same answer next))
  | inr over ↦ over.1
]

-- a body of which something is buffered, and can't be handed out, isn't asked for
shown_unasked : {R : Type 0} (count : ℕ) (out : List ℕ) (m t : InBody R) → IsBodyReader (body_rules m.body.coding) m.body
    → count ≡ 0 → 0 < length out → ¬ (TookWholeBody (body_rules m.body.coding) m.body)
    → (0 < length (stream_in m).left → NoneLeft m.body.coding m.body count (length out))
    → AskedWhere (LeadsOpen (body_rules m.body.coding) m.body.place []) (stream_in m) (stream_in t)
    → 0 < length (stream_in m).left → (stream_in t).log ≡ (stream_in m).log
shown_unasked count out m t whole zero some goes_on short asked shown = elim (short shown) [
  | inl same ↦ absurd (omega (arith, same, zero, some))
  | inr none ↦ elim none [
    | inl done ↦ absurd (goes_on done)
    | inr left ↦ elim left [
      | inl early ↦ absurd (omega (arith, shown, early.settles_nothing.few, one_ahead m.body.coding))
      | inr breaks ↦ wrong_unasked m t whole breaks.0 breaks.1 asked
    ]
  ]
]

-- what was held was sent, where the stream was asked then
pub comes : {R W : Type 0} {remaining : R → Option (List ℕ)} {tells : W → StreamLog} {trace : W → W → Type 0}
    (s : ReaderState R Heads) (w v : Buffered W StdPolicy) → SendsUnless tells trace (IsSettled (heads usual) s) w (Ok tt) v
    → (answer : NextAnswer BadHead) (t : ReaderState R Heads) → NextPiece remaining (heads usual) s answer t
    → Prompt tells trace AwaitsHead (left_of s, w) (Ok tt) (left_of t, v)
comes {remaining = remaining} s w v sends answer t next =
    Prompt-asked AwaitsHead (left_of s) (left_of t) w v
    (PiecesWent-stream remaining (heads usual).most s t next.bytes next.went).order sends
    (asks_where s t answer next)
    (λ settled. AsksNone-settled remaining (heads usual) (heads_lawful usual) s settled answer t next)

-- where the stream was asked more it was so where that lets it
asked_more : {R : Type 0} (s t : Unbuffered R) (Open : List ℕ → Type 0) → AskedWhere Open s t
    → s.log.reads.asks < t.log.reads.asks → AskedOver Open s t
asked_more s t Open (inl same) more = absurd (omega (arith, more, ap (λ l. l.reads.asks) same))
asked_more s t Open (inr over) more = over

module _ {R W : Type 0} {remaining : R → Option (List ℕ)} {tells : W → StreamLog} {trace : W → W → Type 0}
    (b m : InBody R) (whole : IsBodyReader (body_rules b.body.coding) b.body) (goes : InsideGoes remaining b [] m)
    (same : (stream_in m).log ≡ (stream_in b).log) (w v : Buffered W StdPolicy) where
  -- what was held couldn't be sent where no more of a body is buffered
  pub unsent_empty : (e : Error) → SendsUnless tells trace (0 < length (stream_in m).left) w (Err e) v
      → Prompt tells trace (AwaitsMore b) (stream_in b, w) (Err e) (stream_in m, v)
  unsent_empty e sends =
      let never = λ (front : List ℕ) (behind : List ℕ). ⊥ in
      Prompt-on never (AwaitsMore b) (stream_in b, w) (stream_in m, w) (stream_in m, v) (Err e) (inside_went goes).order
      (λ front behind odd. absurd odd) (Prompt-read (AwaitsMore b) w (inside_went goes).order same)
      (Prompt-unsent never (stream_in m) w v e sends
      (λ lacks. inl (nil_from_length (stream_in m).left (omega (arith, lacks)))))

  -- or it was, and then the stream was asked for more
  pub comes_inside : {then : List ℕ} (t : InBody R) (count : ℕ) (out : List ℕ) → InsideGoes remaining m then t
      → SendsUnless tells trace (0 < length (stream_in m).left) w (Ok tt) v → count ≡ 0 → 0 < length out
      → ¬ (TookWholeBody (body_rules m.body.coding) m.body)
      → (0 < length (stream_in m).left → NoneLeft m.body.coding m.body count (length out))
      → AskedWhere (LeadsOpen (body_rules m.body.coding) m.body.place []) (stream_in m) (stream_in t)
      → ((stream_in m).left ≡ [] → ¬ (TookWholeBody (body_rules m.body.coding) m.body)
      → (stream_in m).log.reads.asks < (stream_in t).log.reads.asks)
      → Prompt tells trace (AwaitsMore b) (stream_in b, w) (Ok tt) (stream_in t, v)
  comes_inside t count out more sends zero some goes_on short asked asks =
      let first = (inside_went goes).order in
      let rules = LeadsOpen (body_rules m.body.coding) m.body.place [] in
      Prompt-asked (AwaitsMore b) (stream_in b) (stream_in t) w v
      (HandsOutInOrder-joins (stream_in b) (stream_in m) (stream_in t) _ _ first (inside_went more).order) sends
      (λ lacks. AskedOver-on rules (AwaitsMore b []) (stream_in b) (stream_in m) (stream_in t) _ first
      (omega (arith, ap (λ l. l.reads.asks) same))
      (omega (arith, ap (λ l. l.reads.asks) same, ap (λ l. length l.reads.given) same))
      (λ then on. (refl, begins_on whole goes then on))
      (asked_more (stream_in m) (stream_in t) rules asked
      (asks (nil_from_length (stream_in m).left (omega (arith, lacks))) goes_on)))
      (λ shown. shown_unasked count out m t goes.whole zero some goes_on short asked shown ∙ same)
