-- How calls of a reader of pieces join, and what follows since it was made.
use Rattle.std.specs.Prelude.{◌≡◌, ℕ, List, [], ◌++◌, length, drop, take, Option}
use Rattle.std.proofs.Common.{sym, ap, subst, ◌∙◌, arith, refl, length-drop, le_refl, append-nil}
use Rattle.std.proofs.lemmas.List.{append_cancel_left, drop-drop, nil_from_length, take-append-drop}
use Rattle.buffer_redux.specs.Block.{Block}
use Rattle.buffer_redux.specs.BufReader.{InnerGives}
use Rattle.buffer_redux.specs.LogGrows.{ReadLogGrows, ReadLogGrows-none, ReadLogGrows-joins}
use Rattle.buffer_redux.specs.ReaderLaws.{InnerGives-none, InnerGives-joins}
use Rattle.buffer_redux.specs.Sparing.{PotentialHeld, MovedAtMostGiven}
use Rattle.buffer_redux.specs.StreamLog.{StreamLog}
use Rattle.buffer_redux.specs.Unbuffer.{StreamWent}
use Rattle.buffer_redux.specs.UnbufferLaws.{HandsOutInOrder-joins, HandsOutInOrder-none, StreamWent-joins}
use Rattle.piece_reader.specs.Grammar.{Grammar}
use Rattle.piece_reader.specs.NextPiece.{PiecesWent}
use Rattle.piece_reader.specs.PieceReader.{ReaderState, IsFresh, IsOver, Skips, TakenApart, left_of, rest}

-- what was skipped isn't left
pub Skips-left : {S D W : Type 0} (g : Grammar W) (s : ReaderState S D) (count : ℕ) (t : ReaderState S D) → Skips g s count t
    → rest t ≡ drop count (rest s)
Skips-left g s count t skips = ap (λ x. rest x) skips.same ∙ sym (drop-drop count s.handed s.reader.block.bytes)

module _ {S D : Type 0} (remaining : S → Option (List ℕ)) (most : ℕ) where
  pub PiecesWent-none : (s : ReaderState S D) → PiecesWent remaining most s [] s
  PiecesWent-none s = record {
    hands = HandsOutInOrder-none (left_of s);
    known = InnerGives-none remaining s.reader;
    grows = ReadLogGrows-none s.reader.log.reads;
    held = record { moved = le_refl _; held = le_refl _ };
    still = λ _. refl;
    capacity = refl;
    limit = refl;
    decoder = refl;
  }

  pub PiecesWent-joins : (s m t : ReaderState S D) (h k : List ℕ)
      → PiecesWent remaining most s h m → PiecesWent remaining most m k t → PiecesWent remaining most s (h ++ k) t
  PiecesWent-joins s m t h k p q = record {
    hands = HandsOutInOrder-joins (left_of s) (left_of m) (left_of t) h k p.hands q.hands;
    known = InnerGives-joins remaining s.reader m.reader t.reader p.known q.known;
    grows = ReadLogGrows-joins s.reader.log.reads m.reader.log.reads t.reader.log.reads p.grows q.grows;
    held = record {
      moved = omega (arith, p.held.moved, q.held.moved);
      held = omega (arith, p.held.held, q.held.held);
    };
    still = λ none. q.still (omega (arith, none, p.grows.asks, q.grows.asks))
        ∙ p.still (omega (arith, none, p.grows.asks, q.grows.asks));
    capacity = q.capacity ∙ p.capacity;
    limit = q.limit ∙ p.limit;
    decoder = q.decoder ∙ p.decoder;
  }

  -- where the buffered reader stays as it is, these bytes were handed out of what was left
  pub PiecesWent-inside : (s t : ReaderState S D) (bytes : List ℕ) → t.reader ≡ s.reader → t.decoder ≡ s.decoder
      → bytes ++ rest t ≡ rest s → PiecesWent remaining most s bytes t
  PiecesWent-inside s t bytes same decoder split =
      let none = PiecesWent-none s in
      record {
        hands = record {
          got = [];
          given = ap (λ r. r.log.reads.given) same ∙ sym (append-nil s.reader.log.reads.given);
          equal = split ∙ sym (append-nil (rest s));
        };
        known = subst (λ r. InnerGives remaining s.reader r) (sym same) none.known;
        grows = subst (λ r. ReadLogGrows s.reader.log.reads r.log.reads) (sym same) none.grows;
        held = subst (λ r. PotentialHeld most s.reader r) (sym same) (record { moved = le_refl _; held = le_refl _ });
        still = λ _. ap (λ r. r.block.moved) same;
        capacity = ap (λ r. r.block.capacity) same;
        limit = ap (λ r. r.block.limit) same;
        decoder = decoder;
      }

  -- what was skipped was taken out of what was left
  pub Skips-went : {W : Type 0} (g : Grammar W) (s : ReaderState S D) (count : ℕ) (t : ReaderState S D) → Skips g s count t
      → PiecesWent remaining most s (take count (rest s)) t
  Skips-went g s count t skips = PiecesWent-inside s t (take count (rest s)) (ap (λ x. x.reader) skips.same)
      (ap (λ x. x.decoder) skips.same)
      (ap (λ l. take count (rest s) ++ l) (Skips-left g s count t skips) ∙ take-append-drop count (rest s))

  -- calls that leave the log as it is hand out what is there
  pub PiecesWent-unasked : (s t : ReaderState S D) (bytes : List ℕ) → PiecesWent remaining most s bytes t
      → t.reader.log ≡ s.reader.log → bytes ++ rest t ≡ rest s
  PiecesWent-unasked s t bytes went told =
      let none : went.hands.got ≡ [] = append_cancel_left s.reader.log.reads.given went.hands.got []
      (sym went.hands.given ∙ ap (λ l. l.reads.given) told ∙ sym (append-nil s.reader.log.reads.given)) in
      went.hands.equal ∙ ap (λ l. rest s ++ l) none ∙ append-nil (rest s)

-- nothing is left of nothing
pub drop_none : (n : ℕ) (bytes : List ℕ) → bytes ≡ [] → drop n bytes ≡ []
drop_none n bytes none = nil_from_length (drop n bytes) (omega (arith, length-drop n bytes, ap length none))

-- of a reader that was just made: what was given since is the bytes that were handed out, then what is left, and no more
-- bytes were moved than were given
pub PiecesWent-given : {S D : Type 0} (remaining : S → Option (List ℕ)) (tells : S → StreamLog) (least most : ℕ)
    (stream : S) (decoder : D) (s t : ReaderState S D) (bytes : List ℕ) → IsFresh tells least most stream decoder s
    → PiecesWent remaining most s bytes t
    → t.reader.log.reads.given ≡ (tells stream).reads.given ++ (bytes ++ rest t)
PiecesWent-given remaining tells least most stream decoder s t bytes fresh went =
    went.hands.given
    ∙ ap (λ l. l.reads.given ++ went.hands.got) fresh.log
    ∙ ap (λ l. (tells stream).reads.given ++ l)
    (sym (went.hands.equal ∙ ap (λ l. l ++ went.hands.got) (drop_none s.handed s.reader.block.bytes fresh.empty)))

pub PiecesWent-moved : {S D : Type 0} (remaining : S → Option (List ℕ)) (tells : S → StreamLog) (least most : ℕ)
    (stream : S) (decoder : D) (s t : ReaderState S D) (bytes : List ℕ) → IsFresh tells least most stream decoder s
    → PiecesWent remaining most s bytes t → MovedAtMostGiven s.reader t.reader
PiecesWent-moved remaining tells least most stream decoder s t bytes fresh went =
    omega (arith, went.held.held, went.held.moved, fresh.moved, fresh.usable)

-- a reader that is made over what another one left has left what that had
pub IsOver-left : {S D E : Type 0} (tells : S → StreamLog) (most : ℕ) (s : ReaderState S D) (stream : S) (buffer : Block)
    (decoder : E) (t : ReaderState S E) → TakenApart tells s stream buffer → IsOver tells most buffer stream decoder t
    → left_of t ≡ left_of s
IsOver-left tells most s stream buffer decoder t apart over =
    over.left ∙ ap (λ l. record { left = l; inner = stream; log = tells stream }) apart.bytes
    ∙ ap (λ l. record { left = rest s; inner = stream; log = l }) apart.log
    ∙ ap (λ i. record { left = rest s; inner = i; log = s.reader.log }) apart.inner

module _ {S : Type 0} (remaining : S → Option (List ℕ)) where
  -- pieces go of a stream, also those of two decoders, where the second reader has left what the first one had
  pub PiecesWent-stream : {D : Type 0} (most : ℕ) (s t : ReaderState S D) (bytes : List ℕ) → PiecesWent remaining most s bytes t
      → StreamWent remaining (left_of s) bytes (left_of t)
  PiecesWent-stream most s t bytes went = record { order = went.hands; known = went.known; grows = went.grows }

  pub PiecesWent-then : {D E : Type 0} (most more : ℕ) (s m : ReaderState S D) (n t : ReaderState S E) (h k : List ℕ)
      → PiecesWent remaining most s h m → left_of n ≡ left_of m → PiecesWent remaining more n k t
      → StreamWent remaining (left_of s) (h ++ k) (left_of t)
  PiecesWent-then most more s m n t h k first same second =
      StreamWent-joins remaining (left_of s) (left_of m) (left_of t) h k (PiecesWent-stream most s m h first)
      (subst (λ u. StreamWent remaining u k (left_of t)) same (PiecesWent-stream more n t k second))
