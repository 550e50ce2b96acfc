-- What the calls of a reader of pieces promise.
use Rattle.std.specs.Prelude.{◌≡◌, ℕ, ◌+◌, ◌<◌, ◌≤◌, ◌⊎◌, List, [], ◌∷◌, ◌++◌, length, take, Bool, true, false, MatchBool, Option, None, Some, Result, Ok, Err, OnErr, option_copied}
use Rattle.std.specs.Borrow.{Bor}
use Rattle.std.specs.declared.io.Error.{Error}
use Rattle.buffer_redux.specs.Asking.{AskedOver, AskedWhere}
use Rattle.buffer_redux.specs.LogGrows.{ReadLogGrows}
use Rattle.buffer_redux.specs.BufReader.{InnerGives}
pub use Rattle.buffer_redux.specs.BufReader.{empty_reads}
use Rattle.buffer_redux.specs.Sparing.{PotentialHeld}
use Rattle.buffer_redux.specs.Unbuffer.{HandsOutInOrder}
use Rattle.piece_reader.specs.declared.decoder.Span.{Span}
use Rattle.piece_reader.specs.declared.error.NextError.{NextError}
use Rattle.piece_reader.specs.declared.error.NextError.TheVariants.{Wrong, Io}
use Rattle.piece_reader.specs.Decoding.{bytes_at}
use Rattle.piece_reader.specs.Grammar.{Begins, Grammar, IsOpen, IsOpenBelow}
use Rattle.piece_reader.specs.PieceReader.{ReaderState, IsPieceReader, left_of, rest}

-- what any calls do, one after another, that handed out these bytes: pieces, each with all that it takes. No byte is lost; of
-- what the inner reader is known to have left, just what it gave is gone; no more bytes are moved than are given, over all
-- calls since the reader was made, and none where the stream isn't asked; and no memory is taken
pub record PiecesWent {S D : Type 0} (remaining : S → Option (List ℕ)) (most : ℕ) (s : ReaderState S D) (bytes : List ℕ)
    (t : ReaderState S D) : Type 0 where
  pub hands : HandsOutInOrder (left_of s) bytes (left_of t)
  pub known : InnerGives remaining s.reader t.reader
  pub grows : ReadLogGrows s.reader.log.reads t.reader.log.reads
  pub held : PotentialHeld most s.reader t.reader
  pub still : t.reader.log.reads.asks ≡ s.reader.log.reads.asks → t.reader.block.moved ≡ s.reader.block.moved
  pub capacity : t.reader.block.capacity ≡ s.reader.block.capacity
  pub limit : t.reader.block.limit ≡ s.reader.block.limit
  pub decoder : t.decoder ≡ s.decoder

-- the stream wasn't asked, or, unless its end was met, only where what was there was such
abbrev pub AskedUnlessEnded : {S D : Type 0} → (List ℕ → Type 0) → ReaderState S D → ReaderState S D → Type 0
AskedUnlessEnded Such s t = (t.reader.log ≡ s.reader.log) ⊎ ((s.ended ≡ false) × AskedOver Such (left_of s) (left_of t))

-- an offer of so many bytes has room for more than these; and where these are none it is the whole buffer
abbrev pub OffersOver : ℕ → ℕ → List ℕ → Type 0
OffersOver capacity offer bytes = (length bytes < offer) × (bytes ≡ [] → offer ≡ capacity)

-- the stream wasn't asked, or the last ask offered more than was there, and the whole buffer where nothing was
abbrev pub OffersMore : {S D : Type 0} → ReaderState S D → ReaderState S D → Type 0
OffersMore s t = AskedWhere (OffersOver s.reader.block.capacity t.reader.log.reads.offer) (left_of s) (left_of t)

-- the stream wasn't asked, or the last ask offered the whole buffer
abbrev pub OffersAll : {S D : Type 0} → ReaderState S D → ReaderState S D → Type 0
OffersAll s t = (t.reader.log ≡ s.reader.log) ⊎ (t.reader.log.reads.offer ≡ s.reader.block.capacity)

-- no fault was met
abbrev pub NoFault : {S D : Type 0} → ReaderState S D → ReaderState S D → Type 0
NoFault s t = t.reader.log.reads.faults ≡ s.reader.log.reads.faults

-- this error is the one fault that the reader met
abbrev pub Faulted : {S D : Type 0} → ReaderState S D → Error → ReaderState S D → Type 0
Faulted s e t = t.reader.log.reads.faults ≡ s.reader.log.reads.faults ++ e ∷ []

-- the reader was asked no more often than it gave bytes
abbrev pub AsksGive : {S D : Type 0} → ReaderState S D → ReaderState S D → Type 0
AsksGive s t =
    t.reader.log.reads.asks + length s.reader.log.reads.given
    ≤ s.reader.log.reads.asks + length t.reader.log.reads.given

-- the reader never gave nothing
abbrev pub NoEnd : {S D : Type 0} → ReaderState S D → ReaderState S D → Type 0
NoEnd s t = empty_reads t.reader ≡ empty_reads s.reader

-- the reader gave nothing once, and wasn't asked again; or it had before, which no call had told yet, and wasn't asked
abbrev pub MetEnd : {S D : Type 0} → ReaderState S D → ReaderState S D → Type 0
MetEnd s t = MatchBool s.ended (NoEnd s t) (empty_reads t.reader ≡ empty_reads s.reader + 1)

-- what a call of `next` answers: a payload, `None` at the end, or why there is no piece
abbrev pub NextAnswer : Type 0 → Type 0
NextAnswer W = Result (Option (List ℕ)) (NextError W)

-- the answer, with the payload in place of the slice that is lent
abbrev pub answer_of : {E : Type 0} → Result (Option (Bor (List ℕ))) E → Result (Option (List ℕ)) E
answer_of (Ok found) = Ok (option_copied found)
answer_of (Err e) = Err e

-- these bytes are a piece with this payload; or they are the last one, and nothing else is left
abbrev pub IsHanded : {S D W : Type 0} → Grammar W → ReaderState S D → List ℕ → List ℕ → ReaderState S D → Type 0
IsHanded g s payload bytes t =
    (g.piece bytes payload × (t.ended ≡ false) × NoEnd s t)
    ⊎ (g.last bytes payload × IsOpen g bytes × (0 < length bytes) × (rest t ≡ []) × (t.ended ≡ true) × MetEnd s t)

-- what each answer means, by the bytes that it hands out and what is left. That is wrong where it begins with no piece, or is
-- none and the stream ended behind it
abbrev pub NextAnswers : {S D W : Type 0} → Grammar W → ReaderState S D → NextAnswer W → List ℕ → ReaderState S D → Type 0
NextAnswers g s (Ok (Some payload)) bytes t = NoFault s t × IsHanded g s payload bytes t
NextAnswers g s (Ok None) bytes t = (bytes ≡ []) × (rest t ≡ []) × NoFault s t × (t.ended ≡ false) × MetEnd s t
NextAnswers g s (Err (Wrong e)) bytes t = (bytes ≡ []) × NoFault s t × (t.ended ≡ false)
    × ((g.wrong (rest t) e × NoEnd s t) ⊎ (g.cut (rest t) e × IsOpen g (rest t) × (0 < length (rest t)) × MetEnd s t))
NextAnswers g s (Err (Io e)) bytes t =
    (bytes ≡ []) × IsOpen g (rest t) × Faulted s e t × (t.ended ≡ false) × NoEnd s t

-- what was looked at, the first so many, shows that the bytes settle nothing
pub record ShowsOpen {W : Type 0} (g : Grammar W) (seen : ℕ) (bytes : List ℕ) : Type 0 where
  pub need : ℕ
  pub most : need ≤ g.most
  pub few : length bytes < need
  pub lacks : IsOpenBelow g need (take seen bytes)

-- what was looked at stays so; all that was left was looked at where it settled nothing; and where what is left settles nothing,
-- what was looked at of it shows that. So none of it is looked at again before more comes
pub record StaysLooked {S D W : Type 0} (g : Grammar W) (s t : ReaderState S D) : Type 0 where
  pub stays : s.seen ≤ t.seen
  pub all : IsOpen g (rest s) → length (rest s) ≤ t.seen
  pub shows : IsOpen g (rest t) → ShowsOpen g t.seen (rest t)

-- what one call of `next` does. The stream is asked only where what is buffered settles nothing, the last time for more bytes
-- than that has, and each ask gave a byte, unless an end or a fault was met; an end that no call has told yet is told; and an
-- `Err` leaves what was looked at
pub record NextPiece {S D W : Type 0} (remaining : S → Option (List ℕ)) (g : Grammar W) (s : ReaderState S D)
    (answer : NextAnswer W) (t : ReaderState S D) : Type 0 where
  pub bytes : List ℕ
  pub went : PiecesWent remaining g.most s bytes t
  pub answers : NextAnswers g s answer bytes t
  pub asked : AskedUnlessEnded (IsOpen g) s t
  pub offered : OffersMore s t
  pub gave : NoEnd s t → NoFault s t → AsksGive s t
  pub told : s.ended ≡ true → answer ≡ Ok None
  pub looked : OnErr answer (StaysLooked g s t)
  pub whole : IsPieceReader g t

-- one call of `next` here doesn't ask the stream
abbrev pub AsksNone : {S D W : Type 0} → (S → Option (List ℕ)) → Grammar W → ReaderState S D → Type 0
AsksNone {S} {D} {W} remaining g s =
    (answer : NextAnswer W) (t : ReaderState S D) → NextPiece remaining g s answer t → t.reader.log ≡ s.reader.log

-- nothing was done, but that more bytes may have been looked at: all, where they settle nothing, so that none is looked at again
pub record StaysLeft {S D W : Type 0} (g : Grammar W) (s t : ReaderState S D) : Type 0 where
  pub same : t ≡ record s { seen = t.seen }
  pub stays : s.seen ≤ t.seen
  pub looked : IsOpen g (rest s) → t.seen ≡ length (rest s)
  pub whole : IsPieceReader g t

-- what `step_buffered` does: as `step` where the next piece stands whole in what is left, and else nothing. The reader inside
-- isn't called
abbrev pub NextBuffered : {S D W : Type 0} → (S → Option (List ℕ)) → Grammar W → ReaderState S D → Option (List ℕ)
    → ReaderState S D → Type 0
NextBuffered remaining g s (Some payload) t = NextPiece remaining g s (Ok (Some payload)) t × (t.reader ≡ s.reader)
NextBuffered remaining g s None t = StaysLeft g s t × ¬ (Begins g (rest s))

-- what `refill` does where nothing is left: the stream is asked for all that the buffer holds, unless it has ended, and nothing
-- else is done. The end is left for the next call to tell
pub record Refills {S D W : Type 0} (remaining : S → Option (List ℕ)) (g : Grammar W) (s : ReaderState S D)
    (answer : Result Bool Error) (t : ReaderState S D) : Type 0 where
  pub went : PiecesWent remaining g.most s [] t
  pub asked : AskedUnlessEnded (λ bytes. bytes ≡ []) s t
  pub offered : OffersAll s t
  pub more : answer ≡ Ok true → (0 < length (rest t)) × (s.ended ≡ false) × (t.ended ≡ false) × NoEnd s t × NoFault s t
  pub end : answer ≡ Ok false → (rest t ≡ []) × (t.ended ≡ true) × MetEnd s t × NoFault s t
  pub failed : (e : Error) → answer ≡ Err e
      → (rest t ≡ []) × (s.ended ≡ false) × (t.ended ≡ false) × NoEnd s t × Faulted s e t
  pub whole : IsPieceReader g t

-- what is lent once the next piece stands at the front
abbrev pub load_answer : {S D E : Type 0} → Result (Option Span) E → ReaderState S D → Result (Option (List ℕ)) E
load_answer (Ok (Some span)) t = Ok (Some (bytes_at span t.reader.block.bytes))
load_answer (Ok None) t = Ok None
load_answer (Err e) t = Err e

-- what is lent of a piece that was buffered
abbrev pub buffered_answer : {S D : Type 0} → Option Span → ReaderState S D → Option (List ℕ)
buffered_answer (Some span) t = Some (bytes_at span t.reader.block.bytes)
buffered_answer None t = None
