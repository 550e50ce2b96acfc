-- What is flushed before a stream is waited for.
use Rattle.std.specs.Prelude.{◌≡◌, ◌⊎◌, false, Result, Ok, Err}
use Rattle.std.specs.declared.io.Error.{Error}
use Rattle.buffer_redux.specs.Buffered.{Buffered}
use Rattle.buffer_redux.specs.BufWriter.{WasFlushed}
use Rattle.buffer_redux.specs.StreamLog.{StreamLog}
use Rattle.piece_reader.specs.Grammar.{Grammar, IsOpen}
use Rattle.piece_reader.specs.Looking.{LooksAtRest, LooksFromLast, LookTells}
use Rattle.piece_reader.specs.NextPiece.{StaysLeft}
use Rattle.piece_reader.specs.PieceReader.{ReaderState, rest}

-- the next step asks the stream: that hasn't ended, and what is left settles nothing
abbrev pub MustAsk : {S D V : Type 0} → Grammar V → ReaderState S D → Type 0
MustAsk g s = (s.ended ≡ false) × IsOpen g (rest s)

-- what is left was looked at from where the last look ended; and the stream wasn't asked, or as by a step behind that look
abbrev pub LooksToFetch : {S D V : Type 0} → (D → LookTells V) → Grammar V → ReaderState S D → ReaderState S D → Type 0
LooksToFetch {S} {D} looks g s t = LooksAtRest looks s
    × ((t.reader.log ≡ s.reader.log) ⊎ ((m : ReaderState S D) × StaysLeft g s m × LooksFromLast looks m t))

module _ {S D V T P : Type 0} (tells : T → StreamLog) (trace : T → T → Type 0) (g : Grammar V) (s : ReaderState S D)
    (w : Buffered T P) where
  -- the writer was flushed where the next step has to ask, and else it is as it was
  abbrev pub FlushesToAsk : Result (Unit {0}) Error → Buffered T P → Type 0
  FlushesToAsk answer v = ((¬ (MustAsk g s)) × (answer ≡ Ok tt) × (v ≡ w)) ⊎ (MustAsk g s × WasFlushed tells trace w answer v)

  -- the stream wasn't asked, and the writer is as it was; or the stream had to be, and all that was written was received and
  -- flushed before. Where that failed nothing was asked or taken
  abbrev pub FlushedFirst : {A : Type 0} → Result A Error → ReaderState S D → Buffered T P → Type 0
  FlushedFirst (Ok a) t v =
      ((v ≡ w) × (t.reader.log ≡ s.reader.log)) ⊎ (MustAsk g s × WasFlushed tells trace w (Ok tt) v)
  FlushedFirst (Err e) t v = MustAsk g s × WasFlushed tells trace w (Err e) v × StaysLeft g s t
