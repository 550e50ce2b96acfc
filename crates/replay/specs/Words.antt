-- What the words of a line stand for.
use Rattle.std.specs.Prelude.{◌≡◌, ℕ, List, [], take, drop, codes}
use Rattle.std.specs.Io.{StartsWith}
use Rattle.std.specs.Str.Parse.{digits_value}
use Rattle.programs.specs.Words.{IsNumber}
use Rattle.redux_play.specs.declared.play.ReaderCall.{ReaderCall}
use Rattle.redux_play.specs.declared.play.ReaderCall.TheVariants.{Read, Fill, Consume, ReadIntoBuf, MakeRoom, Reserve}
use Rattle.replay.specs.declared.case.BufferCall.{BufferCall}
use Rattle.replay.specs.declared.case.BufferCall.TheVariants as buffer
use Rattle.replay.specs.declared.case.ReaderWord.{ReaderWord}
use Rattle.replay.specs.declared.case.ReaderWord.TheVariants as reader
use Rattle.replay.specs.declared.case.Mode.{Mode}
use Rattle.replay.specs.declared.case.Mode.TheVariants.{Once, Sweep, LossySweep, SilentSweep}
use Rattle.replay.specs.declared.case.WriterWord.{WriterWord}
use Rattle.replay.specs.declared.case.WriterWord.TheVariants as writer

-- the word in front of a case for how it is played
abbrev pub mode_word : Mode → List ℕ
mode_word Once = []
mode_word Sweep = codes "sweep "
mode_word LossySweep = codes "lossy "
mode_word SilentSweep = codes "silent "

-- this letter, and then this number
pub record IsSized (letter : List ℕ) (n : ℕ) (word : List ℕ) : Type 0 where
  pub first : take 1 word ≡ letter
  pub number : IsNumber (drop 1 word)
  pub value : digits_value 10 (drop 1 word) ≡ n

-- the word of a call of a reader
abbrev pub IsCallWord : ReaderCall → List ℕ → Type 0
IsCallWord (Read n) word = IsSized (codes "R") n word
IsCallWord Fill word = word ≡ codes "F"
IsCallWord (Consume n) word = IsSized (codes "C") n word
IsCallWord ReadIntoBuf word = word ≡ codes "I"
IsCallWord MakeRoom word = word ≡ codes "M"
IsCallWord (Reserve n) word = IsSized (codes "V") n word

-- that, or the word of another minimum
abbrev pub IsReaderWord : ReaderWord → List ℕ → Type 0
IsReaderWord (reader.Call call) word = IsCallWord call word
IsReaderWord (reader.SetMin n) word = IsSized (codes "N") n word

-- the word of a call of a writer
abbrev pub IsWriterWord : WriterWord → List ℕ → Type 0
IsWriterWord (writer.CountFrom n) word = IsSized (codes "@") n word
IsWriterWord (writer.Write n) word = IsSized (codes "W") n word
IsWriterWord (writer.WriteThese bytes) word = StartsWith word (codes "w")
IsWriterWord (writer.WriteAll n) word = IsSized (codes "A") n word
IsWriterWord writer.Flush word = word ≡ codes "L"
IsWriterWord writer.MakeRoom word = word ≡ codes "M"
IsWriterWord (writer.Reserve n) word = IsSized (codes "V") n word

-- the word of a call of a bare buffer
abbrev pub IsBufferWord : BufferCall → List ℕ → Type 0
IsBufferWord buffer.ReadFrom word = word ≡ codes "I"
IsBufferWord (buffer.Consume n) word = IsSized (codes "C") n word
IsBufferWord buffer.MakeRoom word = word ≡ codes "M"
IsBufferWord (buffer.Reserve n) word = IsSized (codes "V") n word
IsBufferWord (buffer.Push n) word = IsSized (codes "P") n word
IsBufferWord (buffer.SetLimit n) word = IsSized (codes "T") n word
IsBufferWord buffer.Limit word = word ≡ codes "T"
