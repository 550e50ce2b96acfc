-- Which looks a reader of pieces makes.
use Rattle.std.specs.Prelude.{◌≡◌, ℕ, zero, suc, ◌<◌, ◌≤◌, ◌⊎◌, List, ◌++◌, length, false}
use Rattle.buffer_redux.specs.Asking.{AskedOver}
use Rattle.piece_reader.specs.declared.decoder.Found.{Found}
use Rattle.piece_reader.specs.declared.decoder.Found.TheVariants.{More}
use Rattle.piece_reader.specs.Decoding.{Decodes, OnMore}
use Rattle.piece_reader.specs.Grammar.{Grammar}
use Rattle.piece_reader.specs.PieceReader.{ReaderState, left_of, rest}

-- what a decoder tells of a look at these bytes, the first so many of which were looked at before
abbrev pub LookTells : Type 0 → Type 1
LookTells W = List ℕ → ℕ → Found W → Type 0

-- what a look says: what its answer means, and what the decoder tells beside that
abbrev pub LookSays : {D W : Type 0} → (D → Grammar W) → (D → LookTells W) → D → LookTells W
LookSays grammar looks d bytes seen found = Decodes (grammar d) bytes found × looks d bytes seen found

-- so many looks, behind one at the first bytes that asked for this many: each begins where the one before ended, once as many
-- bytes had come as that asked for; and of which bytes the last one was, and how many it asked for
abbrev pub LooksInTurn : {W : Type 0} → LookTells W → List ℕ → ℕ → ℕ → List ℕ → ℕ → Type 0
LooksInTurn looks first need zero bytes asked = (first ≡ bytes) × (asked ≡ need)
LooksInTurn looks first need (suc count) bytes asked =
    (before more : List ℕ) × (n : ℕ) × LooksInTurn looks first need count before n × (bytes ≡ before ++ more)
    × (n ≤ length bytes) × looks bytes (length before) (More asked)

-- behind a look at these bytes, which asked for so many, fewer were there, and an offer had room for as many
abbrev pub IsAskedFor : List ℕ → ℕ → ℕ → List ℕ → Type 0
IsAskedFor looked asked offer bytes =
    (length bytes < asked) × (asked ≤ offer) × (more : List ℕ) × (bytes ≡ looked ++ more)

-- fewer bytes are there than a look asked for; or as many, and a look from where that one ended settles something
abbrev pub EndsLooks : {W : Type 0} → LookTells W → List ℕ → ℕ → List ℕ → Type 0
EndsLooks {W} looks looked asked bytes = (length bytes < asked)
    ⊎ ((asked ≤ length bytes) × (found : Found W) × looks bytes (length looked) found × OnMore found (λ _. ⊥))

-- behind a look that asked for so many bytes what was left, and what came, was looked at in turn. Unless the stream had ended, it
-- was asked the last time for as many as the last look asked for that settled nothing
pub record LooksForMore {S D W : Type 0} (looks : D → LookTells W) (s : ReaderState S D) (need : ℕ)
    (t : ReaderState S D) : Type 0 where
  pub count : ℕ
  pub bytes : List ℕ
  pub asked : ℕ
  pub turns : LooksInTurn (looks s.decoder) (rest s) need count bytes asked
  pub last : s.ended ≡ false → AskedOver (IsAskedFor bytes asked t.reader.log.reads.offer) (left_of s) (left_of t)
  pub got : List ℕ
  pub given : t.reader.log.reads.given ≡ s.reader.log.reads.given ++ got
  pub more : List ℕ
  pub all : rest s ++ got ≡ bytes ++ more
  pub ends : EndsLooks (looks s.decoder) bytes asked (rest s ++ got)

-- what is left was looked at from where the last look ended
abbrev pub LooksAtRest : {S D W : Type 0} → (D → List ℕ → ℕ → Found W → Type 0) → ReaderState S D → Type 0
LooksAtRest {S} {D} {W} looks s = (found : Found W) × looks s.decoder (rest s) s.seen found

-- what is left was looked at so, and what came only once that was as much as was asked for
abbrev pub LooksFromLast : {S D W : Type 0} → (D → LookTells W) → ReaderState S D → ReaderState S D → Type 0
LooksFromLast {S} {D} {W} looks s t =
    (found : Found W) × looks s.decoder (rest s) s.seen found × OnMore found (λ need. LooksForMore looks s need t)
