-- What is written, and when it is sent.
use Rattle.std.specs.Prelude.{◌≡◌, ℕ, ◌<◌, ◌⊎◌, List, [], ◌∷◌, length, Result, Ok, MatchResult}
use Rattle.std.specs.declared.io.Error.{Error}
use Rattle.buffer_redux.specs.Asking.{AskedOver}
use Rattle.buffer_redux.specs.BufWriter.{WasFlushed}
use Rattle.buffer_redux.specs.Buffered.{Buffered}
use Rattle.buffer_redux.specs.StreamLog.{StreamLog}
use Rattle.buffer_redux.specs.Unbuffer.{HandsOutInOrder, Unbuffered}
use Rattle.buffer_redux.specs.WriteParts.{WritesParts}
use Rattle.buffer_redux.specs.declared.policy.StdPolicy.{StdPolicy}
use Rattle.programs.specs.Streams.{AllSent}

-- what the writer has buffered is all that wasn't sent
abbrev pub IsHeld : {W : Type 0} → Buffered W StdPolicy → Type 0
IsHeld w = w.block.bytes ≡ [] → AllSent w

-- this text was written, and nothing was sent but for room, or flushed; or there is none, and nothing was done
abbrev pub SendsForRoom : {W : Type 0} → (W → StreamLog) → (W → W → Type 0) → Buffered W StdPolicy → List ℕ
    → Result (Unit {0}) Error → Buffered W StdPolicy → Type 0
SendsForRoom tells trace w text putting w' =
    ((text ≡ []) × (putting ≡ Ok tt) × (w' ≡ w)) ⊎ WritesParts tells trace w text putting w'

-- what is held was sent, and flushed; or nothing was held, and nothing was done
abbrev pub SendsHeld : {W : Type 0} → (W → StreamLog) → (W → W → Type 0) → Buffered W StdPolicy → Result (Unit {0}) Error
    → Buffered W StdPolicy → Type 0
SendsHeld tells trace w answer w' = (AllSent w × (answer ≡ Ok tt) × (w' ≡ w))
    ⊎ ((0 < length w.block.bytes) × WasFlushed tells trace w answer w')

-- so, unless this is so
abbrev pub SendsUnless : {W : Type 0} → (W → StreamLog) → (W → W → Type 0) → Type 0 → Buffered W StdPolicy
    → Result (Unit {0}) Error → Buffered W StdPolicy → Type 0
SendsUnless tells trace P w answer w' =
    (P × (answer ≡ Ok tt) × (w' ≡ w)) ⊎ ((¬ P) × SendsHeld tells trace w answer w')

-- a stream, and the writer of answers to it
abbrev pub Both : Type 0 → Type 0 → Type 0
Both R W = Unbuffered R × Buffered W StdPolicy

-- the stream handed out some of what it has, in order
abbrev pub HandsOutSome : {R : Type 0} → Unbuffered R → Unbuffered R → Type 0
HandsOutSome s t = (bytes : List ℕ) × HandsOutInOrder s bytes t

-- it handed out some, and was asked, only where what was left, and had come, settled nothing behind the bytes that it had handed
-- out before, since the first
pub record AsksUnsettled {R : Type 0} (Open : List ℕ → List ℕ → Type 0) (first s t : Unbuffered R) : Type 0 where
  pub hands : HandsOutSome s t
  pub front : List ℕ
  pub before : HandsOutInOrder first front s
  pub asked : AskedOver (Open front) s t

-- nothing is buffered of it, or what is settles nothing behind the bytes that it handed out since the first
abbrev pub IsUnsettled : {R : Type 0} → (List ℕ → List ℕ → Type 0) → Unbuffered R → Unbuffered R → Type 0
IsUnsettled Open first s = (s.left ≡ []) ⊎ ((front : List ℕ) × HandsOutInOrder first front s × Open front s.left)

module _ {R W : Type 0} (tells : W → StreamLog) (trace : W → W → Type 0) (Open : List ℕ → List ℕ → Type 0) where
  -- the stream hands out some of what is buffered of it, or is asked, where all that was written was received and flushed; or
  -- what is held is sent, where it is to be asked, and then it is, or that failed, and nothing else is done
  abbrev pub IsStep : Unbuffered R → Both R W → Result (Unit {0}) Error → Both R W → Type 0
  IsStep first (s, w) answer (t, v) =
      ((answer ≡ Ok tt) × (v ≡ w) × ((HandsOutSome s t × (t.log ≡ s.log)) ⊎ (AllSent w × AsksUnsettled Open first s t)))
      ⊎ ((0 < length w.block.bytes) × WasFlushed tells trace w answer v
      × MatchResult answer (λ _. AsksUnsettled Open first s t) (λ e. IsUnsettled Open first s × (t ≡ s)))

  -- such steps, by way of these, of which the last is first; each went well but the last, which was answered so
  abbrev pub StepsAlong : Both R W → List (Both R W) → Result (Unit {0}) Error → Both R W → Type 0
  StepsAlong a [] answer b = (a ≡ b) × (answer ≡ Ok tt)
  StepsAlong a (m ∷ earlier) answer b = StepsAlong a earlier (Ok tt) m × IsStep a.0 m answer b

  -- so nothing was written; the stream was asked only where what had come settled nothing, and nothing was held back; and each
  -- flush sends something, and stands directly before an ask, with nothing handed out between, unless it fails
  pub record Prompt (a : Both R W) (answer : Result (Unit {0}) Error) (b : Both R W) : Type 0 where
    pub between : List (Both R W)
    pub steps : StepsAlong a between answer b
