-- Protocols in one stream that the first byte of a piece tells apart.
use Rattle.std.specs.Prelude.{◌≡◌, ℕ, ◌==◌, List, [], ◌∷◌, max, true, false, MatchBool}
use Rattle.codec.specs.declared.by_first.EitherWrong.{EitherWrong}
use Rattle.codec.specs.declared.by_first.EitherWrong.TheVariants.{One, Other}
use Rattle.piece_reader.specs.declared.decoder.End.{End}
use Rattle.piece_reader.specs.declared.decoder.End.TheVariants as end
use Rattle.piece_reader.specs.declared.decoder.Found.{Found}
use Rattle.piece_reader.specs.declared.decoder.Found.TheVariants as found
use Rattle.piece_reader.specs.Grammar.{Grammar}
use Rattle.piece_reader.specs.Looking.{LookTells}

-- the same pieces, with other words for why bytes are none
abbrev pub renamed : {V W : Type 0} → (V → W) → Grammar V → Grammar W
renamed {V} {W} f g = record {
  most = g.most;
  piece = g.piece;
  wrong = λ bytes e. (why : V) × g.wrong bytes why × (e ≡ f why);
  last = g.last;
  cut = λ bytes e. (why : V) × g.cut bytes why × (e ≡ f why);
}

-- the answers of a decoder of those
abbrev pub found_as : {V W : Type 0} → (V → W) → Found V → Found W
found_as f (found.Piece span used) = found.Piece span used
found_as f (found.More n) = found.More n
found_as f (found.Wrong e) = found.Wrong (f e)

-- such an answer, in those words
abbrev pub SaidAs : {V W : Type 0} → (V → W) → (Found V → Type 0) → Found W → Type 0
SaidAs {V} f Such is = (said : Found V) × Such said × (is ≡ found_as f said)

abbrev pub end_as : {V W : Type 0} → (V → W) → End V → End W
end_as f (end.Last span) = end.Last span
end_as f (end.Wrong e) = end.Wrong (f e)

-- what the first byte says of bytes; nothing does of none
abbrev pub OnFirst : {A : Type 0} → (ℕ → List ℕ → A → Type 0) → List ℕ → A → Type 0
OnFirst Says [] x = ⊥
OnFirst Says (byte ∷ bytes) x = Says byte (byte ∷ bytes) x

-- any number of protocols: the first byte says of which a piece is
abbrev pub by_first : {W : Type 0} → ℕ → (ℕ → Grammar W) → Grammar W
by_first most of_byte = record {
  most = most;
  piece = OnFirst (λ byte. (of_byte byte).piece);
  wrong = OnFirst (λ byte. (of_byte byte).wrong);
  last = OnFirst (λ byte. (of_byte byte).last);
  cut = OnFirst (λ byte. (of_byte byte).cut);
}

-- what a look leaves for either protocol: of no byte both, and else that of which the first byte says that the piece is
abbrev pub either_notes : {N M : Type 0} → ℕ → (List ℕ → N → Type 0) → (List ℕ → M → Type 0) → List ℕ → N × M → Type 0
either_notes byte Ones Others [] note = Ones [] note.0 × Others [] note.1
either_notes byte Ones Others (first ∷ bytes) note =
    MatchBool (first == byte) (Ones (first ∷ bytes) note.0) (Others (first ∷ bytes) note.1)

-- of a look at bytes that the first one says are of either protocol: what its decoder told; of none the first byte is asked for
abbrev pub either_looks : {V W : Type 0} → ℕ → LookTells V → LookTells W → LookTells (EitherWrong V W)
either_looks byte Ones Others [] seen is = is ≡ found.More 1
either_looks byte Ones Others (first ∷ bytes) seen is = MatchBool (first == byte)
    (SaidAs (λ e. One e) (Ones (first ∷ bytes) seen) is) (SaidAs (λ e. Other e) (Others (first ∷ bytes) seen) is)

-- two: the pieces of the one begin with this byte
abbrev pub either : {V W : Type 0} → ℕ → Grammar V → Grammar W → Grammar (EitherWrong V W)
either {V} {W} byte g h = by_first (max g.most h.most) (λ first. elim (first == byte) as (λ _. Grammar (EitherWrong V W)) [
  | true ↦ renamed (λ e. One e) g
  | false ↦ renamed (λ e. Other e) h
])
