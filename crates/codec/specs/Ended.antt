-- Pieces that have their own end.
use Rattle.std.specs.Prelude.{◌≡◌, length}
use Rattle.codec.specs.declared.ended.Unended.{Unended}
use Rattle.codec.specs.declared.ended.Unended.TheVariants.{Wrong, Cut}
use Rattle.codec.specs.FirstByte.{renamed}
use Rattle.piece_reader.specs.Grammar.{Grammar}

-- the same pieces. What the stream ends in the middle of is none, also where it was a last one
abbrev pub ended : {W : Type 0} → Grammar W → Grammar (Unended W)
ended g = record (renamed (λ e. Wrong e) g) {
  last = λ bytes payload. ⊥;
  cut = λ bytes e. e ≡ Cut (length bytes);
}
