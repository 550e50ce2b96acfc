-- What the search for an end comes to.
use Rattle.std.proofs.Common.{◌≡◌, ℕ, ◌+◌, ◌<◌, ◌≤◌, List, ◌∷◌, length, take, drop, min, sym, ap, subst, ◌∙◌, arith, refl, length-take-le}
use Rattle.std.proofs.Math.Seq.{take-append-add}
use Rattle.std.proofs.lemmas.List.{take_all}
use Rattle.piece_reader.specs.Decoding.{IsPiece}
use Rattle.piece_reader.specs.Delimited.{delimited}
use Rattle.piece_reader.specs.DelimitedLaws.{open_plain, plain_open}
use Rattle.piece_reader.specs.Grammar.{IsOpen, IsOpenBelow}
use Rattle.piece_reader.specs.GrammarLaws.{lacks_one}
use Rattle.piece_reader.specs.Plain.{EndsAt, IsPlain}

module _ (end max : ℕ) (bytes : List ℕ) where
  -- what was looked at in vain has at most max bytes
  pub seen_few : (seen : ℕ) → seen ≤ length bytes → IsOpen (delimited end max) (take seen bytes) → seen ≤ max
  seen_few seen within is =
      omega (arith, (open_plain end max (take seen bytes) is).1, length-take-le seen bytes within)

  pub found_piece : (at : ℕ) → at < length bytes → at ≤ max → EndsAt end at bytes
      → IsPiece (delimited end max) bytes (record { from = 0; len = at }) (1 + at)
  found_piece at inside fits e =
      let p = take at bytes in
      let size : length p ≡ at = length-take-le at bytes (omega (arith, inside)) in
      let count : 1 + at ≡ length p + 1 = omega (arith, size) in
      record {
        inside = omega (arith, inside);
        within = omega arith;
        is = (
          e.plain,
          omega (arith, size, fits),
          ap (λ n. take n bytes) count ∙ ap (take (length p + 1)) (sym e.equal)
              ∙ take-append-add p (end ∷ drop (1 + at) bytes) 1,
        );
      }

  module _ (to : ℕ) (is : to ≡ min (length bytes) (1 + max)) (plain : IsPlain end (take to bytes)) where
    pub too_long : max < length bytes → (delimited end max).wrong bytes (record { 0 = max })
    too_long above =
        let count : to ≡ 1 + max = omega (arith, is, above) in
        (above, subst (λ n. IsPlain end (take n bytes)) count plain, refl)

    pub wants_one : length bytes ≤ max → (length bytes < 1 + length bytes) × (1 + length bytes ≤ 1 + max)
        × IsOpenBelow (delimited end max) (1 + length bytes) bytes
    wants_one few =
        let whole : IsPlain end bytes = subst (IsPlain end) (take_all to bytes (omega (arith, is, few))) plain in
        (omega arith, omega (arith, few), lacks_one (delimited end max) bytes (plain_open end max bytes whole few))
