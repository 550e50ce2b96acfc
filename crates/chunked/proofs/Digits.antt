-- The digits of a size are written from the last to the first, each out of the table.
use Rattle.std.proofs.Common.{◌≡◌, ℕ, zero-add, ◌-◌, ◌<◌, ◌≤◌, List, ◌∷◌, length, drop, set, get_or, arith}
use Rattle.chunked.specs.Names.{digit_char, drop-set}
use Rattle.std.proofs.lemmas.List.FromFn.{get_or-map-range_with_len}
use Rattle.std.specs.Prelude.{codes}

pub digit_table : (d : ℕ) → d < 16 → get_or (codes "0123456789abcdef") d 0 ≡ digit_char d
digit_table d small = get_or-map-range_with_len digit_char 0 16 d d 0 small (zero-add d)

-- a byte that is written just before others stands before them
pub set_before : (xs : List ℕ) (start y z : ℕ) → 1 ≤ start → start ≤ length xs → y ≡ z
    → drop (start - 1) (set xs (start - 1) y) ≡ z ∷ drop start xs
set_before xs start y z some within same = grind (arith, drop-set)
