-- `parse` reads each word of digits that isn't empty and isn't too large, so one that it refuses is no number.
use Rattle.std.proofs.Common.{◌≡◌, ℕ, zero, suc, List, ◌∷◌, All, None, Result, Ok, Err, sym, ◌∙◌, arith, rules}
use Rattle.std.proofs.lemmas.Str.Parse.{IsDigitsTest, IsNumeralModel, numerals_by_value, parse_digits}
use Rattle.std.specs.Char.{IsAsciiDigit}
use Rattle.std.specs.Result.{result_ok}
use Rattle.std.specs.Str.Parse.{digits_value, ParsesUnsigned}
use Rattle.programs.specs.Words.{IsNumber}
use Rattle.programs.proofs.words.number.Goals as goal

one_more : (c : ℕ) (cs : List ℕ) → IsAsciiDigit c → All IsAsciiDigit cs → All IsAsciiDigit (c ∷ cs)
one_more c cs first rest zero d below = first
one_more c cs first rest (suc k) d below = rest k d (omega arith)

digits_told : IsDigitsTest (All IsAsciiDigit)
digits_told = record {
  empty = λ k d below. absurd (omega (arith, below));
  parts = λ c cs all. (all 0 c (omega arith), λ k d below. all (suc k) d (omega (arith, below)));
  more = one_more;
}

digits_read : IsNumeralModel (All IsAsciiDigit) (digits_value 10)
digits_read = numerals_by_value _ digits_told

-- what does not parse is no number
refused : {E : Type 0} (word : List ℕ) (r : Result ℕ E)
    → ParsesUnsigned 64 10 word r → result_ok r ≡ None → ¬ IsNumber word
refused word (Ok n) p none = cc
refused word (Err e) p none = λ is.
    parse_digits digits_read 64 word (Err e) p is.digits (omega (arith, is.not_empty), omega (arith, is.not_large))

pub returns-in_err-number : goal.returns-in_err-number
returns-in_err-number c =
    let none : c.from_residual.result ≡ None = search rules in
    rw none (refused c.args.word.now _ c.parse.ensures.value.0 (sym c.ok.ensures.value ∙ c.in_err-number.was))
