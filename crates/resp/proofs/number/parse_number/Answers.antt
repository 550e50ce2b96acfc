-- The text of a number is UTF-8, is read as that number and is printed so again, so no test turns it away.
use Rattle.std.proofs.Common.{◌≡◌, ◌∙◌, Ok, subst, sym, rules}
use Rattle.std.proofs.lemmas.Fmt.{IsAscii-signed, parse-signed_decimal}
use Rattle.std.proofs.lemmas.Str.{IsUtf8-from_ascii}
use Rattle.std.specs.Int.{w64}
use Rattle.std.specs.Str.{IsUtf8}
use Rattle.resp.proofs.number.parse_number.Goals as goal

-- the text of a number is UTF-8
pub returns-in_default : goal.returns-in_default
returns-in_default c (n, fits, is) =
    c.in_default.ensures.cases.0 (subst IsUtf8 (sym is) (IsUtf8-from_ascii _ (IsAscii-signed n fits.sfits)))

-- it is read as that number
pub returns-in_default-parse : goal.returns-in_default-parse
returns-in_default-parse c (n, fits, is) = c.in_default-parse.not-Ok n
    (parse-signed_decimal w64 n c.in-Ok.digits.now c.parse.result fits fits.sfits (c.in-Ok.ensures.cases.0 ∙ is)
    c.parse.ensures.value.0)

-- and that is printed so again
pub returns-else-eq : goal.returns-else-eq
returns-else-eq c (n, fits, is) =
    let read : c.parse.result ≡ Ok n =
    parse-signed_decimal w64 n c.in-Ok.digits.now c.parse.result fits fits.sfits (c.in-Ok.ensures.cases.0 ∙ is)
    c.parse.ensures.value.0 in
    search (rules, read, is, fits)
