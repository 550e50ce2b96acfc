-- The words are each at its place, and the first is the one that was compared.
use Rattle.std.proofs.Common.{arith, string_bytes, rules, ◌∷◌, [], codes, ◌≡◌, ◌∙◌, ap, sym}
use Rattle.parts.proofs.Words.{map_three, map_two}
use Rattle.parts.proofs.run.asked.Goals as goal

pub returns-in-len2-clause-some : goal.returns-in-len2-clause-some
returns-in-len2-clause-some c =
    let words = map_two string_bytes c.args.words.now c.what-item.result c.boundary-item.result (omega arith) (omega arith)
    c.what-item.is c.boundary-item.is in
    let what : c.as_str.result.now ≡ codes "list" = search rules in
    words ∙ ap (λ l. l ∷ string_bytes c.boundary-item.result ∷ []) (sym c.as_str.ensures.value ∙ what)
    ∙ ap (λ l. codes "list" ∷ l ∷ []) (sym c.as_bytes.ensures.value)

pub returns-in-len3-clause-some : goal.returns-in-len3-clause-some
returns-in-len3-clause-some c =
    let words = map_three string_bytes c.args.words.now c.what-item-then-words-lt4.result
    c.boundary-item-then-words-lt4.result c.name-item.result (omega arith) (omega arith) c.what-item-then-words-lt4.is
    c.boundary-item-then-words-lt4.is c.name-item.is in
    let what : c.as_str-then-words-lt4.result.now ≡ codes "get" = search rules in
    words
    ∙ ap (λ l. l ∷ string_bytes c.boundary-item-then-words-lt4.result ∷ string_bytes c.name-item.result ∷ [])
    (sym c.as_str-then-words-lt4.ensures.value ∙ what)
    ∙ ap (λ l. codes "get" ∷ l ∷ string_bytes c.name-item.result ∷ []) (sym c.as_bytes-in-len3.ensures.value)
    ∙ ap (λ l. codes "get" ∷ c.as_bytes-in-len3.result.now ∷ l ∷ []) (sym c.as_bytes-in-len3-2.ensures.value)
