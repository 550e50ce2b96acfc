-- Where a byte stands first.
use Rattle.std.proofs.Common.{◌≡◌, ℕ, suc, ◌+◌, List, [], ◌∷◌, ◌++◌, length, take, drop, refl, sym, ap, ◌∙◌, arith, append_assoc, length-take-le, take-append-drop}
use Rattle.std.proofs.lemmas.List.Elements.{All-nil, All-append}
use Rattle.std.specs.Io.BufRead.{take_through}
use Rattle.buffer_redux.specs.ReadUntil.{EndsIn, FirstAt, Lacks}
use Rattle.buffer_redux.specs.UntilLaws.{ending_through}

abbrev other : ℕ → ℕ → Type 0
other byte b = ¬ (b ≡ byte)

pub lacks_none : (byte : ℕ) → Lacks byte []
lacks_none byte = All-nil (other byte)

pub lacks_both : (byte : ℕ) (xs ys : List ℕ) → Lacks byte xs → Lacks byte ys → Lacks byte (xs ++ ys)
lacks_both byte = All-append (other byte)

take-append-more : (front : List ℕ) (byte : ℕ) (more : List ℕ)
    → take (length front + 1) (front ++ byte ∷ more) ≡ front ++ byte ∷ []
take-append-more [] byte more = refl
take-append-more (b ∷ front) byte more =
    let count : length (b ∷ front) + 1 ≡ suc (length front + 1) = omega arith in
    ap (λ n. take n (b ∷ front ++ byte ∷ more)) count ∙ ap (λ l. b ∷ l) (take-append-more front byte more)

-- the first bytes, up to the byte and with it, end in it
pub through : (byte at : ℕ) (bytes : List ℕ) → FirstAt byte at bytes → take (at + 1) bytes ≡ take at bytes ++ byte ∷ []
through byte at bytes e =
    let size = length-take-le at bytes (omega (arith, e.inside)) in
    ap (λ l. take (at + 1) l) (sym e.equal)
    ∙ ap (λ n. take n (take at bytes ++ byte ∷ drop (1 + at) bytes)) (omega (arith, size))
    ∙ take-append-more (take at bytes) byte (drop (1 + at) bytes)

-- bytes that lack the byte, and then some up to it and with it, end in it
pub ends_in : (byte at : ℕ) (h shown : List ℕ) → FirstAt byte at shown → Lacks byte h
    → EndsIn byte (h ++ take (at + 1) shown)
ends_in byte at h shown e plain = record {
  front = h ++ take at shown;
  plain = lacks_both byte h (take at shown) plain e.plain;
  equal = ap (λ l. h ++ l) (through byte at shown e) ∙ sym (append_assoc h (take at shown) (byte ∷ []));
}

-- the first bytes, up to the byte and with it, are what is taken through it
pub first_through : (byte at : ℕ) (bytes : List ℕ) → FirstAt byte at bytes → take (at + 1) bytes ≡ take_through byte bytes
first_through byte at bytes e =
    ending_through byte (take (at + 1) bytes) (drop (at + 1) bytes) (ends_in byte at [] bytes e (lacks_none byte))
    ∙ ap (take_through byte) (take-append-drop (at + 1) bytes)
