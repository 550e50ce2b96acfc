-- A law of bodies: bytes are one in one way.
use Rattle.std.specs.Prelude.{◌≡◌, ℕ, suc, zero, ◌≤◌, max, List, [], ◌∷◌, ◌++◌}
use Rattle.std.proofs.Common.{sym, ap, subst, ◌∙◌, arith}
use Rattle.chunked.specs.Names.{Completes, Data, Done, HasChunks, HasFields, IsBodyOfChunks, IsField, Limits, Line, Place, SizeLine}
use Rattle.chunked.specs.LineLaws.{line_wide, size_as}
use Rattle.chunked.specs.PlaceLaws.{Completes-nothing}
use Rattle.chunked.specs.StepLaws.{one_place, step_first}

-- what completes a body from a place is settled by the bytes, and so is the payload in it
completes_same : (limits : Limits) (p : Place) (a b x y xs ys : List ℕ) → Completes limits p a x → Completes limits p b y
    → a ++ xs ≡ b ++ ys → (a ≡ b) × (x ≡ y) × (xs ≡ ys)
completes_same limits p [] b x y xs ys c d same =
    let none = Completes-nothing limits p x c in
    let c = subst (λ q. Completes limits q [] x) none c in
    let d = subst (λ q. Completes limits q b y) none d in
    (sym d.1, c.0 ∙ sym d.0, same ∙ ap (λ l. l ++ ys) d.1)
completes_same limits p (byte ∷ a) [] x y xs ys c d same =
    let c = subst (λ q. Completes limits q (byte ∷ a) x) (Completes-nothing limits p y d) c in absurd (let odd = c.1 in cc)
completes_same limits (Data (suc left)) (byte ∷ a) (other ∷ b) x y xs ys (later, is, c) (later', is', d) same =
    let head : byte ≡ other = cc in
    let found = completes_same limits (Data left) a b later later' xs ys c d (cc) in
    (rw (head, found.0), rw (is, is', head, found.1), found.2)
completes_same limits Done (byte ∷ a) (other ∷ b) x y xs ys c d same = absurd (let odd = c.1 in cc)
completes_same limits p (byte ∷ a) (other ∷ b) x y xs ys c d same =
    let head : byte ≡ other = cc in
    let f = step_first limits p byte a x (λ settled. settled) c in
    let g = step_first limits p byte b y (λ settled. settled) (subst (λ k. Completes limits p (k ∷ b) y) (sym head) d) in
    let there = subst (λ q. Completes limits q b y) (one_place limits p byte g.0 f.0 g.1 f.1) g.2 in
    let found = completes_same limits f.0 a b x y xs ys f.2 there (cc) in
    (rw (head, found.0), found.1, found.2)

-- what some limits let through larger ones do
fields_wide : (count room more : ℕ) (bytes : List ℕ) → room ≤ more → HasFields count room bytes → HasFields count more bytes
fields_wide zero room more bytes wide last = last
fields_wide (suc count) room more bytes wide line =
    line_wide IsField (HasFields count) room more bytes wide (λ left up behind. fields_wide count left up behind) line

line_of_size_wide : (G H : ℕ → List ℕ → Type 0) → ((size : ℕ) (behind : List ℕ) → G size behind → H size behind)
    → (room more : ℕ) (bytes : List ℕ) → room ≤ more → SizeLine G room bytes → SizeLine H more bytes
line_of_size_wide G H on room more bytes wide line = grind (arith, size_as)

module _ (l m : Limits) (line : l.line ≤ m.line) (trailers : l.trailers ≤ m.trailers) where
  chunks_wide : (ps : List (List ℕ)) (size : ℕ) (bytes : List ℕ) → HasChunks l ps size bytes → HasChunks m ps size bytes
  chunks_wide [] size bytes (none, (count, fields)) =
      (none, (count, fields_wide count l.trailers m.trailers bytes trailers fields))
  chunks_wide (p ∷ ps) size bytes (is, some, behind, same, chunks) = (
    is,
    some,
    behind,
    same,
    line_of_size_wide (HasChunks l ps) (HasChunks m ps) (chunks_wide ps) l.line m.line behind line chunks,
  )

  body_wide : (bytes payload : List ℕ) → IsBodyOfChunks l bytes payload → IsBodyOfChunks m bytes payload
  body_wide bytes payload body = grind (arith, line_of_size_wide, chunks_wide)

-- no body begins another
pub IsBodyOfChunks-same : (l m : Limits) (a b p q xs ys : List ℕ) → IsBodyOfChunks l a p → IsBodyOfChunks m b q
    → a ++ xs ≡ b ++ ys
    → (a ≡ b) × (p ≡ q) × (xs ≡ ys)
IsBodyOfChunks-same l m a b p q xs ys h k same =
    let both : Limits = record { line = max l.line m.line; trailers = max l.trailers m.trailers } in
    completes_same both Line a b p q xs ys (body_wide l both (omega arith) (omega arith) a p h)
    (body_wide m both (omega arith) (omega arith) b q k) same
