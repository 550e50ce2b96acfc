-- The lines of trailers, as far as they were looked at or copied in.
use Rattle.std.proofs.Common.{◌≡◌, ℕ, ◌+◌, ◌<◌, ◌≤◌, List, [], ◌∷◌, ◌++◌, length, take, get_or, slice_index_or, Bor, sym, ap, ◌∙◌, arith, refl, append_assoc, append-nil, length-append, take_all}
use Rattle.chunked.specs.Names.{AllByRecursion, body_end, Buffered, fields_bytes, flat_map, flat_map-append, get_or-map, IsTrailer, length-flat_map-take, length-map, line_end, lines_of, PutsIn, PutsIn-joins, StdPolicy, take_more}

-- a line with its end
abbrev pub ended : List ℕ → List ℕ
ended field = field ++ line_end []

-- the last chunk, and then these lines
abbrev pub front : List (List ℕ) → List ℕ
front fields = 48 ∷ line_end (flat_map ended fields)

ended_lines : (fields : List (List ℕ)) → fields_bytes fields ≡ flat_map ended fields ++ line_end []
ended_lines [] = refl
ended_lines (f ∷ fields) = rw (ended_lines fields) (simp append_assoc)

-- an empty line ends them
pub front_ended : (fields : List (List ℕ)) → front fields ++ line_end [] ≡ body_end fields
front_ended fields = ap (λ l. 48 ∷ line_end l) (sym (ended_lines fields))

pub front_len : (fields : List (List ℕ)) → length (body_end fields) ≡ length (front fields) + 2
front_len fields = ap length (sym (front_ended fields)) ∙ length-append (front fields) (line_end [])

-- one line more
pub front_more : (fields : List (List ℕ)) (i : ℕ) → i < length fields
    → front (take (i + 1) fields) ≡ (front (take i fields) ++ get_or fields i []) ++ line_end []
front_more fields i within = rw (take_more fields i [] within, flat_map-append) (simp (append-nil, append_assoc))

pub front_more_len : (fields : List (List ℕ)) (i : ℕ) → i < length fields
    → length (front (take (i + 1) fields)) ≡ length (front (take i fields)) + length (get_or fields i []) + 2
front_more_len fields i within = grind (arith, front_more, length-append)

-- each of them is a line that trailers may have
one_more : (fields : List (List ℕ)) (field : List ℕ) → AllByRecursion IsTrailer fields → IsTrailer field
    → AllByRecursion IsTrailer (fields ++ field ∷ [])
one_more [] field all is = (is, tt)
one_more (f ∷ fields) field all is = (all.0, one_more fields field all.1 is)

pub lines_more : (fields : List (List ℕ)) (i : ℕ) → i < length fields → AllByRecursion IsTrailer (take i fields)
    → IsTrailer (get_or fields i []) → AllByRecursion IsTrailer (take (i + 1) fields)
lines_more fields i within all is =
    rw (take_more fields i [] within) (one_more (take i fields) (get_or fields i []) all is)

-- the line of an index, in a slice of slices
pub line_at : (fields : List (Bor (List ℕ))) (i : ℕ) → i < length fields
    → (slice_index_or fields i (record { ref_ptr = (0, 0); now = [] })).now ≡ get_or (lines_of fields) i []
line_at fields i within = sym (get_or-map (λ f. f.now) fields i (record { ref_ptr = (0, 0); now = [] }) [] within)

pub inside : (fields : List (Bor (List ℕ))) (i : ℕ) → i < length fields → i < length (lines_of fields)
inside fields i within = omega (arith, within, length-map fields (λ f. f.now))

-- for which there is room behind the lines in front, and then for the empty line
pub line_fits : (fields : List (Bor (List ℕ))) (i : ℕ) → i < length fields → length (front (take i (lines_of fields)))
    + length (slice_index_or fields i (record { ref_ptr = (0, 0); now = [] })).now + 4 ≤ length (body_end (lines_of fields))
line_fits fields i within =
    let lines = lines_of fields in
    omega (
      arith,
      front_len lines,
      length-flat_map-take ended lines i [] (inside fields i within),
      length-append (get_or lines i []) (line_end []),
      ap length (line_at fields i within),
    )

pub all_lines : (fields : List (Bor (List ℕ))) (i : ℕ) → length fields ≤ i → take i (lines_of fields) ≡ lines_of fields
all_lines fields i past = take_all i (lines_of fields) (omega (arith, past, length-map fields (λ f. f.now)))

module _ {S : Type 0} where
  -- one more line was copied in, with its end
  pub line_in : (s m n t : Buffered S StdPolicy) (fields : List (List ℕ)) (i : ℕ) (line : List ℕ) → i < length fields
      → line ≡ get_or fields i [] → PutsIn s (front (take i fields)) m → PutsIn m line n → PutsIn n (line_end []) t
      → PutsIn s (front (take (i + 1) fields)) t
  line_in s m n t fields i line within is so_far puts ends =
      rw (front_more fields i within, ← is)
      (PutsIn-joins s n t (front (take i fields) ++ line) (line_end [])
      (PutsIn-joins s m n (front (take i fields)) line so_far puts) ends)

  -- the empty line was copied in behind all lines
  pub end_in : (s m t : Buffered S StdPolicy) (fields so_far : List (List ℕ)) → so_far ≡ fields → PutsIn s (front so_far) m
      → PutsIn m (line_end []) t → PutsIn s (body_end fields) t
  end_in s m t fields so_far all puts ends =
      rw (← front_ended fields, ← all) (PutsIn-joins s m t (front so_far) (line_end []) puts ends)
