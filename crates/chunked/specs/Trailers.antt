-- What a writer of a body is given as trailers, and what it does with them.
use Rattle.std.specs.Prelude.{◌≡◌, ℕ, ◌<◌, ◌⊎◌, List, [], length, map, take, get_or, codes}
use Rattle.std.specs.Char.{to_ascii_lowercase}
use Rattle.std.specs.Borrow.{Bor}
use Rattle.std.specs.List.{AllByRecursion, take_while}
use Rattle.httparse.specs.Grammar.{is_token_byte}
use Rattle.chunked.specs.declared.error.TrailersError.{TrailersError}
use Rattle.chunked.specs.declared.error.TrailersError.TheVariants.{NoField, Framing, TooLong, Due, Io}
use Rattle.chunked.specs.Body.{IsField}
use Rattle.chunked.specs.Chunk.{body_end}

-- the lines in a slice of slices
abbrev pub lines_of : List (Bor (List ℕ)) → List (List ℕ)
lines_of fields = map (λ f. f.now) fields

-- the name of a line of trailers: the token that it begins with
abbrev pub name_in : List ℕ → List ℕ
name_in line = take_while is_token_byte line

-- a line of trailers that says where the body ends, by the name of its field in any case: none may
abbrev pub IsFramingName : List ℕ → Type 0
IsFramingName name = (map to_ascii_lowercase name ≡ codes "content-length")
    ⊎ (map to_ascii_lowercase name ≡ codes "transfer-encoding")

abbrev pub IsFraming : List ℕ → Type 0
IsFraming line = IsField line × IsFramingName (name_in line)

-- a line that trailers may have
abbrev pub IsTrailer : List ℕ → Type 0
IsTrailer line = IsField line × ¬ IsFraming line

-- why a writer doesn't take the end of a body with these trailers in, if so many bytes of a chunk are due and its buffer has this
-- capacity: some are due; or the line of this index is the first that trailers may not have; or all are too long
abbrev pub CannotEnd : ℕ → List (List ℕ) → ℕ → TrailersError → Type 0
CannotEnd due fields capacity (Due count) = (0 < due) × (count ≡ due)
CannotEnd due fields capacity (NoField index) = (due ≡ 0)
    × (index < length fields) × AllByRecursion IsTrailer (take index fields) × ¬ IsField (get_or fields index [])
CannotEnd due fields capacity (Framing index) = (due ≡ 0)
    × (index < length fields) × AllByRecursion IsTrailer (take index fields) × IsFraming (get_or fields index [])
CannotEnd due fields capacity TooLong = (due ≡ 0)
    × AllByRecursion IsTrailer fields × (capacity < length (body_end fields))
CannotEnd due fields capacity (Io e) = ⊥
