-- From each place a body can be completed.
use Rattle.std.proofs.Common.{ℕ, zero, suc, ◌-◌, ◌^◌, ◌<◌, List, [], ◌∷◌, ◌++◌, length, arith, inl, inr, refl}
use Rattle.chunked.specs.Names.{behind_size, BehindSize, Completes, CompletesExtension, Data, DataFeed, Done, Extension, FieldFeed, FieldName, Fields, FieldValue, IsPlace, LastFeed, Limits, Line, line_end, Place, Size, SizeFeed, StepsTo}
use Rattle.chunked.specs.LineLaws.{line_ends}
use Rattle.chunked.specs.StepLaws.{behind_on, step_on}

module _ (limits : Limits) where
  -- bytes with a payload that complete the body from here
  pub record Completed (p : Place) : Type 0 where
    pub rest : List ℕ
    pub payload : List ℕ
    pub completes : Completes limits p rest payload

  -- from where a byte leads to such a place
  before : (p : Place) (b : ℕ) (q : Place) → StepsTo limits p b q → Completed q → Completed p
  before p b q s c = grind (arith, step_on)

  last : Completed LastFeed
  last = record { rest = 10 ∷ []; payload = []; completes = (refl, (refl, refl)) }

  fields : (room : ℕ) → Completed (Fields room)
  fields room = before (Fields room) 13 LastFeed (inl (refl, refl)) last

  value : (room : ℕ) → Completed (FieldValue room)
  value room = before (FieldValue room) 13 (FieldFeed room) (inl (refl, refl))
      (before (FieldFeed room) 10 (Fields room) (refl, refl) (fields room))

  sized : (size : ℕ) → size < 2 ^ 62 → Completed (behind_size limits size) → Completed (SizeFeed size)
  sized size small c = before (SizeFeed size) 10 (behind_size limits size) (refl, small, refl) c

  behind_digits : (number room : ℕ) → number < 2 ^ 62 → Completed (SizeFeed number) → Completed (Size number room)
  behind_digits number room small c = before (Size number room) 13 (SizeFeed number)
      (inr ((λ digit. omega (arith, digit)), small, inl (refl, (0, refl), refl))) c

  line : Completed Line
  line = before Line 48 (Size 0 (limits.line - 1)) (omega arith, refl)
      (behind_digits 0 (limits.line - 1) (omega arith) (sized 0 (omega arith) (fields limits.trailers)))

  data_feed : Completed DataFeed
  data_feed = before DataFeed 10 Line (refl, refl) line

  left_of : (left : ℕ) → Completed (Data left)
  left_of zero = before (Data zero) 13 DataFeed (refl, refl, refl) data_feed
  left_of (suc left) =
      let c = left_of left in record { rest = 0 ∷ c.rest; payload = 0 ∷ c.payload; completes = (c.payload, refl, c.completes) }

  behind : (size : ℕ) → Completed (behind_size limits size)
  behind zero = fields limits.trailers
  behind (suc n) = left_of (suc n)

  pub Completes-some : (p : Place) → IsPlace p → Completed p
  Completes-some Line is = line
  Completes-some (Size number room) is = behind_digits number room is (sized number is (behind number))
  Completes-some (Extension within size room) is = let c = behind size in record {
    rest = is.1.0 ++ line_end c.rest;
    payload = c.payload;
    completes = (
      line_ends (CompletesExtension within) (λ left rest. BehindSize limits size rest c.payload) is.1.0 c.rest room
          (room - length is.1.0) is.1.1 (omega (arith, is.1.2)) (behind_on limits size c.rest c.payload c.completes),
      is.0,
    );
  }
  Completes-some (SizeFeed size) is = sized size is (behind size)
  Completes-some (Data left) is = left_of left
  Completes-some DataFeed is = data_feed
  Completes-some (Fields room) is = fields room
  Completes-some (FieldName room) is =
      before (FieldName room) 58 (FieldValue (room - 1)) (inl (refl, is, refl)) (value (room - 1))
  Completes-some (FieldValue room) is = value room
  Completes-some (FieldFeed room) is = before (FieldFeed room) 10 (Fields room) (refl, refl) (fields room)
  Completes-some LastFeed is = last
  Completes-some Done is = record { rest = []; payload = []; completes = (refl, refl) }
