-- Laws of protocols that the first byte tells apart.
use Rattle.std.specs.Prelude.{◌≡◌, ℕ, zero, suc, ◌<◌, ◌≤◌, ◌==◌, List, [], ◌∷◌, ◌++◌, length, take, max, Bool, true, false, slice_index, MatchBool}
use Rattle.std.proofs.Common.{sym, ap, subst, ◌∙◌, arith, refl}
use Rattle.std.proofs.Math.Nat.{le-max_left, le-max_right}
use Rattle.codec.specs.declared.by_first.EitherWrong.{EitherWrong}
use Rattle.codec.specs.declared.by_first.EitherWrong.TheVariants.{One, Other}
use Rattle.piece_reader.specs.declared.decoder.Found.{Found}
use Rattle.piece_reader.specs.declared.decoder.Found.TheVariants as found
use Rattle.piece_reader.specs.Decoding.{Decodes, bytes_at}
use Rattle.piece_reader.specs.Looking.{LookTells}
use Rattle.codec.specs.FirstByte.{OnFirst, SaidAs, by_first, either, either_looks, found_as, renamed}
use Rattle.piece_reader.specs.Grammar.{Grammar, IsLawful, IsOpen}
use Rattle.piece_reader.specs.GrammarLaws.{open_as, open_none}

-- other words for why bytes are none change nothing else
module _ {V W : Type 0} (f : V → W) (g : Grammar V) where
  pub renamed_lawful : IsLawful g → IsLawful (renamed f g)
  renamed_lawful law = record {
    one = law.one;
    some = law.some;
    room = law.room;
    apart = λ p a more e is wrong. law.apart p a more wrong.0 is wrong.1;
    reason = λ bytes e e' w w'. w.2 ∙ ap f (law.reason bytes w.0 w'.0 w.1 w'.1) ∙ sym w'.2;
    stays = λ bytes more e w. (w.0, law.stays bytes more w.0 w.1, w.2);
    nothing = λ e w. law.nothing w.0 w.1;
    one_last = law.one_last;
    end_apart = λ bytes a e is w. law.end_apart bytes a w.0 is w.1;
  }

  pub open_renamed : (bytes : List ℕ) → IsOpen g bytes → IsOpen (renamed f g) bytes
  open_renamed bytes = open_as g (renamed f g) bytes (λ piece payload is. (payload, is)) (λ e wrong. (wrong.0, wrong.1))

  pub renamed_open : (bytes : List ℕ) → IsOpen (renamed f g) bytes → IsOpen g bytes
  renamed_open bytes = open_as (renamed f g) g bytes (λ piece payload is. (payload, is)) (λ e wrong. (f e, (e, wrong, refl)))

  pub renamed_decodes : (bytes : List ℕ) (is : Found V) → Decodes g bytes is → Decodes (renamed f g) bytes (found_as f is)
  renamed_decodes bytes (found.Piece span used) is = record { inside = is.inside; within = is.within; is = is.is }
  renamed_decodes bytes (found.More n) (few, most, lacks) =
      (few, most, λ more short. open_renamed (bytes ++ more) (lacks more short))
  renamed_decodes bytes (found.Wrong e) is = (e, is, refl)

module _ {W : Type 0} (most : ℕ) (of_byte : ℕ → Grammar W) (room : 0 < most) (laws : (byte : ℕ) → IsLawful (of_byte byte)) where
  one : (p q xs ys a b : List ℕ) → OnFirst (λ byte. (of_byte byte).piece) p a → OnFirst (λ byte. (of_byte byte).piece) q b
      → p ++ xs ≡ q ++ ys → (p ≡ q) × (a ≡ b)
  one [] q xs ys a b is is' same = absurd is
  one (x ∷ p) [] xs ys a b is is' same = absurd is'
  one (x ∷ p) (y ∷ q) xs ys a b is is' same =
      let first : y ≡ x = (let e : x ∷ (p ++ xs) ≡ y ∷ (q ++ ys) = same in cc) in
      (laws x).one (x ∷ p) (y ∷ q) xs ys a b is (subst (λ c. (of_byte c).piece (y ∷ q) b) first is') same

  some : (p a : List ℕ) → OnFirst (λ byte. (of_byte byte).piece) p a → 0 < length p
  some [] a is = absurd is
  some (x ∷ p) a is = omega arith

  apart : (p a more : List ℕ) (e : W) → OnFirst (λ byte. (of_byte byte).piece) p a
      → ¬ (OnFirst (λ byte. (of_byte byte).wrong) (p ++ more) e)
  apart [] a more e is wrong = is
  apart (x ∷ p) a more e is wrong = (laws x).apart (x ∷ p) a more e is wrong

  reason : (bytes : List ℕ) (e e' : W) → OnFirst (λ byte. (of_byte byte).wrong) bytes e
      → OnFirst (λ byte. (of_byte byte).wrong) bytes e' → e ≡ e'
  reason [] e e' w w' = absurd w
  reason (x ∷ bytes) e e' w w' = (laws x).reason (x ∷ bytes) e e' w w'

  stays : (bytes more : List ℕ) (e : W) → OnFirst (λ byte. (of_byte byte).wrong) bytes e
      → OnFirst (λ byte. (of_byte byte).wrong) (bytes ++ more) e
  stays [] more e w = absurd w
  stays (x ∷ bytes) more e w = (laws x).stays (x ∷ bytes) more e w

  one_last : (bytes a b : List ℕ) → OnFirst (λ byte. (of_byte byte).last) bytes a
      → OnFirst (λ byte. (of_byte byte).last) bytes b → a ≡ b
  one_last [] a b is is' = absurd is
  one_last (x ∷ bytes) a b is is' = (laws x).one_last (x ∷ bytes) a b is is'

  end_apart : (bytes a : List ℕ) (e : W) → OnFirst (λ byte. (of_byte byte).last) bytes a
      → ¬ (OnFirst (λ byte. (of_byte byte).cut) bytes e)
  end_apart [] a e is cut = is
  end_apart (x ∷ bytes) a e is cut = (laws x).end_apart (x ∷ bytes) a e is cut

  pub by_first_lawful : IsLawful (by_first most of_byte)
  by_first_lawful = record {
    one = one;
    some = some;
    room = room;
    apart = apart;
    reason = reason;
    stays = stays;
    nothing = λ e w. w;
    one_last = one_last;
    end_apart = end_apart;
  }

  module _ (byte : ℕ) where
    -- what settles nothing of the protocol of its first byte settles nothing, and the other way
    open_first : (bytes : List ℕ) → IsOpen (of_byte byte) (byte ∷ bytes) → IsOpen (by_first most of_byte) (byte ∷ bytes)
    open_first bytes o = record { no_piece = λ b. begins b.piece b.payload b.more b.is b.equal; not_wrong = o.not_wrong }
      where
        begins : (piece payload more : List ℕ) → OnFirst (λ c. (of_byte c).piece) piece payload
            → byte ∷ bytes ≡ piece ++ more → ⊥
        begins [] payload more is equal = is
        begins (x ∷ piece) payload more is equal =
            let first : x ≡ byte = (let e : byte ∷ bytes ≡ x ∷ (piece ++ more) = equal in cc) in
            o.no_piece (record {
              piece = x ∷ piece;
              payload = payload;
              more = more;
              is = subst (λ c. (of_byte c).piece (x ∷ piece) payload) first is;
              equal = equal;
            })

    pub first_open : (bytes : List ℕ) → IsOpen (by_first most of_byte) (byte ∷ bytes) → IsOpen (of_byte byte) (byte ∷ bytes)
    first_open bytes o = record { no_piece = λ b. begins b.piece b.payload b.more b.is b.equal; not_wrong = o.not_wrong }
      where
        begins : (piece payload more : List ℕ) → (of_byte byte).piece piece payload → byte ∷ bytes ≡ piece ++ more → ⊥
        begins [] payload more is equal = omega (arith, (laws byte).some [] payload is)
        begins (x ∷ piece) payload more is equal =
            let first : byte ≡ x = (let e : byte ∷ bytes ≡ x ∷ (piece ++ more) = equal in cc) in
            o.no_piece (record {
              piece = x ∷ piece;
              payload = payload;
              more = more;
              is = subst (λ c. (of_byte c).piece (x ∷ piece) payload) first is;
              equal = equal;
            })

    -- the front that was looked at before
    pub front_open : (seen : ℕ) (bytes : List ℕ) → IsOpen (by_first most of_byte) (take seen (byte ∷ bytes))
        → IsOpen (of_byte byte) (take seen (byte ∷ bytes))
    front_open zero bytes o = open_none (of_byte byte) (laws byte)
    front_open (suc seen) bytes o = first_open (take seen bytes) o

    -- what the decoder of that protocol answers
    pub first_decodes : (of_byte byte).most ≤ most → (bytes : List ℕ) (is : Found W)
        → Decodes (of_byte byte) (byte ∷ bytes) is → Decodes (by_first most of_byte) (byte ∷ bytes) is
    first_decodes fits bytes (found.Piece span used) is =
        record { inside = is.inside; within = is.within; is = front used is.is }
      where
        front : (used : ℕ) → (of_byte byte).piece (take used (byte ∷ bytes)) (bytes_at span (byte ∷ bytes))
            → OnFirst (λ c. (of_byte c).piece) (take used (byte ∷ bytes)) (bytes_at span (byte ∷ bytes))
        front zero is' = absurd (omega (arith, (laws byte).some [] (bytes_at span (byte ∷ bytes)) is'))
        front (suc used') is' = is'
    first_decodes fits bytes (found.More n) (few, room_for, lacks) =
        (few, omega (arith, room_for, fits), λ more short. open_first (bytes ++ more) (lacks more short))
    first_decodes fits bytes (found.Wrong e) is = is

abbrev side : {V W : Type 0} → Grammar V → Grammar W → Bool → Grammar (EitherWrong V W)
side {V} {W} g h is = elim is as (λ _. Grammar (EitherWrong V W)) [
  | true ↦ renamed (λ e. One e) g
  | false ↦ renamed (λ e. Other e) h
]

abbrev one_or : {V W : Type 0} → ℕ → Grammar V → Grammar W → ℕ → Grammar (EitherWrong V W)
one_or byte g h first = side g h (first == byte)

-- what a look tells, by that side
pub looks_by_side : {V W : Type 0} (byte : ℕ) (Ones : LookTells V) (Others : LookTells W) (seen : ℕ)
    (is : Found (EitherWrong V W)) (b : Bool) (bytes : List ℕ) → 0 < length bytes → (slice_index bytes 0 == byte) ≡ b
    → MatchBool b (SaidAs (λ e. One e) (Ones bytes seen) is) (SaidAs (λ e. Other e) (Others bytes seen) is)
    → either_looks byte Ones Others bytes seen is
looks_by_side byte Ones Others seen is b [] some same said = absurd (omega (arith, some))
looks_by_side byte Ones Others seen is b (first ∷ bytes) some same said = subst (λ x. MatchBool x
    (SaidAs (λ e. One e) (Ones (first ∷ bytes) seen) is) (SaidAs (λ e. Other e) (Others (first ∷ bytes) seen) is)) (sym same) said

module _ {V W : Type 0} (byte : ℕ) (g : Grammar V) (h : Grammar W) (one_law : IsLawful g) (other_law : IsLawful h) where
  laws : (first : ℕ) → IsLawful (one_or byte g h first)
  laws first = go (first == byte)
    where
      go : (b : Bool) → IsLawful (side g h b)
      go true = renamed_lawful (λ e. One e) g one_law
      go false = renamed_lawful (λ e. Other e) h other_law

  room : 0 < max g.most h.most
  room = omega (arith, one_law.room, le-max_left g.most h.most)

  pub either_lawful : IsLawful (either byte g h)
  either_lawful = by_first_lawful (max g.most h.most) (one_or byte g h) room laws

  fits : (b : Bool) → (side g h b).most ≤ max g.most h.most
  fits true = le-max_left g.most h.most
  fits false = le-max_right g.most h.most

  -- the protocol of the first byte is that side
  module _ (b : Bool) where
    pub side_open : (bytes : List ℕ) (seen : ℕ) → 0 < length bytes → (slice_index bytes 0 == byte) ≡ b
        → IsOpen (either byte g h) (take seen bytes) → IsOpen (side g h b) (take seen bytes)
    side_open [] seen some is o = absurd (omega (arith, some))
    side_open (first ∷ bytes) seen some is o = subst (λ x. IsOpen (side g h x) (take seen (first ∷ bytes))) is
        (front_open (max g.most h.most) (one_or byte g h) room laws first seen bytes o)

    pub open_all : (bytes : List ℕ) → 0 < length bytes → (slice_index bytes 0 == byte) ≡ b
        → IsOpen (either byte g h) bytes → IsOpen (side g h b) bytes
    open_all [] some is o = absurd (omega (arith, some))
    open_all (first ∷ bytes) some is o = subst (λ x. IsOpen (side g h x) (first ∷ bytes)) is
        (first_open (max g.most h.most) (one_or byte g h) room laws first bytes o)

    pub side_decodes : (bytes : List ℕ) → 0 < length bytes → (slice_index bytes 0 == byte) ≡ b
        → (found : Found (EitherWrong V W)) → Decodes (side g h b) bytes found → Decodes (either byte g h) bytes found
    side_decodes [] some is found decodes = absurd (omega (arith, some))
    side_decodes (first ∷ bytes) some is found decodes =
        first_decodes (max g.most h.most) (one_or byte g h) room laws first (fits (first == byte)) bytes found
        (subst (λ x. Decodes (side g h x) (first ∷ bytes) found) (sym is) decodes)
