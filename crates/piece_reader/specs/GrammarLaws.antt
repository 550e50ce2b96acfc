-- Laws of grammars.
use Rattle.std.specs.Prelude.{◌≡◌, ◌≢◌, ℕ, ◌+◌, ◌<◌, List, [], ◌∷◌, ◌++◌, length, take, drop}
use Rattle.std.proofs.Common.{sym, ap, subst, ◌∙◌, arith, refl, length-append, append-nil}
use Rattle.std.proofs.lemmas.List.{nil_from_length, take-append-drop}
use Rattle.piece_reader.specs.declared.decoder.Span.{Span}
use Rattle.piece_reader.specs.Decoding.{IsPiece, bytes_at}
use Rattle.piece_reader.specs.Grammar.{Grammar, Begins, IsLawful, IsOpen, IsOpenBelow}

pub take_zero : (bytes : List ℕ) → take 0 bytes ≡ []
take_zero [] = refl
take_zero (b ∷ bytes) = refl

-- where nothing was looked at the note is that before the first byte
pub noted_none : {N : Type 0} (Notes : List ℕ → N → Type 0) (bytes : List ℕ) (note : N) → Notes [] note
    → Notes (take 0 bytes) note
noted_none Notes bytes note = subst (λ l. Notes l note) (sym (take_zero bytes))

-- what settles nothing does so under other rules that call no more bytes a piece, or wrong
pub open_as : {V W : Type 0} (g : Grammar V) (h : Grammar W) (bytes : List ℕ)
    → ((piece payload : List ℕ) → h.piece piece payload → (shown : List ℕ) × g.piece piece shown)
    → ((e : W) → h.wrong bytes e → (why : V) × g.wrong bytes why) → IsOpen g bytes → IsOpen h bytes
open_as g h bytes pieces wrongs o = record {
  no_piece = λ b.
      let is = pieces b.piece b.payload b.is in
      o.no_piece (record { piece = b.piece; payload = is.0; more = b.more; is = is.1; equal = b.equal });
  not_wrong = λ e w. (let was = wrongs e w in o.not_wrong was.0 was.1);
}

module _ {W : Type 0} (g : Grammar W) where
  -- nothing settles nothing
  pub open_none : IsLawful g → IsOpen g []
  open_none law = record {
    no_piece = λ b. absurd (omega (
      arith,
      law.some b.piece b.payload b.is,
      ap length b.equal,
      length-append b.piece b.more,
    ));
    not_wrong = law.nothing;
  }

  pub open_take : IsLawful g → (bytes : List ℕ) → IsOpen g (take 0 bytes)
  open_take law bytes = subst (IsOpen g) (sym (take_zero bytes)) (open_none law)

  -- what lacks bytes is open
  pub open_of : (n : ℕ) (bytes : List ℕ) → length bytes < n → IsOpenBelow g n bytes → IsOpen g bytes
  open_of n bytes few lacks =
      let same = append-nil bytes in
      subst (IsOpen g) same (lacks [] (omega (arith, few, ap length same)))

  -- what comes of what lacks bytes is open, while it is too short
  pub open_with : (n : ℕ) (bytes more all : List ℕ) → all ≡ bytes ++ more → length all < n → IsOpenBelow g n bytes → IsOpen g all
  open_with n bytes more all is few lacks =
      subst (IsOpen g) (sym is) (lacks more (omega (arith, few, ap length is)))

  -- what is open lacks a byte
  pub lacks_one : (bytes : List ℕ) → IsOpen g bytes → IsOpenBelow g (1 + length bytes) bytes
  lacks_one bytes is more few =
      let none : more ≡ [] = nil_from_length more (omega (arith, few, length-append bytes more)) in
      subst (IsOpen g) (sym (ap (λ l. bytes ++ l) none ∙ append-nil bytes)) is

  -- the beginning of no piece has a byte
  pub wrong_some : IsLawful g → (bytes : List ℕ) (e : W) → g.wrong bytes e → 0 < length bytes
  wrong_some law [] e wrong = absurd (law.nothing e wrong)
  wrong_some law (b ∷ bytes) e wrong = omega arith

  -- what begins with a piece isn't open, whatever comes behind
  pub open_not : (piece payload more : List ℕ) → g.piece piece payload → ¬ (IsOpen g (piece ++ more))
  open_not piece payload more is open' =
      open'.no_piece (record { piece = piece; payload = payload; more = more; is = is; equal = refl })

  -- where a piece was found, the bytes begin with it
  pub begins_of : (bytes : List ℕ) (span : Span) (used : ℕ) → IsPiece g bytes span used → Begins g bytes
  begins_of bytes span used found = record {
    piece = take used bytes;
    payload = bytes_at span bytes;
    more = drop used bytes;
    is = found.is;
    equal = sym (take-append-drop used bytes);
  }

  -- and these are some
  pub begins_none : IsLawful g → {bytes : List ℕ} → Begins g bytes → bytes ≢ []
  begins_none law begins none = (open_none law).no_piece (subst (Begins g) none begins)
