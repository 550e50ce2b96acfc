-- Lines that are received are a text.
use Rattle.std.proofs.Common.{◌≡◌, ◌≢◌, ℕ, ◌==◌, List, [], ◌∷◌, ◌++◌, All, Bool, true, false, if◌then◌else◌, inl, inr, refl, ap, ◌∙◌}
use Rattle.std.proofs.lemmas.Bool.{eqb-true}
use Rattle.std.proofs.lemmas.List.Elements.{All-head, All-tail}
use Rattle.std.proofs.lemmas.Bool.Decides.{eqb_tells}
use Rattle.body_reader.specs.ByByte.{CompletesByTurns, by_byte}
use Rattle.body_reader.specs.Coding.{IsBody}
use Rattle.body_reader.specs.declared.by_byte.Turn.TheVariants.{Payload, Passed, Wrong}
use Rattle.tests_bodies.specs.declared.dot_stuffed.Alone.TheVariants as alone
use Rattle.tests_bodies.specs.declared.dot_stuffed.Place.TheVariants as at
use Rattle.tests_bodies.specs.DotStuffed.{dot_stuffed, in_line}
use Rattle.tests_bodies.specs.Lines.{IsLine, IsPlain, received, text, without_dot}

pub differs : (a b : ℕ) → a ≢ b → (a == b) ≡ false
differs a b apart = elim (eqb_tells a b) [ inl same ↦ absurd (apart same.1) | inr other ↦ other.0 ]

-- a byte of a line is payload
module _ (byte : ℕ) (is : IsPlain byte) where
  no_return : (byte == 13) ≡ false
  no_return = differs byte 13 is.0

  in_line_kept : in_line byte ≡ Payload at.Within
  in_line_kept =
      ap (λ here. if here then Payload at.Return else if byte == 10 then Wrong alone.Feed else Payload at.Within) no_return
      ∙ ap (λ here. if here then Wrong alone.Feed else Payload at.Within) (differs byte 10 is.1)

module _ (rest payload : List ℕ) (c : CompletesByTurns dot_stuffed at.Line rest payload) where
  within : (line : List ℕ) → All IsPlain line
      → CompletesByTurns dot_stuffed at.Within (line ++ 13 ∷ 10 ∷ rest) (line ++ 13 ∷ 10 ∷ payload)
  within [] all = (refl, inl (at.Return, 10 ∷ payload, refl, refl, (refl, inl (at.Line, payload, refl, refl, c))))
  within (byte ∷ line) all = (
    refl,
    inl (
      at.Within,
      line ++ 13 ∷ 10 ∷ payload,
      in_line_kept byte (All-head IsPlain byte line all),
      refl,
      within line (All-tail IsPlain byte line all),
    ),
  )

  -- behind the dot that begins a line
  behind_dot : (line : List ℕ) → All IsPlain line → line ≢ []
      → CompletesByTurns dot_stuffed at.Dot (line ++ 13 ∷ 10 ∷ rest) (line ++ 13 ∷ 10 ∷ payload)
  behind_dot [] all some = absurd (some refl)
  behind_dot (byte ∷ line) all some = (
    refl,
    inl (
      at.Within,
      line ++ 13 ∷ 10 ∷ payload,
      ap (λ here. if here then Passed at.LastReturn else in_line byte)
          (no_return byte (All-head IsPlain byte line all)) ∙ in_line_kept byte (All-head IsPlain byte line all),
      refl,
      within line (All-tail IsPlain byte line all),
    ),
  )

  whole : (line : List ℕ) → IsLine line
      → CompletesByTurns dot_stuffed at.Line (line ++ 13 ∷ 10 ∷ rest) (without_dot line ++ 13 ∷ 10 ∷ payload)
  whole [] is = within [] is.0
  whole (byte ∷ line) is = begins (byte == 46) refl
    where
      begins : (here : Bool) → (byte == 46) ≡ here → CompletesByTurns dot_stuffed at.Line ((byte ∷ line) ++ 13 ∷ 10 ∷ rest)
          ((if here then line else byte ∷ line) ++ 13 ∷ 10 ∷ payload)
      begins true same = (
        refl,
        inr (
          at.Dot,
          ap (λ here. if here then Passed at.Dot else in_line byte) same,
          behind_dot line (All-tail IsPlain byte line is.0)
              (λ none. is.1 (ap (λ b. b ∷ line) (eqb-true byte 46 same) ∙ ap (λ l. 46 ∷ l) none)),
        ),
      )
      begins false same = (
        refl,
        inl (
          at.Within,
          line ++ 13 ∷ 10 ∷ payload,
          ap (λ here. if here then Passed at.Dot else in_line byte) same ∙ in_line_kept byte (All-head IsPlain byte line is.0),
          refl,
          within line (All-tail IsPlain byte line is.0),
        ),
      )

pub lines_text : (lines : List (List ℕ)) → All IsLine lines → IsBody (by_byte dot_stuffed) (received lines) (text lines)
lines_text [] all = (refl, inr (at.Dot, refl, (refl, inr (at.LastReturn, refl, (refl, inr (at.Done, refl, (refl, refl)))))))
lines_text (line ∷ lines) all = whole (received lines) (text lines) (lines_text lines (All-tail IsLine line lines all)) line
    (All-head IsLine line lines all)
