-- A text is lines that are received.
use Rattle.std.proofs.Common.{◌≡◌, ◌≢◌, ℕ, ◌==◌, ◌⊎◌, List, [], ◌∷◌, ◌++◌, All, Bool, true, false, if◌then◌else◌, inl, inr, refl, sym, ap, subst, ◌∙◌, arith}
use Rattle.std.proofs.lemmas.Bool.{eqb-false, eqb-true}
use Rattle.std.proofs.lemmas.List.Elements.{All-cons, All-nil}
use Rattle.body_reader.specs.ByByte.{CompletesByTurns}
use Rattle.body_reader.specs.declared.by_byte.Turn.TheVariants.{Payload, Passed, Wrong}
use Rattle.tests_bodies.specs.declared.dot_stuffed.Alone.TheVariants as alone
use Rattle.tests_bodies.specs.declared.dot_stuffed.Place.{Place}
use Rattle.tests_bodies.specs.declared.dot_stuffed.Place.TheVariants as at
use Rattle.tests_bodies.specs.DotStuffed.{dot_stuffed, in_line, is_done, turn}
use Rattle.tests_bodies.specs.Lines.{AreLines, IsLine, IsPlain, received, text, without_dot}
use Rattle.tests_bodies.proofs.Received.{differs}

-- the rest of a line, and then lines
pub record InLine (bytes payload : List ℕ) : Type 0 where
  pub line : List ℕ
  pub lines : List (List ℕ)
  pub plain : All IsPlain line
  pub all : All IsLine lines
  pub received : bytes ≡ line ++ 13 ∷ 10 ∷ received lines
  pub text : payload ≡ line ++ 13 ∷ 10 ∷ text lines

-- what is read from a place on
abbrev pub Reads : Place → List ℕ → List ℕ → Type 0
Reads at.Line bytes payload = AreLines bytes payload
Reads at.Within bytes payload = InLine bytes payload
Reads at.Return bytes payload =
    (rest : List ℕ) × (later : List ℕ) × (bytes ≡ 10 ∷ rest) × (payload ≡ 10 ∷ later) × AreLines rest later
Reads at.Dot bytes payload =
    ((bytes ≡ 13 ∷ 10 ∷ []) × (payload ≡ [])) ⊎ ((l : InLine bytes payload) × (l.line ≢ []))
Reads at.LastReturn bytes payload = (bytes ≡ 10 ∷ []) × (payload ≡ [])
Reads at.Done bytes payload = (bytes ≡ []) × (payload ≡ [])

in_line_none : (byte : ℕ) (q : Place) → in_line byte ≢ Passed q
in_line_none byte q is = grind arith

in_line_reads : (byte : ℕ) (q : Place) (rest later : List ℕ) → in_line byte ≡ Payload q → Reads q rest later
    → InLine (byte ∷ rest) (byte ∷ later)
in_line_reads byte q rest later is reads = by_byte_of (byte == 13) (byte == 10) refl refl is
  where
    by_byte_of : (r f : Bool) → (byte == 13) ≡ r → (byte == 10) ≡ f
        → (if r then Payload at.Return else if f then Wrong alone.Feed else Payload at.Within) ≡ Payload q
        → InLine (byte ∷ rest) (byte ∷ later)
    by_byte_of true f a b same =
        let both : Payload at.Return ≡ Payload q = same in
        let here : q ≡ at.Return = cc in
        let next = subst (λ p. Reads p rest later) here reads in
        let return : byte ≡ 13 = eqb-true byte 13 a in
        record {
          line = [];
          lines = next.4.lines;
          plain = All-nil IsPlain;
          all = next.4.all;
          received = ap (λ b. b ∷ rest) return ∙ ap (λ l. 13 ∷ l) (next.2 ∙ ap (λ l. 10 ∷ l) next.4.received);
          text = ap (λ b. b ∷ later) return ∙ ap (λ l. 13 ∷ l) (next.3 ∙ ap (λ l. 10 ∷ l) next.4.text);
        }
    by_byte_of false true a b same = let odd : Wrong alone.Feed ≡ Payload q = same in cc
    by_byte_of false false a b same =
        let both : Payload at.Within ≡ Payload q = same in
        let here : q ≡ at.Within = cc in
        let next : InLine rest later = subst (λ p. Reads p rest later) here reads in
        record {
          line = byte ∷ next.line;
          lines = next.lines;
          plain = All-cons IsPlain byte next.line (eqb-false byte 13 a, eqb-false byte 10 b) next.plain;
          all = next.all;
          received = ap (λ l. byte ∷ l) next.received;
          text = ap (λ l. byte ∷ l) next.text;
        }

without_none : (line : List ℕ) → ((more : List ℕ) → line ≢ 46 ∷ more) → without_dot line ≡ line
without_none [] none = refl
without_none (byte ∷ line) none =
    ap (λ here. if here then line else byte ∷ line) (differs byte 46 (λ same. none line (ap (λ b. b ∷ line) same)))

-- a line that no dot begins
begins : (byte : ℕ) (rest later : List ℕ) → byte ≢ 46 → InLine (byte ∷ rest) (byte ∷ later)
    → AreLines (byte ∷ rest) (byte ∷ later)
begins byte rest later apart l = record {
  lines = l.line ∷ l.lines;
  all = All-cons IsLine l.line l.lines (l.plain, λ one. none [] one) l.all;
  received = l.received;
  text = l.text ∙ ap (λ x. x ++ 13 ∷ 10 ∷ text l.lines) (sym (without_none l.line none));
}
  where
    none : (more : List ℕ) → l.line ≢ 46 ∷ more
    none more is =
        let whole : byte ∷ rest ≡ 46 ∷ (more ++ 13 ∷ 10 ∷ received l.lines) =
        l.received ∙ ap (λ x. x ++ 13 ∷ 10 ∷ received l.lines) is in
        let same : byte ≡ 46 = cc in apart same

kept : (p q : Place) (byte : ℕ) (rest later : List ℕ) → is_done p ≡ false → turn p byte ≡ Payload q → Reads q rest later
    → Reads p (byte ∷ rest) (byte ∷ later)
kept at.Line q byte rest later goes_on is reads = of (byte == 46) refl is
  where
    of : (here : Bool) → (byte == 46) ≡ here → (if here then Passed at.Dot else in_line byte) ≡ Payload q
        → AreLines (byte ∷ rest) (byte ∷ later)
    of true a same = let odd : Passed at.Dot ≡ Payload q = same in cc
    of false a same = begins byte rest later (eqb-false byte 46 a) (in_line_reads byte q rest later same reads)
kept at.Dot q byte rest later goes_on is reads = of (byte == 13) refl is
  where
    of : (here : Bool) → (byte == 13) ≡ here → (if here then Passed at.LastReturn else in_line byte) ≡ Payload q
        → Reads at.Dot (byte ∷ rest) (byte ∷ later)
    of true a same = let odd : Passed at.LastReturn ≡ Payload q = same in cc
    of false a same =
        let l = in_line_reads byte q rest later same reads in
        inr (
          l,
          λ none.
              (let whole : byte ∷ rest ≡ 13 ∷ 10 ∷ received l.lines =
              l.received ∙ ap (λ x. x ++ 13 ∷ 10 ∷ received l.lines) none in
              let return : byte ≡ 13 = cc in eqb-false byte 13 a return),
        )
kept at.Return q byte rest later goes_on is reads = of (byte == 10) refl is
  where
    of : (here : Bool) → (byte == 10) ≡ here → (if here then Payload at.Line else Wrong alone.Return) ≡ Payload q
        → Reads at.Return (byte ∷ rest) (byte ∷ later)
    of true a same =
        let both : Payload at.Line ≡ Payload q = same in
        let here : q ≡ at.Line = cc in
        let feed : byte ≡ 10 = eqb-true byte 10 a in
        (rest, later, ap (λ b. b ∷ rest) feed, ap (λ b. b ∷ later) feed, subst (λ p. Reads p rest later) here reads)
    of false a same = let odd : Wrong alone.Return ≡ Payload q = same in cc
kept at.LastReturn q byte rest later goes_on is reads = absurd (none is)
  where
    none : turn at.LastReturn byte ≢ Payload q
    none same = grind arith
kept at.Within q byte rest later goes_on is reads = in_line_reads byte q rest later is reads
kept at.Done q byte rest later goes_on is reads = let odd : true ≡ false = goes_on in cc

passed : (p q : Place) (byte : ℕ) (rest payload : List ℕ) → is_done p ≡ false → turn p byte ≡ Passed q → Reads q rest payload
    → Reads p (byte ∷ rest) payload
passed at.Line q byte rest payload goes_on is reads = of (byte == 46) refl is
  where
    last : byte ≡ 46 → Reads at.Dot rest payload → AreLines (byte ∷ rest) payload
    last dot (inl next) = record {
      lines = [];
      all = All-nil IsLine;
      received = ap (λ b. b ∷ rest) dot ∙ ap (λ l. 46 ∷ l) next.0;
      text = next.1;
    }
    last dot (inr (l, some)) = record {
      lines = (46 ∷ l.line) ∷ l.lines;
      all = All-cons IsLine (46 ∷ l.line) l.lines (
        All-cons IsPlain 46 l.line (λ same. omega (arith, same), λ same. omega (arith, same)) l.plain,
        λ one. (let none : l.line ≡ [] = cc in some none),
      )
          l.all;
      received = ap (λ b. b ∷ rest) dot ∙ ap (λ x. 46 ∷ x) l.received;
      text = l.text;
    }

    of : (here : Bool) → (byte == 46) ≡ here → (if here then Passed at.Dot else in_line byte) ≡ Passed q
        → AreLines (byte ∷ rest) payload
    of true a same =
        let both : Passed at.Dot ≡ Passed q = same in
        let here : q ≡ at.Dot = cc in last (eqb-true byte 46 a) (subst (λ p. Reads p rest payload) here reads)
    of false a same = absurd (in_line_none byte q same)
passed at.Dot q byte rest payload goes_on is reads = of (byte == 13) refl is
  where
    of : (here : Bool) → (byte == 13) ≡ here → (if here then Passed at.LastReturn else in_line byte) ≡ Passed q
        → Reads at.Dot (byte ∷ rest) payload
    of true a same =
        let both : Passed at.LastReturn ≡ Passed q = same in
        let here : q ≡ at.LastReturn = cc in
        let next = subst (λ p. Reads p rest payload) here reads in
        inl (ap (λ b. b ∷ rest) (eqb-true byte 13 a) ∙ ap (λ l. 13 ∷ l) next.0, next.1)
    of false a same = absurd (in_line_none byte q same)
passed at.LastReturn q byte rest payload goes_on is reads = of (byte == 10) refl is
  where
    of : (here : Bool) → (byte == 10) ≡ here → (if here then Passed at.Done else Wrong alone.Return) ≡ Passed q
        → Reads at.LastReturn (byte ∷ rest) payload
    of true a same =
        let both : Passed at.Done ≡ Passed q = same in
        let here : q ≡ at.Done = cc in
        let next = subst (λ p. Reads p rest payload) here reads in
        (ap (λ b. b ∷ rest) (eqb-true byte 10 a) ∙ ap (λ l. 10 ∷ l) next.0, next.1)
    of false a same = let odd : Wrong alone.Return ≡ Passed q = same in cc
passed at.Return q byte rest payload goes_on is reads = absurd (none is)
  where
    none : turn at.Return byte ≢ Passed q
    none same = grind arith
passed at.Within q byte rest payload goes_on is reads = absurd (in_line_none byte q is)
passed at.Done q byte rest payload goes_on is reads = let odd : true ≡ false = goes_on in cc

pub read : (p : Place) (bytes payload : List ℕ) → CompletesByTurns dot_stuffed p bytes payload → Reads p bytes payload
read at.Done [] payload c = (refl, c.1)
read at.Line [] payload c = let odd : false ≡ true = c.0 in cc
read at.Within [] payload c = let odd : false ≡ true = c.0 in cc
read at.Return [] payload c = let odd : false ≡ true = c.0 in cc
read at.Dot [] payload c = let odd : false ≡ true = c.0 in cc
read at.LastReturn [] payload c = let odd : false ≡ true = c.0 in cc
read p (byte ∷ rest) payload (goes_on, inl c) =
    subst (λ l. Reads p (byte ∷ rest) l) (sym c.3) (kept p c.0 byte rest c.1 goes_on c.2 (read c.0 rest c.1 c.4))
read p (byte ∷ rest) payload (goes_on, inr c) = passed p c.0 byte rest payload goes_on c.1 (read c.0 rest payload c.2)
