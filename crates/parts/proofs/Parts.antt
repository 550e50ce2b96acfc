-- Parts, one after another.
use Rattle.std.proofs.Common.{◌≡◌, length, Bool, ℕ, ◌+◌, List, [], ◌∷◌, ◌++◌, Option, Result, Ok, Err, true, false, ◌⊎◌, inl, inr, sym, ap, subst, ◌∙◌, refl, arith}
use Rattle.body_reader.specs.Between.{EachGave}
use Rattle.body_reader.specs.BetweenLaws.{EachGave-joins, EachGave-none, StopsFor-after}
use Rattle.body_reader.specs.BodyReader.{NoPayload, TookWholeBody, handed_of}
use Rattle.buffer_redux.specs.BufReader.{ReadsInOrder}
use Rattle.buffer_redux.specs.Buffered.{Buffered}
use Rattle.buffer_redux.specs.Policy.{std_read_rules}
use Rattle.buffer_redux.specs.ReaderLaws.{ReadsInOrder-none}
use Rattle.buffer_redux.specs.declared.policy.StdPolicy.{StdPolicy}
use Rattle.multipart.specs.declared.error.PartError.{PartError}
use Rattle.multipart.specs.declared.reader.Stand.TheVariants.{Preamble, Part}
use Rattle.multipart.specs.Multipart.{FormState, NextPart, codes}
use Rattle.buffer_redux.specs.StreamLog.{StreamLog}
use Rattle.parts.specs.declared.error.RunError.{RunError}
use Rattle.parts.specs.declared.error.RunError.TheVariants as Run
use Rattle.parts.specs.Sections.{BehindText, InText, InTurns, LastWhole, SaysName, NextFails, NoneNamed, PassedAll, PutsBytes, TakesText, TextEnds, TextFails, TookText, Turn, WroteNamed, written}
use Rattle.parts.proofs.Passing.{ComesBehind, inside_on, next_behind, next_comes, text_behind}

-- so many parts began
pub record PartsSoFar {S : Type 0} (s : FormState S StdPolicy) (count : ℕ) (turns : List Turn) (t : FormState S StdPolicy)
    : Type 0 where
  pub before : List ℕ
  pub many : count ≡ length turns
  pub inside : InText s.body.coding s.other s.body.reader turns before t
  pub gave : EachGave s.body.reader t.body.reader
  pub limits : t.limits ≡ s.limits

pub parts_none : {S : Type 0} (s : FormState S StdPolicy) → s.stand ≡ Preamble → s.parts ≡ 0 → s.body.taken ≡ []
    → PartsSoFar s 0 [] s
parts_none s stands none begins = record {
  before = [];
  many = refl;
  inside = record {
    stands = inl stands;
    coding = refl;
    other = refl;
    counted = none;
    parts = refl;
    order = subst (λ l. ReadsInOrder s.body.reader l s.body.reader) (sym begins) (ReadsInOrder-none s.body.reader);
  };
  gave = EachGave-none s.body.reader;
  limits = refl;
}

-- what comes of going on behind them, of which the last has this text
abbrev pub Next : {S : Type 0} → FormState S StdPolicy → ℕ → List Turn → List ℕ → Result Bool PartError
    → FormState S StdPolicy → Type 0
Next s count turns text (Ok true) t = PartsSoFar s (count + 1) (record { text = text; head = t.head } ∷ turns) t
    × (handed_of t.body ≡ []) × (t.stand ≡ Part)
Next s count turns text (Ok false) t = PassedAll s.body.coding s.other s.body.reader turns text t.body.reader
Next s count turns text (Err e) t = NextFails s.body.coding s.other s.body.reader turns text s.limits e t

module _ {S : Type 0} (remaining : S → Option (List ℕ)) {s m : FormState S StdPolicy} {count : ℕ} {turns : List Turn}
    (so : PartsSoFar s count turns m) where
  next_is : (text : List ℕ) (answer : Result Bool PartError) (t : FormState S StdPolicy)
      → ComesBehind s.body.coding s.other s.body.reader turns text m.limits answer t → Next s count turns text answer t
  next_is text (Ok true) t (more, inside, gave, fresh, stands, limits) = (
    record {
      before = more;
      many = omega (arith, so.many);
      inside = inside;
      gave = gave;
      limits = limits ∙ so.limits;
    },
    fresh,
    stands,
  )
  next_is text (Ok false) t passed = passed
  next_is text (Err e) t fails =
      subst (λ l. NextFails s.body.coding s.other s.body.reader turns text l e t) so.limits fails

  pub comes : (answer : Result Bool PartError) (t : FormState S StdPolicy)
      → NextPart remaining std_read_rules m.stand m answer t
      → (text : List ℕ) × (TookWholeBody (codes s.body.coding) m.body → text ≡ handed_of m.body)
      × Next s count turns text answer t
  comes answer t next =
      let c = next_comes remaining s.body.coding s.other s.body.reader turns so.before m so.inside so.gave answer t next in (
        c.0,
        λ whole. c.1 (subst (λ x. TookWholeBody (codes x) m.body) (sym so.inside.coding) whole),
        next_is c.0 answer t c.2,
      )

  -- where the last text ended it stays whole: in front of the next boundary, and where no part comes
  pub last_whole : (turns ≡ []) ⊎ TookWholeBody (codes s.body.coding) m.body → LastWhole s turns (handed_of m.body) m
  last_whole (inl none) = inl none
  last_whole (inr whole) = inr (
    [],
    text_behind remaining s.body.coding s.other s.body.reader turns so.before m so.inside so.gave whole,
  )

  pub fails_whole : (turns ≡ []) ⊎ TookWholeBody (codes s.body.coding) m.body → (text : List ℕ)
      → (TookWholeBody (codes s.body.coding) m.body → text ≡ handed_of m.body) → (e : PartError) (t : FormState S StdPolicy)
      → NextPart remaining std_read_rules m.stand m (Err e) t → LastWhole s turns text t
  fails_whole (inl none) text same e t next = inl none
  fails_whole (inr whole) text same e t next = inr (
      subst (λ l. (wire : List ℕ) × BehindText s.body.coding s.other s.body.reader turns l wire t.body.reader)
      (sym (same whole))
      (next_behind remaining s.body.coding s.other s.body.reader turns so.before m so.inside so.gave e t next
      (subst (λ c. TookWholeBody (codes c) m.body) (sym so.inside.coding) whole))
      )

  -- taking text stays in the part
  module _ {t : FormState S StdPolicy} {payload : List ℕ} (took : TookText remaining m payload t) where
    abbrev pub still_inside : InTurns s turns t
    still_inside = (
      so.before,
      inside_on remaining s.body.coding s.other s.body.reader turns so.before m t payload so.inside took.within took.went,
    )

    pub parts_on : EachGave m.body.reader t.body.reader → PartsSoFar s count turns t
    parts_on gave = record {
      before = so.before;
      many = so.many;
      inside = still_inside.1;
      gave = EachGave-joins s.body.reader m.body.reader t.body.reader so.gave gave;
      limits = ap (λ x. x.limits) took.within ∙ so.limits;
    }

    -- from its first byte on
    module _ (fresh : handed_of m.body ≡ []) where
      pub all_handed : payload ≡ handed_of t.body
      all_handed = sym (took.went.handed ∙ ap (λ l. l ++ payload) fresh)

      pub fails_on : (e : RunError) → TextFails m payload e t → TextFails s (handed_of t.body) e t
      fails_on (Run.Body w) none = StopsFor-after _ _ _ s.body.reader m.body.reader t.body.reader so.gave w
          (subst (λ c. NoPayload (codes c) m.body w t.body) so.inside.coding none)
      fails_on (Run.Write e) gave = EachGave-joins s.body.reader m.body.reader t.body.reader so.gave gave
      fails_on Run.Many many = (
        EachGave-joins s.body.reader m.body.reader t.body.reader so.gave many.0,
        omega (arith, many.1, ap length all_handed),
      )
      fails_on (Run.Parts w) none = absurd none
      fails_on Run.Missing none = absurd none

      pub ends_on : {A : Type 0} (answer : Result A RunError) → TextEnds m payload answer t
          → TextEnds s (handed_of t.body) answer t
      ends_on (Ok x) ends = (
        subst (λ c. TookWholeBody (codes c) t.body) so.inside.coding ends.0,
        EachGave-joins s.body.reader m.body.reader t.body.reader so.gave ends.1,
      )
      ends_on (Err e) fails = fails_on e fails

-- the text of a part that was just begun was written
pub wrote : {S T : Type 0} (remaining : S → Option (List ℕ)) (tells : T → StreamLog) (trace : T → T → Type 0) {name : List ℕ}
    {s m t : FormState S StdPolicy} {count : ℕ} {turn : Turn} {earlier : List Turn} {u v : Buffered T StdPolicy}
    {answer : Result ℕ RunError} → PartsSoFar s count (turn ∷ earlier) m → handed_of m.body ≡ [] → SaysName name turn.head
    → NoneNamed name earlier → TakesText remaining tells trace true m u answer t v → WroteNamed tells trace name s u answer t v
wrote remaining tells trace {u = u} {v = v} {answer = answer} so fresh named none takes = record {
  named = record {
    turn = _;
    earlier = _;
    inside = still_inside remaining so takes.took;
    named = named;
    first = none;
  };
  ends = ends_on remaining so takes.took fresh answer takes.ends;
  puts = subst (λ l. PutsBytes tells trace u l (written answer) v) (all_handed remaining so takes.took fresh) takes.puts;
}
