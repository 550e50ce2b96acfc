-- From the text of a part to the next part.
use Rattle.std.proofs.Common.{◌≡◌, ◌<◌, length, length-append, Bool, ℕ, List, [], ◌∷◌, ◌++◌, if◌then◌else◌, Option, Result, Ok, Err, true, false, inl, inr, ◌⊎◌, sym, ap, subst, ◌∙◌, refl, arith, append-nil, append_assoc}
use Rattle.std.proofs.lemmas.Bool.{leb-false, leb-true}
use Rattle.body_reader.specs.declared.error.BodyError.{BodyError}
use Rattle.body_reader.specs.declared.error.BodyError.TheVariants as why
use Rattle.body_reader.specs.declared.error.CollectError.{CollectError}
use Rattle.body_reader.specs.declared.error.CollectError.TheVariants as cause
use Rattle.body_reader.specs.declared.just_or_until.JustOr.{JustOr}
use Rattle.body_reader.specs.declared.just_or_until.JustOrUntil.{JustOrUntil}
use Rattle.body_reader.specs.Between.{EachGave}
use Rattle.body_reader.specs.BetweenLaws.{EachGave-joins, FaultedOnce-after, GaveNothingOnce-after}
use Rattle.body_reader.specs.BodyReader.{BodyState, BodyWent, Drains, IsBodyReader, NoPayload, TookWholeBody, handed_of}
use Rattle.body_reader.specs.Coding.{IsBody}
use Rattle.buffer_redux.specs.BufReader.{ReadsInOrder}
use Rattle.buffer_redux.specs.Buffered.{Buffered}
use Rattle.buffer_redux.specs.Policy.{std_read_rules}
use Rattle.buffer_redux.specs.ReaderLaws.{ReadsInOrder-joins}
use Rattle.buffer_redux.specs.declared.policy.StdPolicy.{StdPolicy}
use Rattle.multipart.specs.declared.error.PartError.{PartError}
use Rattle.multipart.specs.declared.reader.Limits.{Limits}
use Rattle.multipart.specs.declared.reader.Stand.TheVariants.{Preamble, Head, Part}
use Rattle.multipart.specs.Head.{IsPartHead}
use Rattle.multipart.specs.Multipart.{CollectsHead, EndsHead, FormState, GoesOnFromHead, NextPart, PassesText, TurnsLast, codes, head_error, head_most, is_full, part_error, turned}
use Rattle.parts.specs.Sections.{BehindText, InHead, InSection, InText, NextFails, PassedAll, Turn}

-- what comes of going on behind a text
abbrev pub ComesBehind : {S : Type 0} → JustOrUntil → JustOrUntil → Buffered S StdPolicy → List Turn → List ℕ → Limits
    → Result Bool PartError → FormState S StdPolicy → Type 0
ComesBehind texts heads first turns text limits (Ok true) t = (more : List ℕ)
    × InText texts heads first (record { text = text; head = t.head } ∷ turns) more t × EachGave first t.body.reader
    × (handed_of t.body ≡ []) × (t.stand ≡ Part) × (t.limits ≡ limits)
ComesBehind texts heads first turns text limits (Ok false) t = PassedAll texts heads first turns text t.body.reader
ComesBehind texts heads first turns text limits (Err e) t = NextFails texts heads first turns text limits e t

abbrev Body : Type 0 → Type 0
Body S = BodyState S StdPolicy JustOrUntil JustOr

module _ {S : Type 0} (remaining : S → Option (List ℕ)) where
  -- what was taken so far came in order
  pub order_on : (first : Buffered S StdPolicy) (before : List ℕ) (c : JustOrUntil) (s t : Body S) (payload : List ℕ)
      → BodyWent remaining std_read_rules (codes c) s payload t → ReadsInOrder first (before ++ s.taken) s.reader
      → ReadsInOrder first (before ++ t.taken) t.reader
  order_on first before c s t payload went order =
      subst (λ l. ReadsInOrder first l t.reader)
      (append_assoc before s.taken went.wire ∙ ap (λ l. before ++ l) (sym went.taken))
      (ReadsInOrder-joins first s.reader t.reader (before ++ s.taken) went.wire order went.along.in_order)

module _ {S : Type 0} (remaining : S → Option (List ℕ)) (texts heads : JustOrUntil) (first : Buffered S StdPolicy)
    (turns : List Turn) where
  -- why no payload came, as an error of the whole
  no_payload : (text : List ℕ) (s : Body S) (t : FormState S StdPolicy) (w : BodyError (Unit {0})) (most : Limits)
      → InSection texts heads first turns text t → EachGave first s.reader → NoPayload (codes t.body.coding) s w t.body
      → NextFails texts heads first turns text most (part_error w) t
  no_payload text s t (why.Wrong x right) most inside gave none = absurd (none.2.name)
  no_payload text s t (why.Truncated right) most inside gave none =
      (inside, none.2, GaveNothingOnce-after first s.reader t.body.reader gave none.1)
  no_payload text s t (why.Io e) most inside gave none =
      (inside, inl (none.1, FaultedOnce-after first s.reader t.body.reader gave e none.0))

  -- calls in the text stay in it
  pub inside_on : (before : List ℕ) (m t : FormState S StdPolicy) (payload : List ℕ)
      → InText texts heads first turns before m → t ≡ record m { body = t.body }
      → BodyWent remaining std_read_rules (codes m.body.coding) m.body payload t.body
      → InText texts heads first turns before t
  inside_on before m t payload is within went = record {
    stands = subst (λ x. (x ≡ Preamble) ⊎ (x ≡ Part)) (sym (ap (λ x. x.stand) within)) is.stands;
    coding = went.coding ∙ is.coding;
    other = ap (λ x. x.other) within ∙ is.other;
    counted = ap (λ x. x.parts) within ∙ is.counted;
    parts = is.parts;
    order = order_on remaining first before m.body.coding m.body t.body payload went is.order;
  }

  module _ (before : List ℕ) (s : FormState S StdPolicy) (is : InText texts heads first turns before s)
      (gave : EachGave first s.body.reader) where
    -- where the text ended, the reader is behind it
    pub text_behind : TookWholeBody (codes texts) s.body
        → BehindText texts heads first turns (handed_of s.body) [] s.body.reader
    text_behind whole = record {
      before = before;
      bytes = s.body.taken;
      parts = is.parts;
      whole = whole;
      order = subst (λ l. ReadsInOrder first (before ++ l) s.body.reader) (sym (append-nil s.body.taken)) is.order;
    }

    -- a text that doesn't end
    text_fails : (w : BodyError (Unit {0})) (t : FormState S StdPolicy) → t ≡ record s { body = t.body }
        → Drains remaining std_read_rules (codes s.body.coding) s.body (Err w) t.body
        → NextFails texts heads first turns (handed_of t.body) s.limits (part_error w) t
    text_fails w t within drains =
        let text = handed_of t.body in
        let inside : InSection texts heads first turns text t =
        inl (before, inside_on before s t drains.payload is within drains.takes.went, refl) in
        elim drains.answers [
          | inl none ↦ no_payload text s.body t w s.limits inside gave
              (subst (λ c. NoPayload (codes c) s.body w t.body) (sym drains.takes.went.coding) none)
          | inr many ↦ subst (λ x. NextFails texts heads first turns text s.limits (part_error x) t) (sym many.1) (
            inside,
            inr (
              many.2,
              omega (
                arith,
                many.3,
                ap length drains.takes.went.handed,
                length-append (handed_of s.body) drains.payload,
              ),
              EachGave-joins first s.body.reader t.body.reader gave many.4,
            ),
          )
        ]

    module _ (b : Body S) (h : JustOrUntil) (drains : Drains remaining std_read_rules (codes s.body.coding) s.body (Ok tt) b)
        (last : TurnsLast (is_full s) s.other h) where
      abbrev behind : FormState S StdPolicy
      behind = turned (record s { body = b; head = []; other = h }) Head

      text_whole : IsBody (codes texts) b.taken (handed_of b)
      text_whole = subst (λ c. TookWholeBody (codes c) b) is.coding drains.answers.1

      text_gave : EachGave first b.reader
      text_gave = EachGave-joins first s.body.reader b.reader gave drains.answers.0

      boundary : b.coding.until.delimiter ≡ texts.until.delimiter
      boundary = ap (λ c. c.until.delimiter) (drains.takes.went.coding ∙ is.coding)

      -- what comes of going on behind the text
      abbrev Comes : Result Bool PartError → FormState S StdPolicy → Type 0
      Comes answer t = ComesBehind texts heads first turns (handed_of b) s.limits answer t

      still_heads : (full : Bool) → is_full s ≡ full → TurnsLast full s.other h → s.parts < s.limits.parts → h ≡ s.other
      still_heads true is' last' less = absurd (omega (arith, leb-true _ _ is', less))
      still_heads false is' last' less = last'

      none : is_full s ≡ true → head_most behind ≡ 0
      none is' = ap (λ f. if f then 0 else s.limits.head) is'

      few : is_full s ≡ false → head_most behind ≡ s.limits.head
      few is' = ap (λ f. if f then 0 else s.limits.head) is'

      -- a head, which is whole or not
      module _ {answer : Result (Unit {0}) (CollectError (Unit {0}))} {t : FormState S StdPolicy}
          (head : CollectsHead remaining std_read_rules behind answer t) where
        said_is : t.head ≡ handed_of t.body
        said_is = head.1.collected ∙ sym head.1.takes.went.handed

        head_order : ReadsInOrder first ((before ++ b.taken) ++ t.body.taken) t.body.reader
        head_order = order_on remaining first (before ++ b.taken) h behind.body t.body head.1.payload head.1.takes.went
            (subst (λ l. ReadsInOrder first l b.reader) (sym (append-nil (before ++ b.taken)))
            (order_on remaining first before s.body.coding s.body b drains.payload drains.takes.went is.order))

        abbrev behind_text : BehindText texts heads first turns (handed_of b) t.body.taken t.body.reader
        behind_text = record {
          before = before;
          bytes = b.taken;
          parts = is.parts;
          whole = text_whole;
          order = subst (λ l. ReadsInOrder first l t.body.reader) (append_assoc before b.taken t.body.taken) head_order;
        }

        head_gave : EachGave b.reader t.body.reader → EachGave first t.body.reader
        head_gave gave' = EachGave-joins first b.reader t.body.reader text_gave gave'

        stops : (w : BodyError (Unit {0})) → NoPayload (codes h) behind.body w t.body → Comes (Err (part_error w)) t
        stops w none = no_payload (handed_of b) behind.body t w s.limits (inr behind_text) text_gave
            (subst (λ c. NoPayload (codes c) behind.body w t.body) (sym head.1.takes.went.coding) none)

        in_head : 0 < t.body.known → EachGave b.reader t.body.reader → InHead texts heads first turns (handed_of b) t
        in_head some gave' = record {
          behind = behind_text;
          coding = subst (λ x. TurnsLast (is_full x) heads t.body.coding) (sym head.0)
              (subst (λ c. TurnsLast (is_full s) heads c) (sym head.1.takes.went.coding)
              (subst (λ c. TurnsLast (is_full s) c h) is.other last));
          inside = subst (λ c. IsBodyReader (codes c) t.body) (sym head.1.takes.went.coding) head.1.takes.whole;
          some = some;
          gave = head_gave gave';
        }

      fails : (full : Bool) → is_full s ≡ full → (why : CollectError (Unit {0})) (t : FormState S StdPolicy)
          → CollectsHead remaining std_read_rules behind (Err why) t → Comes (Err (head_error full why)) t
      fails full is' (cause.Body w) t head = stops head w head.1.ends
      fails true is' cause.TooLong t head =
          (in_head head head.1.ends.1 head.1.ends.0, omega (arith, leb-true _ _ is', is.counted))
      fails false is' cause.TooLong t head = (
        in_head head head.1.ends.1 head.1.ends.0,
        omega (arith, leb-false _ _ is', is.counted),
        omega (arith, head.1.ends.2, few is', ap length (said_is head)),
      )
      fails true is' cause.Memory t head = absurd (omega (arith, head.1.ends.1, head.1.ends.2, none is'))
      fails false is' cause.Memory t head = (
        in_head head head.1.ends.1 head.1.ends.0,
        omega (arith, leb-false _ _ is', is.counted),
        omega (arith, head.1.ends.2, few is', ap length (said_is head)),
      )
      fails true is' cause.Refused t head = absurd (omega (arith, head.1.ends.1, head.1.ends.2, none is'))
      fails false is' cause.Refused t head = (
        in_head head head.1.ends.1 head.1.ends.0,
        omega (arith, leb-false _ _ is', is.counted),
        omega (arith, head.1.ends.2, few is', ap length (said_is head)),
        rw (← boundary, ← said_is head) head.1.ends.3,
      )

      module _ {m : FormState S StdPolicy} (head : CollectsHead remaining std_read_rules behind (Ok tt) m) where
        ends : (more : Bool) (t : FormState S StdPolicy) → EndsHead m more t → Comes (Ok more) t
        ends true t end =
            let same = still_heads (is_full s) refl last
            (omega (arith, end.1, ap (λ x. x.parts) head.0, ap (λ x. x.limits.parts) head.0)) ∙ is.other in
            subst (Comes (Ok true)) (sym end.2) (
              (before ++ b.taken) ++ m.body.taken,
              record {
                stands = inr refl;
                coding = ap (λ x. x.other) head.0 ∙ drains.takes.went.coding ∙ is.coding;
                other = head.1.takes.went.coding ∙ same;
                counted = omega (arith, is.counted, ap (λ x. x.parts) head.0);
                parts = (
                  before,
                  b.taken,
                  m.body.taken,
                  append_assoc before b.taken m.body.taken,
                  is.parts,
                  text_whole,
                  record {
                    whole = rw (said_is head)
                        (subst (λ c. TookWholeBody (codes c) m.body) same head.1.ends.1);
                    is_head = subst (λ d. IsPartHead d m.head) boundary head.1.allowed;
                    no_end = end.0;
                  },
                );
                order = subst (λ l. ReadsInOrder first l m.body.reader) (sym (append-nil ((before ++ b.taken) ++ m.body.taken)))
                    (head_order head);
              },
              head_gave head head.1.ends.0,
              refl,
              refl,
              ap (λ x. x.limits) head.0,
            )
        ends false t end = subst (Comes (Ok false)) (sym end.1) (
          subst (λ l. BehindText texts heads first turns (handed_of b) l m.body.reader) end.0 (behind_text head),
          head_gave head head.1.ends.0,
        )

      goes_on : (answer : Result Bool PartError) (t : FormState S StdPolicy)
          → GoesOnFromHead remaining std_read_rules behind answer t → Comes answer t
      goes_on (Ok more) t (m, head, end) = ends head more t end
      goes_on (Err e) t (why, is', head) = subst (λ x. Comes (Err x) t) (sym is') (fails (is_full s) refl why t head)

    -- what comes of going on to the next part: the text is this, and where it had ended it is what had come
    abbrev NextComes : Result Bool PartError → FormState S StdPolicy → Type 0
    NextComes answer t = (text : List ℕ) × (TookWholeBody (codes s.body.coding) s.body → text ≡ handed_of s.body)
        × ComesBehind texts heads first turns text s.limits answer t

    passes : (answer : Result Bool PartError) (t : FormState S StdPolicy)
        → PassesText remaining std_read_rules s answer t → NextComes answer t
    passes answer t (inl (b, h, drains, last, goes)) =
        (handed_of b, (λ whole. ap handed_of (drains.takes.ended whole)), goes_on b h drains last answer t goes)
    passes answer t (inr (w, same, within, drains)) = (
      handed_of t.body,
      (λ whole. ap handed_of (drains.takes.ended whole)),
      subst (λ x. ComesBehind texts heads first turns (handed_of t.body) s.limits x t) (sym same) (text_fails w t within drains),
    )

    -- also what fails is behind a text that had ended
    passes_behind : (e : PartError) (t : FormState S StdPolicy) → PassesText remaining std_read_rules s (Err e) t
        → TookWholeBody (codes s.body.coding) s.body
        → (wire : List ℕ) × BehindText texts heads first turns (handed_of s.body) wire t.body.reader
    passes_behind e t (inl (b, h, drains, last, (why, is', head))) whole =
        subst (λ d. (wire : List ℕ) × BehindText texts heads first turns (handed_of d) wire t.body.reader)
        (drains.takes.ended whole) (t.body.taken, behind_text b h drains last head)
    passes_behind e t (inr (w, same, within, drains)) whole = (
      [],
      subst (λ d. BehindText texts heads first turns (handed_of s.body) [] d.reader) (sym (drains.takes.ended whole))
          (text_behind (subst (λ c. TookWholeBody (codes c) s.body) is.coding whole)),
    )

    from_text : (answer : Result Bool PartError) (t : FormState S StdPolicy)
        → NextPart remaining std_read_rules s.stand s answer t → PassesText remaining std_read_rules s answer t
    from_text answer t next = elim is.stands [
      | inl preamble ↦ subst (λ x. NextPart remaining std_read_rules x s answer t) preamble next
      | inr part ↦ subst (λ x. NextPart remaining std_read_rules x s answer t) part next
    ]

    pub next_comes : (answer : Result Bool PartError) (t : FormState S StdPolicy)
        → NextPart remaining std_read_rules s.stand s answer t → NextComes answer t
    next_comes answer t next = passes answer t (from_text answer t next)

    pub next_behind : (e : PartError) (t : FormState S StdPolicy) → NextPart remaining std_read_rules s.stand s (Err e) t
        → TookWholeBody (codes s.body.coding) s.body
        → (wire : List ℕ) × BehindText texts heads first turns (handed_of s.body) wire t.body.reader
    next_behind e t next = passes_behind e t (from_text (Err e) t next)
