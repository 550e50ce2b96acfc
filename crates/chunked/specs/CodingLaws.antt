-- Laws of the chunked coding.
use Rattle.std.proofs.Common.{◌≡◌, ◌≢◌, ℕ, zero, suc, ◌+◌, ◌-◌, ◌<◌, ◌≤◌, List, [], ◌∷◌, ◌++◌, length, replicate, take, Some, sym, ap, subst, ◌∙◌, arith, refl, append-nil, length-append}
use Rattle.chunked.specs.Names.{Advances, BreaksAt, chunk_left, chunked, Comes, Completes, CompletesData, Data, Done, drop_more, IsDataOrDone, IsOpenBelow-one, IsPlace, IsWrong, IsWrongNext, length-replicate, Limits, line_end, Malformed, nil_from_length, Place}
use Rattle.body_reader.specs.declared.Look.TheVariants as look
use Rattle.body_reader.specs.BodyReader.{BodyState, IsBodyReader}
use Rattle.body_reader.specs.Coding as body
use Rattle.chunked.specs.declared.coding.Chunked.{Chunked}
use Rattle.chunked.specs.declared.step.Reached.{Reached}
use Rattle.chunked.specs.AliveLaws.{Completes-some}
use Rattle.chunked.specs.BodyLaws.{IsBodyOfChunks-same}
use Rattle.chunked.specs.LineLaws.{data_parts}
use Rattle.chunked.specs.PlaceLaws.{Completes-nothing}
use Rattle.chunked.specs.StepLaws.{IsWrong-none, one_name}

-- where nothing is heeded of what follows, whatever does goes on so
pub follows : (rest : List ℕ) → body.Agree [] rest
follows rest = (rest, [], sym (append-nil rest))

module _ (limits : Limits) where
  nothing : (p : Place) (payload : List ℕ) → Completes limits p [] payload → payload ≡ []
  nothing p payload c = grind (arith, Completes-nothing)

  -- what is wrong completes no body
  never : (p : Place) (byte : ℕ) (why : Malformed) (rest payload later x y : List ℕ) → IsWrong limits p byte why
      → Completes limits p rest payload → ¬ ((byte ∷ later) ++ x ≡ rest ++ y)
  never p byte why [] payload later x y wrong c same =
      subst (λ q. IsWrong limits q byte why) (Completes-nothing limits p payload c) wrong
  never p byte why (b ∷ rest) payload later x y wrong c same =
      let head : b ≡ byte = cc in
      IsWrong-none limits p byte why rest payload wrong (subst (λ z. Completes limits p (z ∷ rest) payload) head c)

  -- no more bytes are of a chunk than are left of it
  no_more : (p : Place) (n : ℕ) → body.Carries (chunked limits) p n [] → n ≤ chunk_left p
  no_more (Data left) n c = omega (
    arith,
    c.carries (replicate n 0) [] (replicate n 0) (omega (arith, length-replicate {A = ℕ} n 0)) (append-nil (replicate n 0)),
    length-replicate {A = ℕ} n 0,
  )
  no_more p n c = absurd (c.carries [] [] [] (omega arith) refl)

  -- nor any where none is
  pub none_left : (p : Place) → ¬ IsDataOrDone p → chunk_left p ≡ 0
  none_left p open' = grind arith

  pub chunked_lawful : body.IsLawful (chunked limits)
  chunked_lawful = record {
    some = omega arith;
    begins = tt;
    alive = λ p is. let end = Completes-some limits p is in (end.rest, end.payload, end.completes);
    nothing = λ p payload is c. nothing p payload c;
    never = λ p shown why rest payload is wrong c agree.
        never p wrong.0 why rest payload wrong.1 agree.0 agree.1 wrong.3 c
        (ap (λ l. l ++ agree.0) (sym wrong.2) ∙ agree.2);
    reason = λ p shown why other is wrong so.
        let same : so.0 ∷ so.1 ≡ wrong.0 ∷ wrong.1 = sym so.2 ∙ wrong.2 in
        let head : so.0 ≡ wrong.0 = cc in
        one_name limits p wrong.0 why other wrong.3 (subst (λ b. IsWrong limits p b other) head so.3);
    stays = λ p shown more why is wrong. (wrong.0, wrong.1 ++ more, ap (λ l. l ++ more) wrong.2, wrong.3);
    sure = λ p n is c. no_more p n c;
    one = λ a b x y xs ys p q same. let found = IsBodyOfChunks-same limits limits a b x y xs ys p q same in (found.0, found.1);
  }

  not_done : (p : Place) → p ≢ Done → ¬ (Completes limits p [] [])
  not_done p open' c = grind (arith, Completes-nothing)

  pub data_open : (left : ℕ) → ¬ (Completes limits (Data left) [] [])
  data_open left = grind (arith, not_done)

  -- the bytes of a chunk lead on in it
  data_on : (bytes : List ℕ) (left n : ℕ) (rest payload : List ℕ) → length bytes + n ≡ left
      → CompletesData limits n rest payload → CompletesData limits left (bytes ++ rest) (bytes ++ payload)
  data_on [] left n rest payload sum c = let all : n ≡ left = omega (arith, sum) in rw all at c
  data_on (x ∷ bytes) zero n rest payload sum c = absurd (omega (arith, sum))
  data_on (x ∷ bytes) (suc left) n rest payload sum c =
      (bytes ++ payload, refl, data_on bytes left n rest payload (omega (arith, sum)) c)

  data_back : (bytes : List ℕ) (left n : ℕ) (rest whole : List ℕ) → length bytes + n ≡ left
      → CompletesData limits left (bytes ++ rest) whole
      → (payload : List ℕ) × (whole ≡ bytes ++ payload) × CompletesData limits n rest payload
  data_back [] left n rest whole sum c = let all : n ≡ left = omega (arith, sum) in (whole, refl, rw all c)
  data_back (x ∷ bytes) zero n rest whole sum c = absurd (omega (arith, sum))
  data_back (x ∷ bytes) (suc left) n rest whole sum (later, same, c) =
      let b = data_back bytes left n rest later (omega (arith, sum)) c in (b.0, same ∙ ap (λ l. x ∷ l) b.1, b.2)

  pub data_leads : (bytes : List ℕ) (left : ℕ) → length bytes ≤ left
      → body.Leads (chunked limits) (Data left) bytes bytes (Data (left - length bytes)) []
  data_leads bytes left few = record {
    onward = λ rest payload agree c. data_on bytes left (left - length bytes) rest payload (omega (arith, few)) c;
    back = λ rest whole agree c. data_back bytes left (left - length bytes) rest whole (omega (arith, few)) c;
    within = λ rest payload past c same.
        let p = data_parts limits left rest payload c in
        nil_from_length past (omega (
          arith,
          few,
          p.3,
          ap length same,
          length-append rest past,
          ap length p.4,
          length-append p.0 (line_end p.1),
        ));
  }

  -- where a payload or nothing comes next
  pub settled_some : (left : ℕ) → IsDataOrDone (Data left) → 0 < left
  settled_some left settled = grind arith

  pub open_of : (p : Place) → ¬ IsDataOrDone p → p ≢ Done
  open_of p goes_on is = goes_on (subst IsDataOrDone (sym is) tt)

  -- nothing is wrong where the next bytes lead on
  leads_right : (p q : Place) (n : ℕ) (shown : List ℕ) → 0 < n → body.Leads (chunked limits) p (take n shown) [] q []
      → IsPlace q → body.IsRight (chunked limits) p shown
  leads_right p q zero shown some leads place why wrong = omega (arith, some)
  leads_right p q (suc k) shown some leads place why wrong =
      let end = Completes-some limits q place in
      IsWrong-none limits p wrong.0 why (take k wrong.1 ++ end.rest) end.payload wrong.3
      (subst (λ l. Completes limits p (take (suc k) l ++ end.rest) end.payload) wrong.2
      (leads.onward end.rest end.payload (follows end.rest) end.completes))

  -- what a look answers
  pub looks_data : (left : ℕ) (shown : List ℕ) → 0 < left
      → body.Looks (chunked limits) (Data left) shown (look.Payload left)
  looks_data left shown some = grind (arith, data_open)

  pub looks_none : (p : Place) (shown : List ℕ) → IsPlace p → ¬ IsDataOrDone p → shown ≡ []
      → body.Looks (chunked limits) p shown (look.More 1)
  looks_none p shown place open' none = (
    IsOpenBelow-one (chunked limits) chunked_lawful p place (not_done p (open_of p open')) shown (omega (arith, ap length none)),
    none_left p open',
  )

  pub looks_comes : (p : Place) (shown : List ℕ) (n : ℕ) (q : Place) → p ≢ Done → 0 < n → n ≤ length shown
      → Comes limits p (take n shown) q → body.Looks (chunked limits) p shown (look.Passed n q)
  looks_comes p shown n q open' some held comes = (
    some,
    held,
    comes.passes,
    comes.place,
    not_done p open',
    leads_right p q n shown some comes.passes.leads comes.place,
  )

  -- where nothing was taken, and nothing is wrong, nothing was shown
  pub looks_wrong : (p : Place) (shown : List ℕ) (r : Reached) (why : Malformed) → p ≢ Done → Advances limits p shown r
      → r.taken ≡ 0 → r.wrong ≡ Some why → body.Looks (chunked limits) p shown (look.Wrong why)
  looks_wrong p shown r why open' reached none is = grind (arith, drop_more, not_done)

-- where the next byte is wrong, no body begins with what was taken and then that byte
pub breaks_at : {S Q : Type 0} (d : BodyState S Q Chunked Place) → IsBodyReader (chunked d.coding.0) d → (why : Malformed)
    → IsWrongNext d.coding.0 d.place d.reader.block.bytes why
    → BreaksAt d.coding.0 d.place d.taken d.reader.block.bytes why
breaks_at d is why (byte, later, next, name) = record {
  byte = byte;
  later = later;
  next = next;
  name = name;
  none = λ rest payload whole.
      let goes = is.leads.back (byte ∷ rest) payload (follows (byte ∷ rest)) whole in
      IsWrong-none d.coding.0 d.place byte why rest goes.0 name goes.2;
}
