-- Which bodies are too large.
use Rattle.std.proofs.Common.{◌≡◌, ℕ, ◌+◌, ◌-◌, ◌*◌, ◌^◌, ◌≤◌, ◌⊎◌, ◌++◌, nat_lt, min, Bool, false, List, [], Option, drop, length, length-drop, take, take-append-drop, sym, ap, subst, inl, inr, ◌∙◌, refl, arith, append-nil}
use Rattle.requests.proofs.Names.{body_rules, BodyCoding, cases_lt, coding_of, Enters, AwaitsMore, handed_of, InBody, InsideGoes, is_large, IsAwaited, IsBodyReader, LeadsOpen, length-take-le, max_payload, Side, usual, BodyPlace as Place}
use Rattle.std.proofs.lemmas.Bool.{ltb-false, or_parts}
use Rattle.std.proofs.lemmas.Bool.Decides.{nat_tests}
use Rattle.body_reader.specs.Coding.{Leads, heeded}
use Rattle.body_reader.specs.declared.either.Either.TheVariants as which
use Rattle.messages.specs.declared.head.Extent.{Extent}
use Rattle.requests.specs.Large.{IsNewlyLarge, usual_rules}
use Rattle.messages.specs.declared.head.Extent.TheVariants.{Sized, Chunked}

-- a count of what was taken ends far beyond what is too large
large_counted : (extent : Extent) (n p : ℕ) → is_large extent (min n (2 ^ 64 - 1)) p ≡ is_large extent n p
large_counted (Sized all) n p = refl
large_counted Chunked n p = grind (arith, nat_tests)

-- so far payload is counted
pub few_counted : (extent : Extent) (n p : ℕ) → is_large extent n p ≡ false → p ≤ max_payload
few_counted (Sized all) n p small = ltb-false max_payload p (or_parts _ _ small).0
few_counted Chunked n p small = ltb-false max_payload p (or_parts _ _ small).0

-- what a test of counts says of what was taken
pub tested : (e e' : Extent) (m n : ℕ) (taken : List ℕ) (b : Bool) → b ≡ is_large e m n → e ≡ e'
    → m ≡ min (length taken) (2 ^ 64 - 1) → is_large e' (length taken) n ≡ b
tested e e' m n taken b is same count = sym (is ∙ ap (λ x. is_large x m n) same ∙ ap (λ k. is_large e' k n) count
    ∙ large_counted e' (length taken) n)

-- what was read is no older than the last read, where it wasn't too large before that
pub newly_large : {S : Type 0} {remaining : S → Option (List ℕ)} {m t : InBody S} {last : List ℕ}
    → IsBodyReader (body_rules m.body.coding) m.body → (goes : InsideGoes remaining m last t)
    → (last ≡ []) ⊎ ((last ≡ t.body.calls.reads.latest) × (length last ≤ 4096))
    → is_large m.said.extent (length m.body.taken) (length (handed_of m.body)) ≡ false → IsNewlyLarge t
newly_large {m = m} {t = t} {last = last} whole goes noted small = inr (
  m.body,
  goes.went.wire,
  last,
  subst (λ c. IsBodyReader (body_rules c) m.body) (sym goes.went.coding) whole,
  goes.went.taken,
  goes.went.handed,
  noted,
  subst (λ x. is_large x.extent (length m.body.taken) (length (handed_of m.body)) ≡ false) (sym goes.said) small,
)

-- what was taken of a body that isn't too large is less than is counted
few_within : (extent : Extent) (n : ℕ) (taken handed follow : List ℕ) (place : Side ℕ Place)
    → Leads (usual_rules extent) (usual_rules extent).first taken handed place follow → is_large extent (length taken) n ≡ false
    → length taken ≤ 7 * max_payload
few_within (Sized all) n taken handed follow place leads small =
    let fits : all ≤ max_payload = ltb-false max_payload all (or_parts (nat_lt max_payload n) _ small).1 in
    elim (cases_lt all (length taken)) [
      | inl more ↦ (let past = leads.within (take all taken) (take all taken) (drop all taken)
          (length-take-le all taken (omega (arith, more)), refl) (sym (take-append-drop all taken)) in
          absurd (omega (arith, more, ap length past, length-drop all taken)))
      | inr few ↦ omega (arith, few, fits)
    ]
few_within Chunked n taken handed follow place leads small =
    omega (
      arith,
      few_counted Chunked (length taken) n small,
      ltb-false (16384 + 6 * n) (length taken) (or_parts (nat_lt max_payload n) _ small).1,
    )

pub few_taken : {S : Type 0} {remaining : S → Option (List ℕ)} {b m : InBody S} {payload : List ℕ} (n : ℕ) → Enters usual b
    → InsideGoes remaining b payload m → is_large m.said.extent (length m.body.taken) n ≡ false
    → length m.body.taken ≤ 7 * max_payload
few_taken {b = b} {m = m} n enters goes small =
    let coding : m.body.coding ≡ coding_of usual b.said.extent = goes.went.coding ∙ ap (λ x. x.body.coding) enters.is in
    few_within b.said.extent n m.body.taken (handed_of m.body) _ m.body.place
    (subst (λ c. Leads (body_rules c) (body_rules c).first m.body.taken (handed_of m.body) m.body.place
    (heeded (body_rules c) m.body.reader.block.bytes)) coding goes.whole.leads)
    (subst (λ x. is_large x.extent (length m.body.taken) n ≡ false) goes.said small)

-- neither coding heeds what follows
unheeded : (c : BodyCoding) (follow : List ℕ) → heeded (body_rules c) follow ≡ []
unheeded (which.First c) follow = refl
unheeded (which.Second c) follow = refl

-- more of the body is awaited behind what was read of it, where that goes on and isn't too large
pub awaited : {S : Type 0} {remaining : S → Option (List ℕ)} {b m : InBody S} {payload : List ℕ} → Enters usual b
    → (goes : InsideGoes remaining b payload m)
    → is_large b.said.extent (length m.body.taken) (length (handed_of m.body)) ≡ false → (front behind : List ℕ)
    → AwaitsMore m front behind → IsAwaited b.said.extent (goes.went.wire ++ front) behind
awaited {b = b} {m = m} enters goes small front behind (none, on) =
    let handed = handed_of m.body in
    let p = m.body.place in
    let coding : m.body.coding ≡ coding_of usual b.said.extent = goes.went.coding ∙ ap (λ x. x.body.coding) enters.is in
    let wire : m.body.taken ≡ goes.went.wire ++ front = goes.went.taken
    ∙ ap (λ x. x.body.taken ++ goes.went.wire) enters.is ∙ sym (ap (λ l. goes.went.wire ++ l) none ∙ append-nil goes.went.wire) in
    record {
      payload = handed;
      place = p;
      leads = subst (λ x. Leads (body_rules x) (body_rules x).first (goes.went.wire ++ front) handed p []) coding
          (subst (λ l. Leads (body_rules m.body.coding) (body_rules m.body.coding).first l handed p []) wire
          (subst (Leads (body_rules m.body.coding) (body_rules m.body.coding).first m.body.taken handed p)
          (unheeded m.body.coding m.body.reader.block.bytes) goes.whole.leads));
      small = subst (λ l. is_large b.said.extent (length l) (length handed) ≡ false) wire small;
      more = subst (λ x. LeadsOpen (body_rules x) p [] behind) coding on;
    }
