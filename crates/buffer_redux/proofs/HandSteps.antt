-- The turns and the ends of a call that hands bytes to a sink, up to a byte.
use Rattle.std.proofs.Common.{◌≡◌, ℕ, ◌+◌, ◌-◌, ◌^◌, ◌<◌, ◌≤◌, Bool, true, false, List, [], ◌∷◌, ◌++◌, length, take, drop}
use Rattle.std.proofs.Common.{Result, Ok, Err, Option, sym, ap, subst, ◌∙◌, inl, inr, arith, append-nil, length-drop}
use Rattle.std.proofs.Common.{length-take-le, take_all}
use Rattle.std.specs.Prelude.{IsTrue, MatchResult, ◌↔◌}
use Rattle.std.proofs.lemmas.Bool.{cases_lt}
use Rattle.std.proofs.lemmas.List.{drop-append-le}
use Rattle.std.proofs.lemmas.List.Elements.{All-drop, All-take}
use Rattle.std.specs.Io.BufRead.{take_through}
use Rattle.std.specs.declared.io.Error.{Error}
use Rattle.redux_buffer.specs.Block.{Block, IsBlock, Plain, Ring, limit_of}
use Rattle.buffer_redux.specs.Policy.{ReadRules}
use Rattle.buffer_redux.specs.Buffered.{Buffered}
use Rattle.buffer_redux.specs.ReadAll.{HandedFront}
use Rattle.buffer_redux.specs.ReadBehind.{FillsOn}
use Rattle.buffer_redux.specs.ReadUntil.{DropsFirst, FirstAt, Lacks, Passes}
use Rattle.buffer_redux.specs.Sink.{HandsFirst, HandsUntil, IsLawful, SinkRules}
use Rattle.buffer_redux.specs.UntilLaws.{lacking_through}
use Rattle.buffer_redux.proofs.LineSteps.{FillsMore, going_on}
use Rattle.buffer_redux.specs.ReadAllLaws.{HandedFront-joins}
use Rattle.buffer_redux.proofs.Retrying.{retried_dry}
use Rattle.buffer_redux.proofs.Searching.{first_through, through}
use Rattle.buffer_redux.proofs.UntilSteps.{Shows, front_filled, passes_and_fills, passes_filled, passes_first, passes_shown, passes_to_end, reaches}

-- these bytes lack the byte, and the sink took them in. None was dropped behind the last fill
pub record Handed {S P K : Type 0} (remaining : S → Option (List ℕ)) (rules : ReadRules P) (sink : SinkRules K) (byte : ℕ)
    (s : Buffered S P) (k : K) (m : Buffered S P) (l : K) : Type 0 where
  pub handed : List ℕ
  pub shows : Shows remaining rules (FillsOn sink.leaves remaining rules) byte s handed m
  pub took : sink.takes k handed l

-- the sink took bytes in from what is buffered, and may leave some behind them. What it holds and what is buffered come to
-- more, where a fill shows more than was left
pub record HandedOn {S P K : Type 0} (remaining : S → Option (List ℕ)) (rules : ReadRules P) (sink : SinkRules K) (byte : ℕ)
    (s : Buffered S P) (k : K) (m : Buffered S P) (l : K) (t : Buffered S P) (u : K) : Type 0 where
  pub handed : List ℕ
  pub passes : Passes remaining rules (FillsOn sink.leaves remaining rules) byte s handed t
  pub took : sink.takes k handed u
  pub leaves : sink.leaves t.block.bytes
  pub plain : Lacks byte t.block.bytes
  pub smaller : (len : ℕ) → length t.block.bytes < len
      → 2 ^ 65 - (sink.held u + len) < 2 ^ 65 - (sink.held l + length m.block.bytes)

block_within : (b : Block) → IsBlock b → length b.bytes ≤ 2 ^ 62
block_within b whole =
    let most : limit_of b.kind ≤ 2 ^ 62 = elim b.kind as (λ k. limit_of k ≤ 2 ^ 62) [
      | Plain ↦ omega arith
      | Ring ↦ omega arith
    ] in
    omega (arith, whole.fits, whole.limit, whole.most, most)

-- of bytes that end in the byte, a sink leaves none that takes the byte itself
all_taken : (leaves : List ℕ → Type 0) (byte at count : ℕ) (bytes : List ℕ)
    → ((front : List ℕ) → ¬ (leaves (front ++ byte ∷ []))) → FirstAt byte at bytes → count ≤ at + 1
    → leaves (drop count (take (at + 1) bytes)) → count ≡ at + 1
all_taken leaves byte at count bytes whole first most left = elim (cases_lt at count) [
  | inl more ↦ omega (arith, more, most)
  | inr less ↦
      let size = length-take-le at bytes (omega (arith, first.inside)) in
      absurd (whole (drop count (take at bytes))
      (subst leaves (ap (drop count) (through byte at bytes first)
      ∙ drop-append-le count (take at bytes) (byte ∷ []) (omega (arith, size, less))) left))
]

module _ {S P K : Type 0} (remaining : S → Option (List ℕ)) (rules : ReadRules P) (sink : SinkRules K) (law : IsLawful sink)
    (byte : ℕ) where
  module _ (s m : Buffered S P) (k l : K) (before : Handed remaining rules sink byte s k m l) where
    -- all that is buffered is handed to the sink, which may leave some
    pub handed_on : (n : ℕ) (t : Buffered S P) (u : K) → n ≡ length m.block.bytes → Lacks byte m.block.bytes
        → HandsFirst remaining rules sink n m l t u → HandedOn remaining rules sink byte s k m l t u
    handed_on n t u all plain h =
        let within : h.count ≤ length m.block.bytes = omega (arith, h.most, all) in record {
          handed = before.handed ++ take h.count m.block.bytes;
          passes = passes_first remaining rules byte s m before.handed before.shows t h.count within
              (All-take (λ b. ¬ (b ≡ byte)) h.count m.block.bytes plain) h.front h.dropped;
          took = law.joins k l u before.handed (take h.count m.block.bytes) before.took h.took;
          leaves = subst sink.leaves (ap (drop h.count) (take_all n m.block.bytes (omega (arith, all))) ∙ sym h.left) h.leaves;
          plain = subst (Lacks byte) (sym h.left) (All-drop (λ b. ¬ (b ≡ byte)) h.count m.block.bytes plain);
          smaller = λ len more. omega (
            arith,
            within,
            more,
            law.grows l u (take h.count m.block.bytes) h.took,
            law.few u,
            length-take-le h.count m.block.bytes within,
            ap length h.left,
            length-drop h.count m.block.bytes,
            block_within t.block h.front.keeps.whole,
          );
        }

    -- the sink refused what is buffered, up to the byte
    pub ends_refused : (e : Error) (t : Buffered S P) (u : K) (bytes : List ℕ) → bytes ≡ take_through byte m.block.bytes
        → (t ≡ m) × sink.takes l [] u × sink.refuses l u bytes e → HandsUntil remaining rules sink byte s k (Err e) t u
    ends_refused e t u bytes all h = subst (λ x. HandsUntil remaining rules sink byte s k (Err e) x u) (sym h.0) (record {
      handed = before.handed;
      took = subst (λ x. sink.takes k x u) (append-nil before.handed) (law.joins k l u before.handed [] before.took h.1);
      front = before.shows.front;
      ends = inr (inl (
        passes_shown remaining rules byte s m before.handed before.shows,
        subst (λ x. sink.refuses k u x e) all (law.since k l u before.handed bytes e before.took h.2),
      ));
    })

    -- the bytes up to the byte, with it, are handed to the sink
    pub ends_reached : (at : ℕ) (answer : Result (Unit {0}) Error) (t : Buffered S P) (u : K)
        → ((front : List ℕ) → ¬ (sink.leaves (front ++ byte ∷ []))) → FirstAt byte at m.block.bytes
        → MatchResult answer (λ _. HandsFirst remaining rules sink (at + 1) m l t u)
        (λ e. (t ≡ m) × sink.takes l [] u × sink.refuses l u (take (at + 1) m.block.bytes) e)
        → HandsUntil remaining rules sink byte s k answer t u
    ends_reached at (Err e) t u whole first h =
        ends_refused e t u (take (at + 1) m.block.bytes) (first_through byte at m.block.bytes first) h
    ends_reached at (Ok tt) t u whole first h =
        let all = all_taken sink.leaves byte at h.count m.block.bytes whole first h.most h.leaves in
        let bytes = ap (λ n. take n m.block.bytes) all in
        let line = take (at + 1) m.block.bytes in record {
          handed = before.handed ++ line;
          took = law.joins k l u before.handed line before.took (subst (λ x. sink.takes l x u) bytes h.took);
          front = HandedFront-joins remaining rules s m t before.handed line before.shows.front
              (subst (λ x. HandedFront remaining rules m x t) bytes h.front);
          ends = inl (reaches remaining rules byte s m before.handed before.shows at t first
              (subst (λ n. DropsFirst rules n m t) all h.dropped));
        }

    pub ends_at_all : (n : ℕ) (e : Error) (t : Buffered S P) (u : K) → n ≡ length m.block.bytes → Lacks byte m.block.bytes
        → (t ≡ m) × sink.takes l [] u × sink.refuses l u (take n m.block.bytes) e
        → HandsUntil remaining rules sink byte s k (Err e) t u
    ends_at_all n e t u all plain h = ends_refused e t u (take n m.block.bytes)
        (take_all n m.block.bytes (omega (arith, all)) ∙ lacking_through byte m.block.bytes plain) h

  -- behind a drop, of what is left
  module _ (s v m : Buffered S P) (k w l : K) (on : HandedOn remaining rules sink byte s k v w m l) where
    -- a fill showed more
    pub handed_filled : (t : Buffered S P) → FillsMore {A = Unit {0}} remaining rules m (Ok tt) t
        → length m.block.bytes < length t.block.bytes → Handed remaining rules sink byte s k t l
    handed_filled t f more = record {
      handed = on.handed;
      shows = passes_filled remaining rules byte s m on.handed on.passes (going_on remaining rules sink.leaves) t
          (on.leaves, f.0) more;
      took = on.took;
    }

    -- a fill failed, or showed nothing behind what the sink left
    pub ends_failed : (e : Error) (t : Buffered S P) → FillsMore {A = Unit {0}} remaining rules m (Err e) t
        → HandsUntil remaining rules sink byte s k (Err e) t l
    ends_failed e t (inl f) = record {
      handed = on.handed;
      took = on.took;
      front = front_filled remaining rules byte s m on.handed on.passes (going_on remaining rules sink.leaves) (Err e) t
          (on.leaves, f);
      ends = inl (passes_and_fills remaining rules byte s m on.handed on.passes (Err e) t (on.leaves, f));
    }
    ends_failed e t (inr ended) = record {
      handed = on.handed;
      took = on.took;
      front = front_filled remaining rules byte s m on.handed on.passes (going_on remaining rules sink.leaves) (Ok tt) t
          (on.leaves, ended.1);
      ends = inr (inr (record {
        fills = record { last = m; passes = on.passes; fill = (on.leaves, ended.1) };
        behind = sym ended.3;
        dry = ended.4;
        some = omega (arith, ended.2, ap length ended.3);
        part = subst sink.leaves (sym ended.3) on.leaves;
        plain = subst (Lacks byte) (sym ended.3) on.plain;
        kind = ended.0;
      }));
    }

    -- a fill showed nothing, and nothing is left
    pub ends_empty : (t : Buffered S P) → FillsMore {A = Unit {0}} remaining rules m (Ok tt) t
        → length t.block.bytes ≡ 0 → HandsUntil remaining rules sink byte s k (Ok tt) t l
    ends_empty t f none = record {
      handed = on.handed;
      took = on.took;
      front = front_filled remaining rules byte s m on.handed on.passes (going_on remaining rules sink.leaves) (Ok tt) t
          (on.leaves, f.0);
      ends = inr (passes_to_end remaining rules byte s m on.handed on.passes (going_on remaining rules sink.leaves) t
          (on.leaves, f.0) (λ wants some. elim f.0 [
            | inl fill ↦ retried_dry remaining rules m t fill.1 wants some none
            | inr read ↦ absurd (omega (arith, f.1 read.0, none))
          ]) none);
    }

-- a fill that leaves some bytes shows more than were left
pub fills_more : (left len' : ℕ) (empty : Bool) → (0 < left → left < len') → IsTrue empty ↔ (len' ≡ 0) → empty ≡ false
    → left < len'
fills_more left len' empty more means full = elim (cases_lt 0 left) [
  | inl some ↦ more some
  | inr none ↦ elim (cases_lt 0 len') [
    | inl some ↦ omega (arith, some, none)
    | inr nothing ↦ let yes : empty ≡ true = means.1 (omega (arith, nothing)) in absurd (cc)
  ]
]
