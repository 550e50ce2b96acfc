-- Reads of a slice, one behind another, and what they keep.
use Rattle.std.proofs.Common.{ℕ, List, [], ◌++◌, Result, Option, refl, sym, subst, ◌∙◌, le_refl, le_trans}
use Rattle.std.specs.declared.io.Error.{Error}
use Rattle.redux_buffer.specs.Block.{IsBlock}
use Rattle.redux_buffer.specs.LogGrows.{ReadLogGrows-none, ReadLogGrows-joins}
use Rattle.buffer_redux.specs.Policy.{ReadRules, ClaimsToSpare}
use Rattle.buffer_redux.specs.Buffered.{Buffered}
use Rattle.buffer_redux.specs.BufReader.{ReaderKeeps}
use Rattle.buffer_redux.specs.ReaderLaws.{ReadsInOrder-none, ReadsInOrder-joins, InnerGives-none, InnerGives-joins}
use Rattle.buffer_redux.specs.Sparing.{Spared-none, Spared-joins}
use Rattle.buffer_redux.specs.ReadAll.{HandedFront, OneRead, SliceRead}

module _ {S P : Type 0} (remaining : S → Option (List ℕ)) (rules : ReadRules P) where
  ReaderKeeps-none : (s : Buffered S P) → IsBlock s.block → ReaderKeeps remaining rules s s
  ReaderKeeps-none s whole = record {
    known = InnerGives-none remaining s;
    grows = ReadLogGrows-none s.log.reads;
    capacity = le_refl _;
    kind = refl;
    claims = refl;
    sparing = λ keep claims. Spared-none keep s;
    whole = whole;
    noted = refl;
  }

  pub ReaderKeeps-joins : (s m t : Buffered S P) → ReaderKeeps remaining rules s m → ReaderKeeps remaining rules m t
      → ReaderKeeps remaining rules s t
  ReaderKeeps-joins s m t p q = record {
    known = InnerGives-joins remaining s m t p.known q.known;
    grows = ReadLogGrows-joins s.log.reads m.log.reads t.log.reads p.grows q.grows;
    capacity = le_trans p.capacity q.capacity;
    kind = q.kind ∙ p.kind;
    claims = q.claims ∙ p.claims;
    sparing = λ keep claims. Spared-joins keep s m t (p.sparing keep claims)
        (q.sparing keep (subst (λ x. ClaimsToSpare x.spares keep) (sym p.claims) claims));
    whole = q.whole;
    noted = q.noted ∙ p.noted;
  }

  pub HandedFront-none : (s : Buffered S P) → IsBlock s.block → HandedFront remaining rules s [] s
  HandedFront-none s whole = record { in_order = ReadsInOrder-none s; keeps = ReaderKeeps-none s whole }

  pub HandedFront-joins : (s m t : Buffered S P) (a b : List ℕ) → HandedFront remaining rules s a m
      → HandedFront remaining rules m b t → HandedFront remaining rules s (a ++ b) t
  HandedFront-joins s m t a b p q = record {
    in_order = ReadsInOrder-joins s m t a b p.in_order q.in_order;
    keeps = ReaderKeeps-joins s m t p.keeps q.keeps;
  }

  -- a read tells of its slice what joins it to others
  pub OneRead-tells : (s : Buffered S P) (was : List ℕ) (answer : Result ℕ Error) (slice : List ℕ) (t : Buffered S P)
      → OneRead remaining rules s was answer slice t → SliceRead (HandedFront remaining rules) s was answer slice t
  OneRead-tells s was answer slice t one = record { bound = one.bound; size = one.steps.size; front = one.front }
