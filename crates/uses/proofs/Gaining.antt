-- What is handed out joins, and came or was buffered.
use Rattle.std.proofs.Common.{◌≡◌, ℕ, ◌+◌, List, Option, length, ◌++◌, ap, arith, ◌∙◌, append_assoc, length-append}
use Rattle.buffer_redux.specs.BufReader.{ReadsInOrder}
use Rattle.buffer_redux.specs.Policy.{ReadRules}
use Rattle.buffer_redux.specs.Buffered.{Buffered}
use Rattle.buffer_redux.specs.ReaderLaws.{ReadsAlong-joins}
use Rattle.uses.specs.Survive.{Gains}

pub Gains-joins : {S P : Type 0} {remaining : S → Option (List ℕ)} {rules : ReadRules P} {s m t : Buffered S P}
    {xs ys zs : List ℕ} → Gains remaining rules s xs m ys → Gains remaining rules m ys t zs
    → Gains remaining rules s xs t zs
Gains-joins {xs = xs} p q = record {
  handed = p.handed ++ q.handed;
  along = ReadsAlong-joins _ _ _ _ _ _ _ p.along q.along;
  gained = q.gained ∙ ap (λ l. l ++ q.handed) p.gained ∙ append_assoc xs p.handed q.handed;
}

pub seen : {S P : Type 0} {s t : Buffered S P} {handed : List ℕ} → ReadsInOrder s handed t
    → length handed + length t.block.bytes + length s.log.reads.given ≡ length s.block.bytes + length t.log.reads.given
seen {s = s} {t = t} {handed = handed} p = omega (
  arith,
  ap length p.given,
  ap length p.equal,
  length-append s.log.reads.given p.got,
  length-append handed t.block.bytes,
  length-append s.block.bytes p.got,
)
