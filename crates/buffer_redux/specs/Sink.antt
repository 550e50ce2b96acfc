-- Where the bytes go that a call hands out which goes on up to a byte.
use Rattle.std.specs.Prelude.{◌≡◌, ℕ, ◌+◌, ◌^◌, ◌<◌, ◌≤◌, List, [], ◌++◌, length, take, drop, Option, Result}
use Rattle.std.proofs.Common.{sym, ap, ◌∙◌, arith, append-nil, append_assoc, length-append}
use Rattle.std.specs.IoError.{error_kind}
use Rattle.std.specs.declared.io.Error.{Error}
use Rattle.std.specs.declared.io.ErrorKind.TheVariants.{OutOfMemory, TimedOut}
use Rattle.buffer_redux.specs.Policy.{ReadRules}
use Rattle.buffer_redux.specs.Buffered.{Buffered}
use Rattle.buffer_redux.specs.ReadAll.{HandedFront}
use Rattle.buffer_redux.specs.ReadUntil.{DropsFirst, EndsUntil}

-- what a sink is: how it takes bytes in, and how much it holds then; what it may leave at the end of those that it is shown; and
-- why it takes none of them, by what it was at first and is now
pub record SinkRules (K : Type 0) : Type 1 where
  pub takes : K → List ℕ → K → Type 0
  pub held : K → ℕ
  pub leaves : List ℕ → Type 0
  pub refuses : K → K → List ℕ → Error → Type 0

-- what was taken in goes on, is counted, and fits into memory; and what is refused now is refused by what it was before
pub record IsLawful {K : Type 0} (sink : SinkRules K) : Type 0 where
  pub none : (k : K) → sink.takes k [] k
  pub joins : (k l m : K) (xs ys : List ℕ) → sink.takes k xs l → sink.takes l ys m → sink.takes k (xs ++ ys) m
  pub grows : (k l : K) (xs : List ℕ) → sink.takes k xs l → sink.held l ≡ sink.held k + length xs
  pub few : (k : K) → sink.held k < 2 ^ 64
  pub since : (k l m : K) (xs bytes : List ℕ) (e : Error) → sink.takes k xs l → sink.refuses l m bytes e
      → sink.refuses k m bytes e

pub fits_len : (len room : ℕ) → len ≤ room → room < 2 ^ 63 → len < 2 ^ 64
fits_len len room within small = omega (arith, within, small)

-- a sink that appends: it holds these bytes, and has room for so many
module _ {K : Type 0} (items : K → List ℕ) (held room : K → ℕ) (leaves : List ℕ → Type 0)
    (refuses : List ℕ → Error → Type 0) (text : List ℕ → Type 0) where
  abbrev pub appending : SinkRules K
  appending = record {
    takes = λ k xs l. (items l ≡ items k ++ xs) × text xs × (room k ≤ room l);
    held = held;
    leaves = leaves;
    refuses = λ k l bytes e. refuses bytes e × (error_kind e ≡ OutOfMemory → room k < held l + length bytes);
  }

  pub appending-lawful : text [] → ((xs ys : List ℕ) → text xs → text ys → text (xs ++ ys))
      → ((k : K) → (held k ≡ length (items k)) × (held k < 2 ^ 64)) → IsLawful appending
  appending-lawful none joins fits = record {
    none = λ k. (sym (append-nil (items k)), none, omega arith);
    joins = λ k l m xs ys p q.
        (q.0 ∙ ap (λ z. z ++ ys) p.0 ∙ append_assoc (items k) xs ys, joins xs ys p.1 q.1, omega (arith, p.2, q.2));
    grows = λ k l xs p. omega (arith, (fits k).0, (fits l).0, ap length p.0, length-append (items k) xs);
    few = λ k. (fits k).1;
    since = λ k l m xs bytes e took refused. (refused.0, λ kind. omega (arith, took.2, refused.1 kind));
  }

-- one that counts them alone
module _ {K : Type 0} (total : K → ℕ) where
  abbrev pub counting : SinkRules K
  counting = record {
    takes = λ k xs l. total l ≡ total k + length xs;
    held = total;
    leaves = λ left. left ≡ [];
    refuses = λ k l bytes e. (error_kind e ≡ TimedOut) × (2 ^ 64 ≤ total l + length bytes);
  }

  pub counting-lawful : ((k : K) → total k < 2 ^ 64) → IsLawful counting
  counting-lawful fits = record {
    none = λ k. omega arith;
    joins = λ k l m xs ys p q. omega (arith, p, q, length-append xs ys);
    grows = λ k l xs p. p;
    few = fits;
    since = λ k l m xs bytes e took refused. refused;
  }

module _ {S P K : Type 0} (remaining : S → Option (List ℕ)) (rules : ReadRules P) (sink : SinkRules K) where
  -- of the first n bytes that are buffered the sink took some in, and left those behind them, which stay buffered
  pub record HandsFirst (n : ℕ) (s : Buffered S P) (k : K) (t : Buffered S P) (l : K) : Type 0 where
    pub count : ℕ
    pub most : count ≤ n
    pub took : sink.takes k (take count s.block.bytes) l
    pub leaves : sink.leaves (drop count (take n s.block.bytes))
    pub front : HandedFront remaining rules s (take count s.block.bytes) t
    pub dropped : DropsFirst rules count s t
    pub left : t.block.bytes ≡ drop count s.block.bytes

  -- the sink took these bytes in, up to a byte, or up to where the call ended
  pub record HandsUntil (byte : ℕ) (s : Buffered S P) (k : K) (answer : Result (Unit {0}) Error) (t : Buffered S P) (l : K)
      : Type 0 where
    pub handed : List ℕ
    pub took : sink.takes k handed l
    pub front : HandedFront remaining rules s handed t
    pub ends : EndsUntil sink.leaves (λ _ e bytes. sink.refuses k l bytes e) remaining rules byte s answer handed t
