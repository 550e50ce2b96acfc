-- What one fill does to a reader of pieces.
use Rattle.std.proofs.Common.{◌≡◌, ℕ, zero, suc, ◌+◌, ◌*◌, ◌<◌, ◌≤◌, List, [], ◌∷◌, ◌++◌, length, drop, take, Bool, true, false, Option, Result, Ok, Err, refl, sym, ap, subst, ◌∙◌, arith, inl, inr, append-nil, append_assoc, length-append, length-take-le, ◌⊎◌}
use Rattle.std.proofs.lemmas.Bool.{cases_lt}
use Rattle.std.proofs.lemmas.List.{take-append-le}
use Rattle.std.specs.Borrow.{Bor}
use Rattle.std.specs.declared.io.Error.{Error}
use Rattle.buffer_redux.specs.Block.{Block, IsBlock, OnKind, Plain, usable}
use Rattle.buffer_redux.specs.BufReader.{FillBuf, Fills, PolicyGave}
use Rattle.buffer_redux.specs.Buffered.{Buffered, with_policy}
use Rattle.buffer_redux.specs.Fill.{Filled, Turns}
use Rattle.buffer_redux.specs.MinBuffered.{ReadiesFor, min_read_rules}
use Rattle.buffer_redux.specs.MinBufferedLaws.{number_of, none_before_fault, none_where_enough, once_at_end, enough_never_dry}
use Rattle.buffer_redux.specs.declared.policy.MinBuffered.{MinBuffered}
use Rattle.piece_reader.specs.Grammar.{Grammar, IsOpen}
use Rattle.buffer_redux.specs.Asking.{AskedOver}
use Rattle.piece_reader.specs.NextPiece.{Faulted, PiecesWent}
use Rattle.piece_reader.specs.NextPieceLaws.{MetEnd-now}
use Rattle.piece_reader.specs.PieceReader.{ReaderState, IsPieceReader, left_of, rest}
use Rattle.piece_reader.specs.Steps.{AsksFor, IsShortOf}

-- where no byte was handed out, all that is buffered is left
pub rest_whole : {S D : Type 0} (f : ReaderState S D) → f.handed ≡ 0 → rest f ≡ f.reader.block.bytes
rest_whole f none = ap (λ n. drop n f.reader.block.bytes) none

-- what some turns of a fill gave, each a byte at least
pub record TurnsGave {S : Type 0} (k : ℕ) (s m : Buffered S MinBuffered) : Type 0 where
  pub got : List ℕ
  pub given : m.log.reads.given ≡ s.log.reads.given ++ got
  pub bytes : m.block.bytes ≡ s.block.bytes ++ got
  pub asks : m.log.reads.asks ≡ s.log.reads.asks + k
  pub many : k ≤ length got
  pub policy : m.policy ≡ s.policy
  pub capacity : s.block.capacity ≤ m.block.capacity

pub turns_gave : {S : Type 0} (k : ℕ) (s m : Buffered S MinBuffered) → Turns min_read_rules k s m → TurnsGave k s m
turns_gave zero s m same = record {
  got = [];
  given = ap (λ x. x.log.reads.given) (sym same) ∙ sym (append-nil s.log.reads.given);
  bytes = ap (λ x. x.block.bytes) (sym same) ∙ sym (append-nil s.block.bytes);
  asks = omega (arith, ap (λ x. x.log.reads.asks) same);
  many = omega arith;
  policy = ap (λ x. x.policy) (sym same);
  capacity = omega (arith, ap (λ x. x.block.capacity) same);
}
turns_gave (suc k) s t (m, run, count, some, turn) =
    let before = turns_gave k s m run in
    let more = take count turn.read.out in
    let size : length more ≡ count = length-take-le count turn.read.out turn.read.bound.0 in
    record {
      got = before.got ++ more;
      given = ap (λ l. l.reads.given) turn.read.told ∙ ap (λ l. l ++ more) before.given
          ∙ append_assoc s.log.reads.given before.got more;
      bytes = turn.read.added.bytes ∙ ap (λ l. l ++ more) (turn.asked.law.bytes ∙ before.bytes)
          ∙ append_assoc s.block.bytes before.got more;
      asks = omega (arith, ap (λ l. l.reads.asks) turn.read.told, before.asks);
      many = omega (arith, before.many, size, some, length-append before.got more);
      policy = turn.asked.allowed.0 ∙ before.policy;
      capacity = omega (arith, before.capacity, turn.asked.law.capacity, turn.read.added.capacity);
    }

-- room for n bytes behind fewer than n, in a buffer of twice as many
room_readied : (n : ℕ) (b b' : Block) → ReadiesFor n b b' → length b.bytes < n → 2 * n ≤ b.capacity → n ≤ usable b'
room_readied n b b' readies few twice = elim (cases_lt (usable b) n) [
  | inl less ↦ omega (arith, (readies.behind less (omega (arith, few, twice))).usable, few, twice)
  | inr many ↦ omega (arith, many, ap (λ x. usable x) (readies.enough many))
]

-- the log of a fill that asked: the last time where fewer bytes than the policy's number were there, and for so many; and each
-- ask but the last gave a byte
pub record AsksFew {S : Type 0} (s t : Buffered S MinBuffered) : Type 0 where
  pub came : List ℕ
  pub given : t.log.reads.given ≡ s.log.reads.given ++ (came ++ t.log.reads.latest)
  pub few : length (s.block.bytes ++ came) < s.policy.0
  pub offer : s.policy.0 ≤ t.log.reads.offer
  pub whole : s.block.bytes ++ came ≡ [] → t.log.reads.offer ≡ s.block.capacity
  pub asks : t.log.reads.asks ≤ s.log.reads.asks + length came + 1

module _ {S : Type 0} (s : Buffered S MinBuffered) where
  -- how a fill asked that did
  pub asked_few : {A : Type 0} (answer : Result A Error) (t : Buffered S MinBuffered) → Fills min_read_rules s answer t
      → s.log.reads.asks < t.log.reads.asks → 2 * s.policy.0 ≤ s.block.capacity → IsBlock s.block → s.block.kind ≡ Plain
      → AsksFew s t
  asked_few answer t fills some twice block plain =
      let last = fills.last some in
      let before = turns_gave last.count s last.before last.turns in
      let told = last.told ∙ last.ordered.read.told in
      let wants = last.ordered.asked.allowed.1 in
      let number : last.before.policy.0 ≡ s.policy.0 = ap (λ p. p.0) before.policy in
      let there : last.before.log.reads.given ++ t.log.reads.latest
      ≡ s.log.reads.given ++ (before.got ++ t.log.reads.latest) =
      ap (λ l. l ++ t.log.reads.latest) before.given
      ∙ append_assoc s.log.reads.given before.got t.log.reads.latest in
      record {
        came = before.got;
        given = ap (λ l. l.reads.given) told
            ∙ ap (λ l. last.before.log.reads.given ++ l) (sym (ap (λ l. l.reads.latest) told)) ∙ there;
        few = omega (arith, wants.0, ap length before.bytes, number);
        offer = omega (
          arith,
          number,
          last.offer,
          room_readied last.before.policy.0 last.before.block last.ordered.seen wants.1 wants.0
              (omega (arith, number, twice, before.capacity)),
        );
        whole = λ none.
            let empty : length s.block.bytes ≡ 0 =
            omega (arith, ap length none, length-append s.block.bytes before.got) in
            let first : last.count ≡ 0 = omega (arith, last.saw, ap length before.bytes, ap length none) in
            let same : s ≡ last.before = subst (λ k. Turns min_read_rules k s last.before) first last.turns in
            let all : usable s.block ≡ s.block.capacity =
            subst (λ k. OnKind k (length s.block.bytes ≡ 0 → usable s.block ≡ s.block.capacity)
            (length s.block.bytes + usable s.block ≡ s.block.capacity)) plain block.space empty in
            let here : usable last.before.block ≡ s.block.capacity = ap (λ x. usable x.block) (sym same) ∙ all in
            let kept = wants.1.enough (omega (arith, here, number, twice)) in
            last.offer ∙ ap (λ b. usable b) kept ∙ here;
        asks = omega (arith, last.asks, before.many);
      }

  -- nothing was asked, or something
  asked_turns : (k : ℕ) (m t : Buffered S MinBuffered) → Turns min_read_rules k s m → t.log ≡ m.log
      → (t.log ≡ s.log) ⊎ (s.log.reads.asks < t.log.reads.asks)
  asked_turns zero m t same told = inl (told ∙ ap (λ x. x.log) (sym same))
  asked_turns (suc k) m t run told =
      inr (omega (arith, ap (λ l. l.reads.asks) told, (turns_gave (suc k) s m run).asks))

  asked_after : (k : ℕ) (m t : Buffered S MinBuffered) → Turns min_read_rules k s m
      → t.log.reads.asks ≡ m.log.reads.asks + 1 → s.log.reads.asks < t.log.reads.asks
  asked_after k m t run asks = omega (arith, asks, (turns_gave k s m run).asks)

  fill_asked : {A : Type 0} (answer : Result A Error) (t : Buffered S MinBuffered)
      → Filled min_read_rules s answer t → (t.log ≡ s.log) ⊎ (s.log.reads.asks < t.log.reads.asks)
  fill_asked (Ok a) t f = elim f.ends [
    | inl declined ↦ asked_turns f.count f.last t f.turns declined.told
    | inr (inl full) ↦ asked_turns f.count f.last t f.turns full.1.told
    | inr (inr dry) ↦ inr (asked_after f.count f.last t f.turns (ap (λ l. l.reads.asks) dry.read.told))
  ]
  fill_asked (Err e) t f = elim f.ends [
    | inl refused ↦ asked_turns f.count f.last t f.turns refused.told
    | inr fault ↦ inr (asked_after f.count f.last t f.turns (ap (λ l. l.reads.asks) fault.read.told))
  ]

  -- where enough came, each ask gave a byte
  pub fill_gave : {A : Type 0} (a : A) (t : Buffered S MinBuffered) (fills : Fills min_read_rules s (Ok a) t)
      → s.policy.0 ≤ length t.block.bytes
      → t.log.reads.asks + length s.log.reads.given ≤ s.log.reads.asks + length t.log.reads.given
  fill_gave a t fills many =
      let f = fills.filled in
      let before = turns_gave f.count s f.last f.turns in
      let quiet : (t.log ≡ f.last.log)
      → t.log.reads.asks + length s.log.reads.given ≤ s.log.reads.asks + length t.log.reads.given =
      λ told. omega (
        arith,
        before.asks,
        before.many,
        ap length before.given,
        length-append s.log.reads.given before.got,
        ap (λ l. l.reads.asks) told,
        ap (λ l. length l.reads.given) told,
      ) in
      elim f.ends [
        | inl declined ↦ quiet declined.told
        | inr (inl full) ↦ quiet full.1.told
        | inr (inr dry) ↦ absurd (enough_never_dry s t a fills dry many)
      ]

  -- a fill that found too few, and didn't fail for the policy, asked
  asks_on : (t : Buffered S MinBuffered) → (t.log ≡ s.log) ⊎ (s.log.reads.asks < t.log.reads.asks) → ¬ (t.log ≡ s.log)
      → s.log.reads.asks < t.log.reads.asks
  asks_on t (inl same) odd = absurd (odd same)
  asks_on t (inr some) odd = some

  asks_enough : {A : Type 0} (a : A) (t : Buffered S MinBuffered) → Fills min_read_rules s (Ok a) t
      → length s.block.bytes < s.policy.0 → s.log.reads.asks < t.log.reads.asks
  asks_enough a t fills few = asks_on t (fill_asked (Ok a) t fills.filled) (λ same. elim (fills.ahead.enough refl) [
    | inl many ↦ omega (
      arith,
      many,
      few,
      ap length fills.in_order.equal,
      length-append s.block.bytes fills.in_order.got,
      ap length fills.in_order.given,
      length-append s.log.reads.given fills.in_order.got,
      ap (λ l. length l.reads.given) same,
    )
    | inr dry ↦ omega (arith, dry, ap (λ l. l.reads.zero_reads) same)
  ])

  asks_failed : {A : Type 0} (e : Error) (t : Buffered S MinBuffered) → Fills {A = A} min_read_rules s (Err e) t
      → t.log.reads.faults ≡ s.log.reads.faults ++ e ∷ [] → s.log.reads.asks < t.log.reads.asks
  asks_failed e t fills fault = asks_on t (fill_asked (Err e) t fills.filled) (λ same. omega (
    arith,
    ap length fault,
    length-append s.log.reads.faults (e ∷ []),
    ap (λ l. length l.reads.faults) same,
  ))

-- the policy didn't fail, since the buffer has the capacity
no_policy_error : {S : Type 0} (e : Error) (s t : Buffered S MinBuffered) → t.policy.0 ≤ t.block.capacity
    → PolicyGave min_read_rules (Err e) s t → ⊥
no_policy_error e s t holds gave =
    let table = gave.gave.allowed in
    omega (arith, holds, table.3.refused.tight, ap (λ p. p.0) table.0, ap (λ b. b.capacity) table.1)

module _ {S D W : Type 0} (remaining : S → Option (List ℕ)) (g : Grammar W) (n : ℕ) (s : ReaderState S D)
    (whole : IsPieceReader g s) (handed : s.handed ≡ 0) (few : length (rest s) < n) (most : n ≤ g.most)
    (not_ended : s.ended ≡ false) (p : MinBuffered) (number : p.0 ≡ n) (answer : Result (Bor (List ℕ)) Error)
    (t : Buffered S MinBuffered) (f : FillBuf remaining min_read_rules (with_policy s.reader p) answer t) where
  abbrev pub filled : ReaderState S D
  filled = record s { reader = t }

  claimed : t.policy.0 ≡ p.0
  claimed = ap (λ c. number_of c.minimum) f.fills.claims

  holds : p.0 ≤ s.reader.block.capacity
  holds = omega (arith, number, most, whole.capacity)

  capacity : t.block.capacity ≡ s.reader.block.capacity
  capacity = f.fills.ahead.capacity holds

  grown : t.block.bytes ≡ s.reader.block.bytes ++ f.fills.in_order.got
  grown = f.fills.in_order.equal

  rest_grown : drop s.handed t.block.bytes ≡ rest s ++ f.fills.in_order.got
  rest_grown =
      ap (λ n. drop n t.block.bytes) handed ∙ grown ∙ ap (λ l. l ++ f.fills.in_order.got) (sym (rest_whole s handed))

  pub filled_whole : IsPieceReader g filled
  filled_whole =
      let within : s.seen ≤ length (rest s) = omega (arith, whole.handed, handed, ap length (rest_whole s handed)) in
      record {
        block = f.fills.whole;
        plain = f.fills.kind ∙ whole.plain;
        capacity = omega (arith, capacity, whole.capacity);
        limit = f.fills.ahead.limit ∙ whole.limit ∙ sym capacity;
        ahead = omega (arith, claimed, number, most);
        handed = omega (
          arith,
          whole.handed,
          ap length grown,
          length-append s.reader.block.bytes f.fills.in_order.got,
        );
        searched = subst (λ l. IsOpen g (take s.seen l)) (sym rest_grown)
            (subst (IsOpen g) (sym (take-append-le s.seen (rest s) f.fills.in_order.got within)) whole.searched);
        ended = λ is. (let odd : true ≡ false = sym is ∙ not_ended in cc);
      }

  went : s.reader.log.reads.asks < t.log.reads.asks → PiecesWent remaining g.most s [] filled
  went some =
      let held = (f.fills.sparing g.most (omega (arith, number, most))).plain whole.plain whole.capacity in
      record {
        hands = record { got = f.fills.in_order.got; given = f.fills.in_order.given; equal = rest_grown };
        known = f.known;
        grows = f.fills.grows;
        held = record { moved = held.moved; held = held.held };
        still = λ none. absurd (omega (arith, some, none));
        capacity = capacity;
        limit = f.fills.ahead.limit;
        decoder = refl;
      }

  few_asked : s.reader.log.reads.asks < t.log.reads.asks → AsksFew (with_policy s.reader p) t
  few_asked some = asked_few (with_policy s.reader p) answer t f.fills some
      (omega (arith, number, most, whole.capacity)) whole.block whole.plain

  there : (came : List ℕ) → rest s ++ came ≡ s.reader.block.bytes ++ came
  there came = ap (λ l. l ++ came) (rest_whole s handed)

  asked : s.reader.log.reads.asks < t.log.reads.asks
      → AskedOver (IsShortOf n s.reader.block.capacity t.log.reads.offer) (left_of s) (left_of filled)
  asked some =
      let few = few_asked some in
      record {
        came = few.came;
        given = few.given;
        such = (
          omega (arith, few.few, number, ap length (there few.came)),
          omega (arith, few.offer, number),
          λ none. few.whole (sym (there few.came) ∙ none),
        );
        some = some;
        asks = few.asks;
      }

  left : length (rest filled) ≡ length t.block.bytes
  left = ap length (rest_whole filled handed)

  -- where the read didn't fail, so many bytes came, or the stream ended
  pub AsksFor-ok : (bytes : Bor (List ℕ)) → answer ≡ Ok bytes → (some : Bool)
      → (some ≡ true → n ≤ length t.block.bytes) → (some ≡ false → length t.block.bytes < n)
      → AsksFor remaining g n s (Ok some) filled
  AsksFor-ok bytes is some more less =
      let old = with_policy s.reader p in
      let fills = subst (λ a. Fills min_read_rules old a t) is f.fills in
      let asking = asks_enough old bytes t fills (omega (arith, few, number, ap length (rest_whole s handed))) in
      record {
        went = went asking;
        handed = handed;
        seen = refl;
        ended = refl;
        asked = inr (not_ended, asked asking);
        more = λ yes.
            let came : some ≡ true = cc in
            let many : p.0 ≤ length t.block.bytes = omega (arith, number, more came) in (
              omega (arith, more came, left),
              none_where_enough old t bytes fills many,
              fills.caused,
              fill_gave old bytes t fills many,
            );
        end = λ no.
            let none : some ≡ false = cc in (
              omega (arith, less none, left),
              MetEnd-now s filled not_ended (once_at_end old t bytes fills (omega (arith, number, less none))),
              fills.caused,
            );
        failed = λ e other. cc;
        whole = filled_whole;
      }

  pub AsksFor-err : (e : Error) → answer ≡ Err e → AsksFor remaining g n s (Err e) filled
  AsksFor-err e is =
      let old = with_policy s.reader p in
      let fills = subst (λ a. Fills min_read_rules old a t) is f.fills in
      let fault : t.log.reads.faults ≡ s.reader.log.reads.faults ++ e ∷ [] = elim fills.caused [
        | inl met ↦ met
        | inr gave ↦ absurd (no_policy_error e old t (omega (arith, claimed, capacity, holds)) gave)
      ] in
      let asking = asks_failed old e t fills fault in
      record {
        went = went asking;
        handed = handed;
        seen = refl;
        ended = refl;
        asked = inr (not_ended, asked asking);
        more = λ other. cc;
        end = λ other. cc;
        failed = λ e' same.
            let is_that : e ≡ e' = cc in (
              omega (arith, fills.ahead.few refl, number, left),
              not_ended,
              none_before_fault old t e fills,
              subst (λ x. Faulted s x filled) is_that fault,
            );
        whole = filled_whole;
      }
