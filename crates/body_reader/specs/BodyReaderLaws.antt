-- Laws of a reader of a body.
use Rattle.std.proofs.Common.{◌≡◌, ◌≤◌, arith, ℕ, zero, suc, List, [], ◌++◌, length, take, drop, Option, None, Some, sym, ap, subst, ◌∙◌, refl, append_assoc, append-nil}
use Rattle.std.proofs.lemmas.List.{append_cancel_left, drop_at}
use Rattle.std.specs.Io.KnownBytes.{Consumes}
use Rattle.buffer_redux.specs.Buffered.{Buffered}
use Rattle.buffer_redux.specs.Policy.{ReadRules}
use Rattle.buffer_redux.specs.ReaderLaws.{ReadsAlong-none, ReadsAlong-joins, ReadsInOrder-ahead}
use Rattle.buffer_redux.specs.Remaining.{ahead}
use Rattle.buffer_redux.specs.StreamLog.{StreamLog}
use Rattle.body_reader.specs.BetweenLaws.{KeepsBuffer-joins, KeepsBuffer-none}
use Rattle.body_reader.specs.BodyReader.{BodyState, BodyWent, IsBodyReader, NotedIfSome, TookWholeBody, begun, handed_of}
use Rattle.body_reader.specs.Given.{HandsGiven}
use Rattle.body_reader.specs.Coding.{Agree, Grammar, IsBody, IsLawful, Leads, heeded}
use Rattle.body_reader.specs.CodingLaws.{Agree-front, Agree-less, Leads-left, Leads-none, heeded_on}

-- just what was handed out is noted
pub NotedIfSome-given : (calls : StreamLog) (out : List ℕ) (handed : ℕ) (later : StreamLog) → NotedIfSome calls out handed later
    → later.reads.given ≡ calls.reads.given ++ take handed out
NotedIfSome-given calls out zero later noted = ap (λ l. l.reads.given) (noted.1 refl) ∙ sym (append-nil calls.reads.given)
NotedIfSome-given calls out (suc n) later noted = ap (λ l. l.reads.given) (noted.0 (omega arith))

-- a reader that was just made stands before a body
pub begun-is : {S Q C P W : Type 0} (g : Grammar P W) → IsLawful g → (reader : Buffered S Q) (coding : C)
    → (g.ahead) ≤ reader.block.capacity → IsBodyReader g (begun g reader coding)
begun-is g lawful reader coding room = grind (arith, Leads-none)

module _ {S Q C P W : Type 0} (remaining : S → Option (List ℕ)) (rules : ReadRules Q) (g : Grammar P W) where
  -- no call hands out nothing, and two traces of calls join
  pub BodyWent-none : (s : BodyState S Q C P) → BodyWent remaining rules g s [] s
  BodyWent-none s = record {
    wire = [];
    along = ReadsAlong-none remaining rules s.reader;
    taken = sym (append-nil s.taken);
    handed = sym (append-nil (handed_of s));
    coding = refl;
    keeps = KeepsBuffer-none rules g.ahead s.reader;
  }

  pub BodyWent-joins : (s m t : BodyState S Q C P) (h k : List ℕ) → BodyWent remaining rules g s h m
      → BodyWent remaining rules g m k t → BodyWent remaining rules g s (h ++ k) t
  BodyWent-joins s m t h k a b = record {
    wire = a.wire ++ b.wire;
    along = ReadsAlong-joins remaining rules s.reader m.reader t.reader a.wire b.wire a.along b.along;
    taken = b.taken ∙ ap (λ l. l ++ b.wire) a.taken ∙ append_assoc s.taken a.wire b.wire;
    handed = b.handed ∙ ap (λ l. l ++ k) a.handed ∙ append_assoc (handed_of s) h k;
    coding = b.coding ∙ a.coding;
    keeps = KeepsBuffer-joins rules g.ahead s.reader m.reader t.reader a.wire b.wire a.along b.along a.keeps b.keeps;
  }

  -- where the bytes that are known to be left begin with a body, once it ended just what follows it is left
  pub BodyWent-behind : IsLawful g → (first : Buffered S Q) (coding : C)
      (body payload behind handed : List ℕ) (t : BodyState S Q C P) → ahead remaining first ≡ Some (body ++ behind)
      → IsBody g body payload → BodyWent remaining rules g (begun g first coding) handed t → TookWholeBody g t
      → (handed ≡ payload) × (ahead remaining t.reader ≡ Some behind)
  BodyWent-behind lawful first coding body payload behind handed t known is went whole =
      let left = left_then (ahead remaining first) (ahead remaining t.reader) (body ++ behind) went.wire known
      (ReadsInOrder-ahead remaining first t.reader went.wire went.along.in_order went.along.known) in
      let split : t.taken ++ left.0 ≡ body ++ behind = ap (λ l. l ++ left.0) went.taken ∙ sym left.2 in
      let same = lawful.one t.taken body (handed_of t) payload left.0 behind whole is split in
      let tails : left.0 ≡ behind =
      sym (drop_at body left.0 (length body) refl) ∙ ap (λ l. drop (length body) (l ++ left.0)) (sym same.0)
      ∙ ap (drop (length body)) split ∙ drop_at body behind (length body) refl in
      (sym went.handed ∙ same.1, left.1 ∙ ap (λ l. Some l) tails)
    where
      left_then : (a b : Option (List ℕ)) (bytes lost : List ℕ) → a ≡ Some bytes → Consumes a b lost
          → (more : List ℕ) × (b ≡ Some more) × (bytes ≡ lost ++ more)
      left_then None b bytes lost is gone = cc
      left_then (Some x) None bytes lost is gone = absurd gone
      left_then (Some x) (Some y) bytes lost is gone = (y, refl, (let same : x ≡ bytes = cc in sym same ∙ gone))

-- of bytes that begin with a body, a reader that took and shows the front of them has handed out the front of its payload;
-- nothing is wrong, nor missing; and once the body ended, just what follows it is buffered
module _ {S Q C P W : Type 0} (g : Grammar P W) (lawful : IsLawful g) (t : BodyState S Q C P) (is : IsBodyReader g t)
    (body payload behind rest : List ℕ) (is_body : IsBody g body payload)
    (same : body ++ behind ≡ t.taken ++ (t.reader.block.bytes ++ rest)) where
  pub given : HandsGiven g payload behind rest t
  given =
      let bytes = t.reader.block.bytes in
      let left = Leads-left g t.taken (handed_of t) t.place bytes is.leads body payload is_body behind rest same in
      record {
        front = (left.later, left.front);
        right = λ why breaks. breaks.none body payload behind rest is_body same;
        there = λ none early. early.none body payload behind is_body
            (same ∙ ap (λ l. t.taken ++ (bytes ++ l)) none ∙ ap (λ l. t.taken ++ l) (append-nil bytes));
        all = λ whole.
            let all = lawful.one t.taken body (handed_of t) payload (bytes ++ rest) behind whole is_body (sym same) in
            (all.1, append_cancel_left t.taken (bytes ++ rest) behind (sym same ∙ ap (λ l. l ++ behind) (sym all.0)));
      }

-- calls lead from place to place, with what they took and handed out
module _ {S Q C P W : Type 0} (remaining : S → Option (List ℕ)) (rules : ReadRules Q) (g : Grammar P W)
    (s t : BodyState S Q C P) (h : List ℕ) (is : IsBodyReader g s) (now : IsBodyReader g t)
    (went : BodyWent remaining rules g s h t) where
  on : (more : List ℕ)
      × (went.wire ++ heeded g t.reader.block.bytes ≡ heeded g s.reader.block.bytes ++ more)
  on = heeded_on g went.wire s.reader.block.bytes went.along.in_order.got t.reader.block.bytes went.along.in_order.equal

  follows : (rest : List ℕ) → Agree (heeded g t.reader.block.bytes) rest
      → Agree (heeded g s.reader.block.bytes) (went.wire ++ rest)
  follows rest agree = Agree-less (heeded g s.reader.block.bytes) on.0 (went.wire ++ rest)
      (subst (λ l. Agree l (went.wire ++ rest)) on.1 (Agree-front went.wire (heeded g t.reader.block.bytes) rest agree))

  taken_on : (rest : List ℕ) → t.taken ++ rest ≡ s.taken ++ (went.wire ++ rest)
  taken_on rest = ap (λ l. l ++ rest) went.taken ∙ append_assoc s.taken went.wire rest

  handed_on : (rest : List ℕ) → handed_of t ++ rest ≡ handed_of s ++ (h ++ rest)
  handed_on rest = ap (λ l. l ++ rest) went.handed ∙ append_assoc (handed_of s) h rest

  pub BodyWent-leads : Leads g s.place went.wire h t.place (heeded g t.reader.block.bytes)
  BodyWent-leads = record {
    onward = λ rest payload agree c.
        let far = subst (λ l. IsBody g l (handed_of s ++ (h ++ payload))) (taken_on rest)
        (subst (IsBody g (t.taken ++ rest)) (handed_on payload) (now.leads.onward rest payload agree c)) in
        let goes = is.leads.back (went.wire ++ rest) (handed_of s ++ (h ++ payload)) (follows rest agree) far in
        let same = append_cancel_left (handed_of s) (h ++ payload) goes.0 goes.1 in
        subst (g.completes s.place (went.wire ++ rest)) (sym same) goes.2;
    back = λ rest whole agree c.
        let far = subst (λ l. IsBody g l (handed_of s ++ whole)) (sym (taken_on rest))
        (is.leads.onward (went.wire ++ rest) whole (follows rest agree) c) in
        let goes = now.leads.back rest (handed_of s ++ whole) agree far in
        (goes.0, append_cancel_left (handed_of s) whole (h ++ goes.0) (goes.1 ∙ handed_on goes.0), goes.2);
    within = λ rest payload past c same.
        let agree : Agree (heeded g s.reader.block.bytes) rest = (
          on.0,
          past ++ heeded g t.reader.block.bytes,
          sym on.1 ∙ ap (λ l. l ++ heeded g t.reader.block.bytes) same
              ∙ append_assoc rest past (heeded g t.reader.block.bytes),
        ) in
        now.leads.within (s.taken ++ rest) (handed_of s ++ payload) past (is.leads.onward rest payload agree c)
        (went.taken ∙ ap (λ l. s.taken ++ l) same ∙ sym (append_assoc s.taken rest past));
  }
