-- What the reader of a body does, told of a reader in one.
use Rattle.std.proofs.Common.{◌≡◌, ◌↔◌, ◌≤◌, ◌∙◌, ℕ, List, [], ◌++◌, length, take, drop, Option, Result, Ok, Err, IfOk, ap, arith, rules, length-append, refl, subst, sym, take-append-drop}
use Rattle.std.specs.declared.io.Error.{Error}
use Rattle.messages.specs.Names.{after_read, Agree-nothing, append_cancel_left, body_answer, body_rules, BodyCoding, BodyWent, handed_of, handed_out, heeded, InsideGoes, IsBodyReader, IsDone, IsRoomy, Leads-done, Leads-whole, LeavesPlaces, LeavesRest, LeavesRoom, Limits, ParsedHead, Place, Reader, ReadsAlong-stream, ReadsAsIo, ReadsPayload, room_of, Side, std_read_rules, StreamLog, StreamWent-unasked, TellsWhy, TookWholeBody, unbuffered, WhyNone}
use Rattle.body_reader.specs.BodyReaderLaws.{BodyWent-leads}
use Rattle.body_reader.specs.declared.either.Either.TheVariants as coding
use Rattle.body_reader.specs.declared.either.Side.TheVariants as side
use Rattle.buffer_redux.specs.declared.policy.StdPolicy.{StdPolicy}
use Rattle.messages.specs.MessagesLaws.{body_lawful, one_ahead, same_room}

-- why none comes is told by its name here
pub tells_why : {A : Type 0} (place : Side ℕ Place) (Does : Result A WhyNone → Type 0) (told : Result A WhyNone) → Does told
    → TellsWhy place Does (body_answer place told)
tells_why place Does (Ok a) did = did
tells_why place Does (Err e) did = (e, refl, did)

-- an Ok says what it said, and of a slice is left what was
pub ok_named : (place : Side ℕ Place) (told : Result ℕ WhyNone) (Says : ℕ → Type 0) → IfOk told Says
    → IfOk (body_answer place told) Says
ok_named place (Ok n) Says says = says
ok_named place (Err e) Says says = tt

pub rest_named : (place : Side ℕ Place) (told : Result ℕ WhyNone) (capacity : ℕ) (out out' : List ℕ)
    → LeavesRest capacity out told out' → LeavesRest capacity out (body_answer place told) out'
rest_named place (Ok n) capacity out out' rest = rest
rest_named place (Err e) capacity out out' rest = rest

-- the policy leaves the buffer as it is
std_leaves : LeavesRoom {Q = StdPolicy} std_read_rules
std_leaves p b n p' b' left = (ap (λ b. b.capacity) left.1, ap (λ b. b.limit) left.1)

std_stays : LeavesPlaces {Q = StdPolicy} std_read_rules
std_stays p b n p' b' left = ap (λ b. b.moved) left.1

-- a body of a length ended where no byte is left of it
none_due : (c : BodyCoding) (p : Side ℕ Place) (n : ℕ) → (body_rules c).is_place p → p ≡ side.First n → n ≡ 0
    → IsDone (body_rules c) p
none_due (coding.First c) (side.First left) n is same none = let all : left ≡ n = cc in (sym (all ∙ none), refl)
none_due (coding.Second c) (side.Second q) n is same none = absurd (cc)
none_due c p n is same none = absurd is

-- and so many bytes complete it
all_due : (c : BodyCoding) (p : Side ℕ Place) (n : ℕ) (wire payload : List ℕ) → p ≡ side.First n
    → (body_rules c).completes p wire payload → length wire ≡ n
all_due (coding.First c) (side.First left) n wire payload same done = let all : left ≡ n = cc in done.0 ∙ all
all_due (coding.Second c) (side.Second q) n wire payload same done = absurd (cc)
all_due c p n wire payload same done = absurd done

pub sized_ended : {R : Type 0} (d : Reader R) → IsBodyReader (body_rules d.coding) d → (n : ℕ) → d.place ≡ side.First n
    → TookWholeBody (body_rules d.coding) d ↔ n ≡ 0
sized_ended d is n same =
    let g = heeded (body_rules d.coding) d.reader.block.bytes in (
      λ whole. sym (all_due d.coding d.place n [] [] same
          (Leads-done (body_rules d.coding) (body_lawful d.coding) d.taken (handed_of d) d.place g is.leads is.place whole)),
      λ none. Leads-whole (body_rules d.coding) d.taken (handed_of d) d.place g is.leads
          (none_due d.coding d.place n is.place same none),
    )

-- who goes on to its end takes just those
pub sized_took : {R : Type 0} {remaining : R → Option (List ℕ)} {s t : Reader R} {handed : List ℕ}
    → IsBodyReader (body_rules s.coding) s → IsBodyReader (body_rules s.coding) t
    → (went : BodyWent remaining std_read_rules (body_rules s.coding) s handed t) → TookWholeBody (body_rules s.coding) t
    → (n : ℕ) → s.place ≡ side.First n → length went.wire ≡ n
sized_took {remaining = remaining} {s = s} {t = t} {handed = handed} is is' went whole n same =
    let g = body_rules s.coding in
    let follow = heeded g t.reader.block.bytes in
    let done = Leads-done g (body_lawful s.coding) t.taken (handed_of t) t.place follow is'.leads is'.place whole in
    let leads = BodyWent-leads remaining std_read_rules g s t handed is is' went in
    let due = all_due s.coding s.place n (went.wire ++ []) (handed ++ []) same (leads.onward [] [] (Agree-nothing follow) done) in
    grind (arith, length-append)

-- calls of the reader
module _ {R : Type 0} {remaining : R → Option (List ℕ)} {s t : Reader R} {handed : List ℕ}
    (went : BodyWent remaining std_read_rules (body_rules s.coding) s handed t) where
  -- of those that asked for nothing the front was taken, so the rest is left
  pub front_taken : (n : ℕ) → t.taken ≡ s.taken ++ take n s.reader.block.bytes → t.reader.log ≡ s.reader.log
      → t.reader.block.bytes ≡ drop n s.reader.block.bytes
  front_taken n taken told =
      let bytes = s.reader.block.bytes in
      let wire : went.wire ≡ take n bytes = append_cancel_left s.taken went.wire (take n bytes) (sym went.taken ∙ taken) in
      append_cancel_left (take n bytes) t.reader.block.bytes (drop n bytes) (ap (λ l. l ++ t.reader.block.bytes) (sym wire)
      ∙ StreamWent-unasked remaining (unbuffered s.reader) (unbuffered t.reader) went.wire
      (ReadsAlong-stream remaining std_read_rules s.reader went.wire t.reader went.along) told
      ∙ sym (take-append-drop n bytes))

  module _ (room : IsRoomy s.reader.block) where
    pub body_room : IsRoomy t.reader.block
    body_room = let kept = went.keeps.room std_leaves in search rules

    pub body_kept : room_of t.reader.block ≡ room_of s.reader.block
    body_kept = let kept = went.keeps.room std_leaves in same_room t.reader.block s.reader.block kept.0 kept.1

    pub body_still : t.reader.block.moved ≡ s.reader.block.moved
    body_still =
        let least : (body_rules s.coding).ahead ≤ 1 = omega (arith, one_ahead s.coding) in
        let kept = (went.keeps.spared 1 least (omega arith)).plain room.kind (omega (arith, room.capacity)) in
        omega (arith, kept.moved, went.keeps.unmoved std_stays least room.kind)

    pub body_goes : {limits : Limits} {head : List ℕ} {said : ParsedHead} → IsBodyReader (body_rules s.coding) t
        → InsideGoes remaining (record { body = s; limits = limits; head = head; said = said }) handed
        (record { body = t; limits = limits; head = head; said = said })
    body_goes whole =
        let is = subst (λ c. IsBodyReader (body_rules c) t) (sym went.coding) whole in
        search (rules, body_kept, body_still)

-- what a read did
module _ {R : Type 0} {remaining : R → Option (List ℕ)} {s t : Reader R} {out : List ℕ} where
  pub read_went : (place : Side ℕ Place) (told : Result ℕ WhyNone)
      → ReadsPayload remaining std_read_rules (body_rules s.coding) s out told t
      → BodyWent remaining std_read_rules (body_rules s.coding) s (handed_out out (body_answer place told)) t
  read_went place (Ok n) reads = reads.went
  read_went place (Err e) reads = reads.went

given_of : (calls : StreamLog) (out : List ℕ) (answer : Result ℕ Error)
    → (after_read calls out answer).reads.given ≡ calls.reads.given ++ handed_out out answer
given_of calls out (Ok n) = refl
given_of calls out (Err e) = refl

-- and one as std's, which is told
module _ {R : Type 0} (remaining : R → Option (List ℕ)) (s t : Reader R) (out : List ℕ) (untold : StreamLog) where
  io_went : (answer : Result ℕ Error)
      → ReadsAsIo remaining std_read_rules (body_rules s.coding) s out answer (record t { calls = untold })
      → BodyWent remaining std_read_rules (body_rules s.coding) s (handed_out out answer) (record t { calls = untold })
  io_went (Ok n) reads = reads.went
  io_went (Err e) reads = reads.1.went

  pub told_went : (answer : Result ℕ Error)
      → ReadsAsIo remaining std_read_rules (body_rules s.coding) s out answer (record t { calls = untold })
      → t.calls ≡ after_read s.calls out answer
      → BodyWent remaining std_read_rules (body_rules s.coding) s (handed_out out answer) t
  told_went answer reads told =
      let went = io_went answer reads in
      let handed = ap (λ l. l.reads.given) told ∙ given_of s.calls out answer in
      search rules
