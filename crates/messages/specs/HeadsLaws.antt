-- Laws of heads.
use Rattle.std.specs.Prelude.{◌≡◌, ℕ, ◌≤◌, Bool, true, false, List, [], ◌∷◌, ◌++◌, length, take}
use Rattle.std.proofs.Common.{sym, ap, subst, inl, inr, ◌∙◌, arith, append_assoc, length-append}
use Rattle.messages.specs.Names.{as_known, Bad, Before, Begins, fault_on, fault_then, head_fault, HeaderError, heads, IsHead, IsHeadFault, IsLawful, IsNoHead, length-drop, Limits, lines, More, request_unique, scanned_headers, Sized, Start, texts, true≢false, turn, turn_fault}
use Rattle.std.proofs.lemmas.Bool.Decides.{nat_tests}
use Rattle.messages.specs.declared.bad_head.BadHead.{BadHead}
use Rattle.messages.specs.declared.bad_head.BadHead.TheVariants.{CutShort}
use Rattle.messages.specs.LinesLaws.{line_fault_stays, lines_small, texts_lawful}

-- no head has more bytes
pub text_few : (bytes none : List ℕ) → texts.piece bytes none → length bytes ≤ 16384
text_few bytes none is =
    let some = (scanned_headers lines lines_small).some bytes (length none) is.0 is.1 in
    omega (arith, some, is.2, ap length is.3, length-append none [], length-drop is.0 bytes)

-- lines that stand in front aren't wrong
clash : (bytes : List ℕ) (e : HeaderError) (b : Begins texts bytes) → ¬ (texts.wrong bytes e)
clash bytes e b bad = texts_lawful.apart b.piece b.payload b.more e b.is (subst (λ l. texts.wrong l e) b.equal bad)

-- a text has one name
one_fault : (limits : Limits) (bytes : List ℕ) (e e' : BadHead) → IsHeadFault limits bytes e → IsHeadFault limits bytes e'
    → e ≡ e'
one_fault limits bytes e e' (inl (h, few, is)) (inl (h', few', is')) =
    is ∙ ap head_fault (request_unique bytes h h' [] [] few.0 few'.0).0 ∙ sym is'
one_fault limits bytes e e' (inl (h, few, is)) (inr (none, is')) = absurd (none h few)
one_fault limits bytes e e' (inr (none, is)) (inl (h, few, is')) = absurd (none h few)
one_fault limits bytes e e' (inr (none, is)) (inr (none', is')) = is ∙ sym is'

reason : (limits : Limits) (bytes : List ℕ) (e e' : BadHead) → IsNoHead limits bytes e → IsNoHead limits bytes e' → e ≡ e'
reason limits bytes e e' (inl (why, bad, is)) (inl (why', bad', is')) = is ∙ sym is'
reason limits bytes e e' (inl (why, bad, is)) (inr (b, none, is')) = absurd (clash bytes why b bad)
reason limits bytes e e' (inr (b, none, is)) (inl (why, bad, is')) = absurd (clash bytes why b bad)
reason limits bytes e e' (inr (b, none, is)) (inr (b', none', is')) =
    let same = (texts_lawful.one b.piece b'.piece b.more b'.more b.payload b'.payload b.is b'.is (sym b.equal ∙ b'.equal)).0 in
    one_fault limits (as_known b.piece) e e' is (subst (λ l. IsHeadFault limits (as_known l) e') (sym same) is')

stays : (limits : Limits) (bytes more : List ℕ) (e : BadHead) → IsNoHead limits bytes e → IsNoHead limits (bytes ++ more) e
stays limits bytes more e (inl (why, bad, is)) =
    inl (why, texts_lawful.stays bytes more why bad, is ∙ sym (line_fault_stays bytes more why bad))
stays limits bytes more e (inr (b, none, is)) =
    let equal = ap (λ l. l ++ more) b.equal ∙ append_assoc b.piece b.more more in inr (
      record { piece = b.piece; payload = b.payload; more = b.more ++ more; is = b.is; equal = equal },
      none,
      is,
    )

nothing : (limits : Limits) (e : BadHead) → ¬ (IsNoHead limits [] e)
nothing limits e (inl (why, bad, is)) = texts_lawful.nothing why bad
nothing limits e (inr (b, none, is)) =
    absurd (omega (arith, texts_lawful.some b.piece b.payload b.is, ap length b.equal, length-append b.piece b.more))

-- where the stream ended in a head, the bytes alone aren't wrong
abbrev is_cut : BadHead → Bool
is_cut (CutShort have) = true
is_cut e = false

whole_lines : (place : Before) (bytes : List ℕ) → is_cut (fault_on place bytes) ≡ false
whole_lines place [] = grind (arith, nat_tests)
whole_lines place (byte ∷ bytes) =
    let whole : is_cut (turn_fault place byte) ≡ false = grind (arith, nat_tests) in
    elim (turn place byte) as (λ t. is_cut (fault_then t (turn_fault place byte) (λ next. fault_on next bytes)) ≡ false) [
      | More next ↦ whole_lines next bytes
      | Sized len ↦ whole
      | Bad ↦ whole
    ]

whole_fault : (limits : Limits) (bytes : List ℕ) (e : BadHead) → IsHeadFault limits bytes e → is_cut e ≡ false
whole_fault limits bytes e (inl (h, few, is)) = ap is_cut is ∙ grind (arith, nat_tests)
whole_fault limits bytes e (inr (none, is)) = ap is_cut is ∙ grind (arith, nat_tests)

pub never_cut : (limits : Limits) (bytes : List ℕ) (have : ℕ) → ¬ (IsNoHead limits bytes (CutShort have))
never_cut limits bytes have (inl (why, bad, is)) = absurd (true≢false (ap is_cut is ∙ whole_lines Start (take 16384 bytes)))
never_cut limits bytes have (inr (b, none, is)) = absurd (true≢false (whole_fault limits (as_known b.piece) (CutShort have) is))

pub heads_lawful : (limits : Limits) → IsLawful (heads limits)
heads_lawful limits = record {
  one = λ p q xs ys a b is is' same.
      let parts = texts_lawful.one p q xs ys is.none is'.none is.text is'.text same in
      (parts.0, is.same ∙ parts.0 ∙ sym is'.same);
  some = λ p a is. texts_lawful.some p is.none is.text;
  room = texts_lawful.room;
  apart = λ p a more e is no. elim no as (λ _. ⊥) [
    | inl wrong ↦ texts_lawful.apart p is.none more wrong.0 is.text wrong.1
    | inr refused ↦
        (let b = refused.0 in
        let parts = texts_lawful.one p b.piece more b.more is.none b.payload is.text b.is b.equal in
        refused.1 is.said (subst (λ l. IsHead limits l is.said) parts.0 is.is))
  ];
  reason = reason limits;
  stays = stays limits;
  nothing = nothing limits;
  one_last = λ bytes a b is. absurd is;
  end_apart = λ bytes a e is. absurd is;
}
