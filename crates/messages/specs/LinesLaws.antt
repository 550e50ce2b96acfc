-- What is wrong with lines stays so, and nothing is wrong with those of a request.
use Rattle.std.specs.Prelude.{◌≡◌, ℕ, zero, suc, ◌+◌, ◌-◌, ◌<◌, ◌≤◌, ◌==◌, if◌then◌else◌, Bool, true, false, All, IsTrue, List, [], ◌∷◌, ◌++◌, codes, flat_map, length, take}
use Rattle.std.proofs.Common.{sym, ap, subst, ◌∙◌, arith, refl, append_assoc, length-append}
use Rattle.httparse.specs.Grammar.{AllPass, crlf, Field, is_token_byte, is_uri_byte, is_value_byte, IsField, IsRequestHead, LineEnd, print_blank, print_end, print_field, print_request, print_section, print_version, RequestHead}
use Rattle.std.proofs.lemmas.Bool.Decides.{nat_tests}
use Rattle.messages.specs.Names.{All-head, All-tail, append-nil, Bad, Before, drop_all, EmptyReturn, EndsByBoth, fault_on, fault_then, Feed, FirstReturn, HeaderError, IsLawful, leads_on, leads_then, line_fault, lines, Method, More, Return, scanned_headers, ScanStep, Sized, Space, Start, StartReturn, Target, Text, texts, turn, turn_fault, Version}
use Rattle.codec.specs.declared.HeaderError.TheVariants.{NoHeader, TooLong, NoTail, Truncated}
use Rattle.codec.specs.declared.Header.TheVariants as header
use Rattle.codec.specs.HeaderFormatLaws.{length_prefixed_lawful}
use Rattle.codec.specs.Scanning.{IsSmall, LeadsTo, says, scan_on, scanned}

pub lines_small : IsSmall lines
lines_small = record { some = omega arith; small = omega arith }

pub texts_lawful : IsLawful texts
texts_lawful = length_prefixed_lawful (scanned lines) (scanned_headers lines lines_small)

-- more bytes change nothing where so many settled what is said
fault_stays : (left : ℕ) (place : Before) (used : ℕ) (bytes more : List ℕ)
    → ¬ (scan_on turn left place used bytes ≡ header.Short)
    → fault_on place (take left (bytes ++ more)) ≡ fault_on place (take left bytes)
fault_stays zero place used bytes more said = refl
fault_stays (suc left) place used [] more said = absurd (said refl)
fault_stays (suc left) place used (byte ∷ bytes) more said =
    elim (turn place byte) as (λ t. ¬ (says t (used + 1) (λ next. scan_on turn left next (used + 1) bytes) ≡ header.Short)
    → fault_then t (turn_fault place byte) (λ next. fault_on next (take left (bytes ++ more)))
    ≡ fault_then t (turn_fault place byte) (λ next. fault_on next (take left bytes))) [
      | More next ↦ fault_stays left next (used + 1) bytes more
      | Sized len ↦ λ said. refl
      | Bad ↦ λ said. refl
    ] said

not_short : (bytes : List ℕ) (why : HeaderError) → texts.wrong bytes why
    → ¬ (scan_on turn 16384 Start 0 bytes ≡ header.Short)
not_short bytes NoHeader is short = cc
not_short bytes (TooLong len) (used, is, more) short = cc
not_short bytes NoTail (len, used, is, more, follows) short = cc
not_short bytes (Truncated have) wrong short = absurd wrong

pub line_fault_stays : (bytes more : List ℕ) (why : HeaderError) → texts.wrong bytes why
    → line_fault (bytes ++ more) ≡ line_fault bytes
line_fault_stays bytes more why wrong = fault_stays 16384 Start 0 bytes more (not_short bytes why wrong)

-- such bytes lead on from the one place to the other, and stay there
some_lead : (from place : Before) (test : ℕ → Bool) → ((b : ℕ) → test b ≡ true → turn from b ≡ More place)
    → ((b : ℕ) → test b ≡ true → turn place b ≡ More place) → (bytes : List ℕ) → 0 < length bytes → AllPass test bytes
    → LeadsTo turn from bytes place
some_lead from place test goes stays [] some all = absurd (omega (arith, some))
some_lead from place test goes stays (b ∷ []) some all = (place, goes b (All-head (λ x. IsTrue (test x)) b [] all), refl)
some_lead from place test goes stays (b ∷ c ∷ bytes) some all = (
  place,
  goes b (All-head (λ x. IsTrue (test x)) b (c ∷ bytes) all),
  some_lead place place test stays stays (c ∷ bytes) (omega arith) (All-tail (λ x. IsTrue (test x)) b (c ∷ bytes) all),
)

no_token : (is_token_byte 13 ≡ false) × (is_token_byte 10 ≡ false) × (is_token_byte 32 ≡ false)
unfolding is_token_byte
no_token = (refl, refl, refl)

-- what such a test lets through is a byte of a text
stays_text : (test : ℕ → Bool) → test 13 ≡ false → test 10 ≡ false → (on : ScanStep Before) (b : ℕ) → test b ≡ true
    → (if b == 13 then on else (if b == 10 then Bad else More Text)) ≡ More Text
stays_text test no_return no_feed on b passes = grind (arith, nat_tests)

blank_leads : (ends : List LineEnd) → All (λ end. end ≡ crlf) ends → LeadsTo turn Start (print_blank ends) Start
blank_leads [] all = refl
blank_leads (end ∷ ends) all =
    rw (All-head (λ e. e ≡ crlf) end ends all) (
      StartReturn,
      rw no_token.0 refl,
      (Start, refl, blank_leads ends (All-tail (λ e. e ≡ crlf) end ends all)),
    )

raw_leads : (bytes : List ℕ) → AllPass is_value_byte bytes → LeadsTo turn Text bytes Text
raw_leads [] all = refl
raw_leads (b ∷ bytes) all =
    let stays = stays_text is_value_byte refl refl (More Return) in
    some_lead Text Text is_value_byte stays stays (b ∷ bytes) (omega arith) all

field_leads : (f : Field) → IsField f → f.end ≡ crlf → LeadsTo turn Feed (print_field f) Feed
field_leads f is end =
    let stays = stays_text is_token_byte no_token.0 no_token.1 in
    let equal : f.name ++ 58 ∷ (f.raw ++ print_end f.end) ≡ print_field f = simp append_assoc in
    subst (λ l. LeadsTo turn Feed l Feed) equal
    (leads_then turn Feed f.name Text (58 ∷ (f.raw ++ print_end f.end)) Feed
    (some_lead Feed Text is_token_byte (stays (More EmptyReturn)) (stays (More Return)) f.name is.name.0 is.name.1) (
      Text,
      refl,
      leads_then turn Text f.raw Text (print_end f.end) Feed (raw_leads f.raw is.raw)
          (rw end (Return, refl, (Feed, refl, refl))),
    ))

fields_lead : (fields : List Field) → All IsField fields → All (λ f. f.end ≡ crlf) fields
    → LeadsTo turn Feed (flat_map print_field fields) Feed
fields_lead [] are ends = refl
fields_lead (f ∷ fields) are ends =
    leads_then turn Feed (print_field f) Feed (flat_map print_field fields) Feed
    (field_leads f (All-head IsField f fields are) (All-head (λ f. f.end ≡ crlf) f fields ends))
    (fields_lead fields (All-tail IsField f fields are) (All-tail (λ f. f.end ≡ crlf) f fields ends))

version_leads : (minor : ℕ) → minor ≤ 9 → LeadsTo turn (Version 0) (print_version minor) (Version 8)
version_leads minor small =
    let last : turn (Version 7) (48 + minor) ≡ More (Version 8) = grind (arith, nat_tests) in
    leads_then turn (Version 0) (codes "HTTP") (Version 4) (47 ∷ 49 ∷ 46 ∷ (48 + minor) ∷ []) (Version 8)
    (Version 1, refl, (Version 2, refl, (Version 3, refl, (Version 4, refl, refl))))
    (Version 5, refl, (Version 6, refl, (Version 7, refl, (Version 8, last, refl))))

but_last : (a b c d e f : List ℕ) → a ++ b ++ 32 ∷ c ++ 32 ∷ d ++ e ++ (f ++ 13 ∷ 10 ∷ [])
    ≡ (a ++ (b ++ 32 ∷ (c ++ 32 ∷ (d ++ (e ++ (f ++ 13 ∷ [])))))) ++ 10 ∷ []
but_last a b c d e f = simp append_assoc

-- the head of a request of HTTP/1.0 to 1.9, each line of which ends so, is such lines
pub request_lines : (h : RequestHead) (minor : ℕ) → IsRequestHead h → minor ≤ 9 → EndsByBoth h
    → length (print_request (record h { minor = minor })) ≤ 16384 → texts.piece (print_request (record h { minor = minor })) []
unfolding print_request
request_lines h minor is small ends few =
    let text = print_request (record h { minor = minor }) in
    let fields = flat_map print_field h.fields in
    let line = print_end h.line_end ++ (fields ++ 13 ∷ []) in
    let behind = print_version minor ++ line in
    let front = print_blank h.blank ++ (h.method ++ 32 ∷ (h.target ++ 32 ∷ behind)) in
    let section : LeadsTo turn Feed (fields ++ 13 ∷ []) EmptyReturn =
    leads_then turn Feed fields Feed (13 ∷ []) EmptyReturn (fields_lead h.fields is.fields ends.fields) (EmptyReturn, refl, refl)
    in
    let version : LeadsTo turn (Version 0) behind EmptyReturn =
    leads_then turn (Version 0) (print_version minor) (Version 8) line EmptyReturn
    (version_leads minor small) (rw ends.first (FirstReturn, refl, (Feed, refl, section))) in
    let target : LeadsTo turn Space (h.target ++ 32 ∷ behind) EmptyReturn =
    leads_then turn Space h.target Target (32 ∷ behind) EmptyReturn
    (some_lead Space Target is_uri_byte (λ b yes. rw yes refl) (λ b yes. rw yes refl) h.target is.target.0 is.target.1)
    (Version 0, refl, version) in
    let method : LeadsTo turn Start (h.method ++ 32 ∷ (h.target ++ 32 ∷ behind)) EmptyReturn =
    leads_then turn Start h.method Method (32 ∷ (h.target ++ 32 ∷ behind)) EmptyReturn
    (some_lead Start Method is_token_byte (λ b yes. rw yes refl) (λ b yes. rw yes refl) h.method is.method.0 is.method.1)
    (Space, rw no_token.2 refl, target) in
    let leads : LeadsTo turn Start front EmptyReturn =
    leads_then turn Start (print_blank h.blank) Start (h.method ++ 32 ∷ (h.target ++ 32 ∷ behind)) EmptyReturn
    (blank_leads h.blank ends.blank) method in
    let equal : text ≡ front ++ 10 ∷ [] = ap (λ e. print_blank h.blank ++ h.method ++ 32 ∷ h.target ++ 32 ∷ print_version minor
    ++ print_end h.line_end ++ print_section h.fields e) ends.last
    ∙ but_last (print_blank h.blank) h.method h.target (print_version minor) (print_end h.line_end) fields in
    let size : length text ≡ length front + 1 = ap length equal ∙ length-append front (10 ∷ []) in
    let left = 16383 - length front in (
      length front + 1,
      ap (scan_on turn 16384 Start 0) equal
          ∙ leads_on turn 16384 Start 0 front (10 ∷ []) EmptyReturn leads (suc left) (length front)
          (omega (arith, size, few)) (omega arith),
      omega arith,
      drop_all (length front + 1) text (omega (arith, size)),
    )

-- and so none of its beginnings is refused
pub never_refused : (h : RequestHead) (minor : ℕ) → IsRequestHead h → minor ≤ 9 → EndsByBoth h
    → length (print_request (record h { minor = minor })) ≤ 16384
    → (front more : List ℕ) → print_request (record h { minor = minor }) ≡ front ++ more
    → (why : HeaderError) → ¬ (texts.wrong front why)
never_refused h minor is small ends few front more equal why wrong =
    let text = print_request (record h { minor = minor }) in
    texts_lawful.apart text [] [] why (request_lines h minor is small ends few)
    (subst (λ l. texts.wrong l why) (sym (append-nil text ∙ equal)) (texts_lawful.stays front more why wrong))
