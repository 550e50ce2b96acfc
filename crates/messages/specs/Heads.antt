-- Heads of requests, and what they say of the body.
use Rattle.std.specs.Prelude.{◌≡◌, ◌⊎◌, ◌≢◌, ℕ, ◌<◌, ◌≤◌, ◌==◌, ◌↔◌, ◌&&◌, ◌||◌, not, nat_lt, Bool, false, List, [], codes, length, map, All, IsTrue, Option, None, Some, Result, Ok}
use Rattle.std.specs.List.{list_all}
use Rattle.codec.specs.declared.HeaderError.{HeaderError}
use Rattle.codec.specs.Grammar.{Begins, Grammar}
use Rattle.http1.specs.declared.framing.Framing.{Framing}
use Rattle.http1.specs.declared.framing.Framing.TheVariants as framing
use Rattle.http1.specs.declared.framing.FramingError.{FramingError}
use Rattle.http1.specs.declared.framing.MethodKind.TheVariants as kind
use Rattle.http1.specs.declared.fields.KnownFields.{KnownFields}
use Rattle.http1.specs.Fields.{elements, is_named}
use Rattle.http1.specs.Framing.{method_kind, request_framing}
use Rattle.http1.specs.Message.{has_one_host, known_of}
use Rattle.http1.specs.Text.{eq_ignore_case}
use Rattle.httparse.specs.Grammar.{ReadsRequest, RequestHead}
use Rattle.httparse.specs.Spans.{name_and_value}
use Rattle.messages.specs.Faults.{IsHeadFault}
use Rattle.messages.specs.Limits.{fields_of}
use Rattle.messages.specs.Lines.{line_fault, texts}
use Rattle.messages.specs.Target.{IsPlainField, IsTarget}
use Rattle.messages.specs.Versions.{as_known}
use Rattle.messages.specs.declared.bad_head.BadHead.{BadHead}
use Rattle.messages.specs.declared.bad_head.BadHead.TheVariants.{CutShort, LongHead}
use Rattle.messages.specs.declared.head.Extent.{Extent}
use Rattle.messages.specs.declared.head.Extent.TheVariants as extent
use Rattle.messages.specs.declared.head.ParsedHead.{ParsedHead}
use Rattle.messages.specs.declared.limits.Limits.{Limits}

-- where the body ends, if that is said plainly
abbrev pub extent_of : Result Framing FramingError → Option Extent
extent_of (Ok framing.NoBody) = Some (extent.Sized 0)
extent_of (Ok (framing.Length len)) = Some (extent.Sized len)
extent_of (Ok framing.Chunked) = Some extent.Chunked
extent_of _ = None

-- whether another request may follow (RFC 9112, section 9.3)
abbrev pub keeps : ℕ → KnownFields → Bool
keeps minor known = not known.close && (nat_lt 0 minor || known.keep_alive)

-- whether the client waits for a 100 before it sends the body (RFC 9110, section 10.1.1)
abbrev pub expects : ℕ → KnownFields → Bool
expects minor known = nat_lt 0 minor && known.expect_continue

-- an element of a list says nothing, or `100-continue`
abbrev pub is_expected : List ℕ → Bool
is_expected e = (length e == 0) || eq_ignore_case e (codes "100-continue")

-- the field is no `Expect`, or one of just such elements: else a server may answer 417 (the same)
abbrev pub is_met : List ℕ × List ℕ → Bool
is_met h = not (is_named (codes "expect") h) || list_all is_expected (elements h.1)

-- a request with these fields says plainly for whom it is, and where its body ends (RFC 9112, section 6): at most one field says
-- that, with no coding but `chunked`, no tunnel begins behind it, its target is one, and it has one `Host`, which HTTP/1.0 may
-- leave out, and which names a host or is empty
pub record SaysPlainly (method target : List ℕ) (minor : ℕ) (fields : List (List ℕ × List ℕ)) (known : KnownFields)
    (extent : Extent) : Type 0 where
  pub host : IsTrue (has_one_host minor known)
  pub single : known.framing_fields ≤ 1
  pub open' : method_kind method ≢ kind.Connect
  pub uncoded : known.other_coding ≡ false
  pub hosts : All IsPlainField fields
  pub form : IsTarget method target
  pub framed : extent_of (request_framing (method_kind method) minor known) ≡ Some extent

-- these bytes are just the head of a request of HTTP/1.0 or 1.1, which says so. An answer to `HEAD` has no body
pub record IsKnownHead (limits : Limits) (bytes : List ℕ) (said : ParsedHead) : Type 0 where
  pub head : RequestHead
  pub reads : ReadsRequest bytes head []
  pub few : length head.fields ≤ fields_of limits
  pub plain : SaysPlainly head.method head.target head.minor (map name_and_value head.fields) (known_of head.fields) said.extent
  pub bare : IsTrue said.bare ↔ (method_kind head.method ≡ kind.Head)
  pub keeps : said.keeps ≡ keeps head.minor (known_of head.fields)
  pub expects : said.expects ≡ expects head.minor (known_of head.fields)
  pub met : IsTrue said.met ↔ All (λ h. IsTrue (is_met h)) (map name_and_value head.fields)

-- the same of a later version of HTTP/1, which is read as if it were 1.1; no head has more bytes
pub record IsHead (limits : Limits) (bytes : List ℕ) (said : ParsedHead) : Type 0 where
  pub few : length bytes ≤ 16384
  pub known : IsKnownHead limits (as_known bytes) said

-- a head as a piece, lent whole
pub record IsHeadPiece (limits : Limits) (bytes payload : List ℕ) : Type 0 where
  pub same : payload ≡ bytes
  pub none : List ℕ
  pub text : texts.piece bytes none
  pub said : ParsedHead
  pub is : IsHead limits bytes said

-- why a text is no head: it is too long, or what it is
abbrev pub IsRefused : Limits → List ℕ → BadHead → Type 0
IsRefused limits bytes e = ((16384 < length bytes) × (e ≡ LongHead))
    ⊎ ((length bytes ≤ 16384) × IsHeadFault limits (as_known bytes) e)

-- these are no lines, or lines in front are no such head, for this reason
abbrev pub IsNoHead : Limits → List ℕ → BadHead → Type 0
IsNoHead limits bytes e = ((why : HeaderError) × texts.wrong bytes why × (e ≡ line_fault bytes))
    ⊎ ((text : Begins texts bytes) × ((said : ParsedHead) → ¬ (IsHead limits text.piece said))
    × IsHeadFault limits (as_known text.piece) e)

abbrev pub heads : Limits → Grammar BadHead
heads limits = record {
  most = 16384;
  piece = IsHeadPiece limits;
  wrong = IsNoHead limits;
  last = λ bytes payload. ⊥;
  cut = λ bytes e. e ≡ CutShort (length bytes);
}
