-- What is written: calls for bodies, answers, and refusals.
use Rattle.std.specs.Prelude.{ℕ, ◌&&◌, ◌||◌, not, nat_lt, if◌then◌else◌, Bool, true, false, List, [], ◌++◌, length, drop, nat_eq, Option, None, Some, codes}
use Rattle.std.specs.Fmt.{decimal}
use Rattle.std.specs.List.{prefix_len, starts_with}
use Rattle.messages.specs.declared.bad_head.BadHead.{BadHead}
use Rattle.messages.specs.declared.bad_head.BadHead.TheVariants.{BareEnd, LongLine, LongHead, ManyFields, CutShort, Version, Tunnel, Coding, Refused}
use Rattle.messages.specs.declared.head.Extent.{Extent}
use Rattle.messages.specs.declared.head.Extent.TheVariants.{Sized, Chunked}
use Rattle.messages.specs.declared.head.ParsedHead.{ParsedHead}
use Rattle.messages.specs.Versions.{is_end}
use Rattle.requests.specs.declared.writing.Refusal.{Refusal}
use Rattle.requests.specs.declared.writing.Refusal.TheVariants.{BadRequest, LargeBody, LongTarget, LargeHead, Unmet, Unknown, OtherVersion}
use Rattle.requests.specs.Large.{is_large}

-- a call for a body, where there is one
abbrev pub called : Bool → List ℕ
called true = codes "HTTP/1.1 100 Continue\r\n\r\n"
called false = []

abbrev pub status : Refusal → List ℕ
status BadRequest = codes "400 Bad Request"
status LargeBody = codes "413 Content Too Large"
status LongTarget = codes "414 URI Too Long"
status Unmet = codes "417 Expectation Failed"
status LargeHead = codes "431 Request Header Fields Too Large"
status Unknown = codes "501 Not Implemented"
status OtherVersion = codes "505 HTTP Version Not Supported"

abbrev pub connection : Bool → List ℕ
connection true = codes "keep-alive"
connection false = codes "close"

-- a refusal by such a status, where another request may follow, or none
abbrev pub refusal : Refusal → Bool → List ℕ
refusal why keeps = codes "HTTP/1.1 " ++ (status why ++ (codes "\r\nContent-Length: 0\r\nConnection: "
    ++ (connection keeps ++ codes "\r\n\r\n")))

-- by which status what is no head is refused (RFC 9110, section 15; RFC 6585, section 5; RFC 9112, sections 3 and 6.1)
abbrev pub refusal_of : BadHead → Refusal
refusal_of BareEnd = BadRequest
refusal_of LongLine = LongTarget
refusal_of LongHead = LargeHead
refusal_of ManyFields = LargeHead
refusal_of (CutShort have) = BadRequest
refusal_of Version = OtherVersion
refusal_of Tunnel = Unknown
refusal_of Coding = Unknown
refusal_of Refused = BadRequest

-- whether the client waits for a call, and there is a body to come, which isn't refused at once
abbrev pub has_body : Extent → Bool
has_body (Sized len) = nat_lt 0 len
has_body Chunked = true

abbrev pub waits : ParsedHead → Bool
waits said = said.expects && (has_body said.extent && not (is_large said.extent 0 0))

-- what its head settles is said to such a client at once, and not behind the body that it would then send (RFC 9110, section
-- 10.1.1): nobody here knows the method, or does what is expected
abbrev pub early_refusal : Bool → ParsedHead → Option Refusal
early_refusal known said =
    if waits said then (if known then (if said.met then None else Some Unmet) else Some Unknown) else None

-- and else it is called
abbrev pub is_called : Bool → ParsedHead → Bool
is_called known said = waits said && (known && said.met)

-- how much payload there was, in 21 bytes
abbrev pub length_line : ℕ → List ℕ
length_line len = drop (length (decimal len)) (codes "                    ") ++ (decimal len ++ codes "\n")

-- 200, where another request may follow, or none
abbrev pub success : Bool → List ℕ
success true = codes "HTTP/1.1 200 OK\r\nContent-Length: 21\r\nConnection: keep-alive\r\n\r\n"
success false = codes "HTTP/1.1 200 OK\r\nContent-Length: 21\r\nConnection: close\r\n\r\n"

-- that, and the length, which isn't sent to `HEAD`
abbrev pub granted : ParsedHead → ℕ → List ℕ
granted said len = success said.keeps ++ (if said.bare then [] else length_line len)

-- a line begins with a method that is known (RFC 9110, section 9.3, and RFC 5789)
abbrev pub begins_often : List ℕ → Bool
begins_often line = starts_with nat_eq line (codes "GET ") || (starts_with nat_eq line (codes "HEAD ")
    || (starts_with nat_eq line (codes "POST ") || starts_with nat_eq line (codes "PUT ")))

abbrev pub begins_known : List ℕ → Bool
begins_known line = begins_often line
    || (starts_with nat_eq line (codes "DELETE ") || (starts_with nat_eq line (codes "OPTIONS ")
    || starts_with nat_eq line (codes "PATCH ")))

-- a head's first line, behind empty ones
abbrev pub is_known : List ℕ → Bool
is_known head = begins_known (drop (prefix_len is_end head) head)

-- 200, or 501 to a method that isn't known, or 417 to who expects what nobody here does (RFC 9110, section 10.1.1)
abbrev pub answered : Bool → ParsedHead → ℕ → List ℕ
answered known said len =
    if known then (if said.met then granted said len else refusal Unmet said.keeps) else refusal Unknown said.keeps
