-- Why a text whose lines end as those of a head is none.
use Rattle.std.specs.Prelude.{◌≡◌, ◌⊎◌, ℕ, ◌+◌, ◌≤◌, ◌==◌, ◌&&◌, ◌||◌, not, nat_lt, if◌then◌else◌, Bool, true, false, List, [], count_by, length, Result, Ok}
use Rattle.http1.specs.declared.fields.KnownFields.{KnownFields}
use Rattle.http1.specs.declared.framing.Framing.{Framing}
use Rattle.http1.specs.declared.framing.Framing.TheVariants.{Chunked}
use Rattle.http1.specs.declared.framing.FramingError.{FramingError}
use Rattle.http1.specs.declared.framing.MethodKind.{MethodKind}
use Rattle.http1.specs.declared.framing.MethodKind.TheVariants.{Connect}
use Rattle.http1.specs.Framing.{method_kind, request_framing}
use Rattle.http1.specs.Message.{has_one_host, known_of}
use Rattle.httparse.specs.Grammar.{ReadsRequest, RequestHead}
use Rattle.messages.specs.Limits.{fields_of}
use Rattle.messages.specs.Versions.{behind_blank, first_line, has_other_version}
use Rattle.messages.specs.declared.bad_head.BadHead.{BadHead}
use Rattle.messages.specs.declared.bad_head.BadHead.TheVariants.{ManyFields, Version, Tunnel, Coding, Refused}
use Rattle.messages.specs.declared.limits.Limits.{Limits}

-- between the first line and the empty one that ends a head stand more than it may have fields
abbrev pub has_many_lines : Limits → List ℕ → Bool
has_many_lines limits text = nat_lt (fields_of limits + 2) (count_by (λ b. b == 10) text)

-- what is wrong with a text that is no head of a request with so few fields
abbrev pub lines_fault : Limits → List ℕ → BadHead
lines_fault limits text =
    if has_many_lines limits text then ManyFields else (if has_other_version (first_line text) then Version else Refused)

abbrev pub text_fault : Limits → List ℕ → BadHead
text_fault limits bytes = lines_fault limits (behind_blank bytes)

abbrev pub is_connect : MethodKind → Bool
is_connect Connect = true
is_connect _ = false

abbrev pub ends_chunked : Result Framing FramingError → Bool
ends_chunked (Ok Chunked) = true
ends_chunked _ = false

-- for whom it is doesn't show plainly, or where its body ends
abbrev pub is_doubtful : ℕ → KnownFields → Bool
is_doubtful minor known = not (has_one_host minor known) || nat_lt 1 known.framing_fields

-- what is wrong with a head that says so: that; or behind it begins a tunnel; or its body ends plainly, by chunks, which hold
-- another coding
abbrev pub said_fault : MethodKind → ℕ → KnownFields → BadHead
said_fault method minor known =
    if is_doubtful minor known then Refused
    else (if is_connect method then Tunnel
    else (if known.other_coding && ends_chunked (request_framing method minor known) then Coding else Refused))

abbrev pub head_fault : RequestHead → BadHead
head_fault h = said_fault (method_kind h.method) h.minor (known_of h.fields)

-- these bytes are just this head of a request, which has few fields
abbrev pub IsFew : Limits → List ℕ → RequestHead → Type 0
IsFew limits bytes h = ReadsRequest bytes h [] × (length h.fields ≤ fields_of limits)

-- if they are none that counts here, this says why: by the head that they are, and else by what they are
abbrev pub IsHeadFault : Limits → List ℕ → BadHead → Type 0
IsHeadFault limits bytes e = ((h : RequestHead) × IsFew limits bytes h × (e ≡ head_fault h))
    ⊎ (((h : RequestHead) → ¬ (IsFew limits bytes h)) × (e ≡ text_fault limits bytes))
