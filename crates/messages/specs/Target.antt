-- What names the resource that is asked for: a target, and a `Host`, by RFC 3986.
use Rattle.std.specs.Prelude.{ℕ, ◌+◌, ◌<◌, ◌⊎◌, Bool, true, false, not, ◌&&◌, ◌||◌, List, length, take, drop, slice_index, nat_lt, if◌then◌else◌, ◌==◌, codes, bytes_eq, nat_eq, IsTrue}
use Rattle.http1.specs.Fields.{is_named}
use Rattle.http1.specs.Text.{eq_ignore_case}
use Rattle.std.specs.List.{list_all, list_any, prefix_len, starts_with}
use Rattle.std.specs.Char.{is_ascii_alphabetic, is_ascii_alphanumeric, is_ascii_digit, is_ascii_hexdigit}
use Rattle.std.specs.Net.Grammar.{IsIpv6Text}
use Rattle.std.specs.declared.net.ipv6_addr.Ipv6Addr.{Ipv6Addr}

-- the text has this byte there
abbrev pub has_at : List ℕ → ℕ → ℕ → Bool
has_at text at b = nat_lt at (length text) && (slice_index text at == b)

-- and a hexadecimal digit
abbrev pub has_hex_at : List ℕ → ℕ → Bool
has_hex_at text at = nat_lt at (length text) && is_ascii_hexdigit (slice_index text at)

-- if a `%` stands there, two such stand behind it (section 2.1)
abbrev pub is_whole_at : List ℕ → ℕ → Bool
is_whole_at text at = not (has_at text at 37) || (has_hex_at text (at + 1) && has_hex_at text (at + 2))

-- so it is everywhere
abbrev pub HasWholeEscapes : List ℕ → Type 0
HasWholeEscapes text = (at : ℕ) → at < length text → IsTrue (is_whole_at text at)

-- unreserved, or a sub-delim (sections 2.2 and 2.3)
abbrev pub is_plain_byte : ℕ → Bool
is_plain_byte b = is_ascii_alphanumeric b || list_any (λ c. c == b) (codes "-._~!$&'()*+,;=")

-- a byte of a name of a host: such, or one of an escape (section 3.2.2)
abbrev pub is_name_byte : ℕ → Bool
is_name_byte b = is_plain_byte b || (b == 37)

-- and of a user (section 3.2.1)
abbrev pub is_user_byte : ℕ → Bool
is_user_byte b = is_name_byte b || (b == 58)

-- and of a path or a query (sections 3.3 and 3.4)
abbrev pub is_path_byte : ℕ → Bool
is_path_byte b = is_name_byte b || list_any (λ c. c == b) (codes ":@/?")

-- and of an address of a later version than 6, which has no escapes (section 3.2.2)
abbrev pub is_future_byte : ℕ → Bool
is_future_byte b = is_plain_byte b || (b == 58)

-- and of a scheme (section 3.1)
abbrev pub is_scheme_byte : ℕ → Bool
is_scheme_byte b = is_ascii_alphanumeric b || list_any (λ c. c == b) (codes "+-.")

-- nothing, or a colon and digits (section 3.2.3)
abbrev pub is_port : List ℕ → Bool
is_port text = (length text == 0) || (has_at text 0 58 && list_all is_ascii_digit (drop 1 text))

-- a name and a port, or nothing
abbrev pub is_name : List ℕ → Bool
is_name text = let len = prefix_len is_name_byte text in
    (length text == 0) || (nat_lt 0 len && is_port (drop len text))

-- a version in hexadecimal digits, a dot, and an address of that version
abbrev pub is_versioned : List ℕ → Bool
is_versioned text = let len = prefix_len is_ascii_hexdigit text in
    nat_lt 0 len && (has_at text len 46 && (nat_lt (len + 1) (length text) && list_all is_future_byte (drop (len + 1) text)))

-- `v`, and these
abbrev pub is_future : List ℕ → Bool
is_future text = (has_at text 0 118 || has_at text 0 86) && is_versioned (drop 1 text)

-- an address of IPv6, or of a later version (section 3.2.2)
abbrev pub IsAddress : List ℕ → Type 0
IsAddress text = IsTrue (is_future text) ⊎ ((address : Ipv6Addr) × IsIpv6Text text address)

-- how much stands in front of `]`
abbrev pub address_len : List ℕ → ℕ
address_len text = prefix_len (λ b. not (b == 93)) text

-- an address, `]`, and nothing or a port
abbrev pub IsBracketed : List ℕ → Type 0
IsBracketed text = let len = address_len text in
    (len < length text) × IsAddress (take len text) × IsTrue (is_port (drop (len + 1) text))

-- a host and a port, whose escapes may be torn: a name, or an address in brackets
abbrev pub IsHostAndPort : List ℕ → Type 0
IsHostAndPort text = IsTrue (is_name text) ⊎ (IsTrue (has_at text 0 91) × IsBracketed (drop 1 text))

-- the value of a `Host`, which may be empty (RFC 9112, section 3.2)
abbrev pub IsHost : List ℕ → Type 0
IsHost text = HasWholeEscapes text × IsHostAndPort text

-- a `Host` is one
abbrev pub IsPlainField : List ℕ × List ℕ → Type 0
IsPlainField h = IsTrue (is_named (codes "host") h) → IsHost h.1

-- where the host of an authority begins: behind a user and `@`, if it has such
abbrev pub host_at : List ℕ → ℕ
host_at text = let len = prefix_len is_user_byte text in if has_at text len 64 then len + 1 else 0

-- whether in a URI of this scheme an empty host, and a user, are wrong (RFC 9110, sections 4.2.1, 4.2.2 and 4.2.4)
abbrev pub is_web : List ℕ → Bool
is_web scheme = eq_ignore_case scheme (codes "http") || eq_ignore_case scheme (codes "https")

-- an authority of such a URI, or of another
abbrev pub IsAuthority : Bool → List ℕ → Type 0
IsAuthority true text = (0 < length text) × IsHostAndPort text
IsAuthority false text = IsHostAndPort (drop (host_at text) text)

-- how much stands in front of a path or a query
abbrev pub authority_len : List ℕ → ℕ
authority_len text = prefix_len (λ b. not ((b == 47) || (b == 63))) text

-- an authority, a path and a query
abbrev pub IsBehindScheme : Bool → List ℕ → Type 0
IsBehindScheme web text = let len = authority_len text in
    IsAuthority web (take len text) × IsTrue (list_all is_path_byte (drop len text))

abbrev pub begins_with_letter : List ℕ → Bool
begins_with_letter text = nat_lt 0 (length text) && is_ascii_alphabetic (slice_index text 0)

-- a target in absolute form (RFC 9112, section 3.2.2): a scheme, `://`, and these
abbrev pub IsAbsolute : List ℕ → Type 0
IsAbsolute text = let len = prefix_len is_scheme_byte text in
    IsTrue (begins_with_letter text) × IsTrue (starts_with nat_eq (drop len text) (codes "://"))
    × IsBehindScheme (is_web (take len text)) (drop (len + 3) text)

-- a target (section 3.2), whose escapes may be torn: a path, `*` to `OPTIONS`, or an absolute form. That of `CONNECT` is none
abbrev pub IsTargetForm : List ℕ → List ℕ → Type 0
IsTargetForm method text =
    (IsTrue (has_at text 0 47) × IsTrue (list_all is_path_byte text))
    ⊎ (IsTrue (bytes_eq text (codes "*")) × IsTrue (bytes_eq method (codes "OPTIONS")))
    ⊎ IsAbsolute text

abbrev pub IsTarget : List ℕ → List ℕ → Type 0
IsTarget method text = HasWholeEscapes text × IsTargetForm method text
