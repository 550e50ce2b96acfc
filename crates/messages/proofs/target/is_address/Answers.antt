-- What is no future address is one just where the parser reads it, which reads each IPv6 text.
use Rattle.std.proofs.Common.{◌∙◌, List, ℕ, IsTrue, Result, Ok, Err, inl, inr, refl, sym}
use Rattle.std.proofs.lemmas.Bool.{false≢true}
use Rattle.std.specs.Net.Grammar.{IsIpv6Text, Parses}
use Rattle.std.specs.Result.{is_ok}
use Rattle.std.specs.declared.net.ipv6_addr.Ipv6Addr.{Ipv6Addr}
use Rattle.messages.proofs.target.is_address.Goals as goal

some_of : {E : Type 0} (text : List ℕ) (r : Result Ipv6Addr E) → Parses IsIpv6Text text r → IsTrue (is_ok r)
    → (address : Ipv6Addr) × IsIpv6Text text address
some_of text (Ok address) is ok = (address, is)
some_of text (Err e) is ok = absurd (false≢true ok)

is_of : {E : Type 0} (text : List ℕ) (r : Result Ipv6Addr E) → Parses IsIpv6Text text r
    → (address : Ipv6Addr) → IsIpv6Text text address → IsTrue (is_ok r)
is_of text (Ok found) is address text-is = refl
is_of text (Err e) none address is = absurd (none address is)

pub returns-else-is_future : goal.returns-else-is_future
returns-else-is_future c =
    let text = c.args.text.now in (
      λ yes. inr (some_of text c.parse_ascii.result c.parse_ascii.ensures (sym c.is_ok.ensures.value ∙ yes)),
      λ is. elim is [
        | inl future ↦ absurd (false≢true (sym c.if-is_future.false ∙ c.is_future.ensures ∙ future))
        | inr known ↦ c.is_ok.ensures.value ∙ is_of text c.parse_ascii.result c.parse_ascii.ensures known.0 known.1
      ],
    )
