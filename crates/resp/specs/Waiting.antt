-- A request, of which some parts may still be to come.
use Rattle.std.specs.Prelude.{◌≡◌, ℕ, ◌-◌, ◌<◌, ◌≤◌, ◌⊎◌, List, [], ◌∷◌, ◌++◌, map, Bool, true, false, None, Some}
use Rattle.std.specs.Global.{Vec}
use Rattle.decoders.specs.declared.resp.RespItem.{RespItem}
use Rattle.decoders.specs.declared.resp.RespItem.TheVariants as item
use Rattle.resp.specs.Numbers.{IsNegative}
use Rattle.resp.specs.declared.request.Fed.{Fed}
use Rattle.resp.specs.declared.request.Fed.TheVariants.{More, Whole, Bad}
use Rattle.resp.specs.declared.request.Refusal.TheVariants.{Count, NoBulk, NoArray}

-- the parts that came; how many are to come; and whether memory was refused for one
pub record Waiting : Type 0 where
  pub parts : List (List ℕ)
  pub left : ℕ
  pub lost : Bool

-- vectors, as the bytes that they hold
abbrev pub bytes_of : List (Vec ℕ) → List (List ℕ)
bytes_of vectors = map (λ v. v.items) vectors

-- no request, and one of so many parts
abbrev pub nothing : Waiting
nothing = record { parts = []; left = 0; lost = false }

abbrev pub awaiting : ℕ → Waiting
awaiting count = record { parts = []; left = count; lost = false }

-- a part is kept; or memory was refused for it, and the request is lost
abbrev pub KeepsPart : Waiting → List ℕ → Waiting → Type 0
KeepsPart s part t = (t ≡ record s { parts = s.parts ++ part ∷ [] }) ⊎ (t ≡ record s { lost = true })

-- a bulk string is the next part, and the last one makes the request whole; any other piece is none of it, and it stays as it is
abbrev pub TakesPart : Waiting → RespItem → List ℕ → Fed → Waiting → Type 0
TakesPart s item.Bulk payload More t = (1 < s.left) × KeepsPart (record s { left = s.left - 1 }) payload t
TakesPart s item.Bulk payload Whole t = (s.left ≡ 1) × KeepsPart (record s { left = s.left - 1 }) payload t
TakesPart s item.Bulk payload (Bad why) t = ⊥
TakesPart s i payload fed t = (fed ≡ Bad NoBulk) × (t ≡ s)

-- an array begins a request of so many parts, but of 1,024 at most, and of a number below 0 none; a line is one of one part, and
-- an empty line none; any other piece begins none
abbrev pub BeginsRequest : Waiting → RespItem → List ℕ → Fed → Waiting → Type 0
BeginsRequest s (item.Array (Some n)) payload fed t =
    ((n ≤ 1024) × (fed ≡ More) × (t ≡ awaiting n)) ⊎ ((1024 < n) × (fed ≡ Bad Count) × (t ≡ s))
BeginsRequest s (item.Array None) payload fed t =
    (((fed ≡ More) × IsNegative payload) ⊎ ((fed ≡ Bad Count) × (¬ (IsNegative payload)))) × (t ≡ s)
BeginsRequest s item.NullArray payload fed t = (fed ≡ More) × (t ≡ s)
BeginsRequest s item.Inline [] fed t = (fed ≡ More) × (t ≡ nothing)
BeginsRequest s item.Inline (byte ∷ line) fed t = (fed ≡ Whole) × KeepsPart nothing (byte ∷ line) t
BeginsRequest s i payload fed t = (fed ≡ Bad NoArray) × (t ≡ s)

-- a piece is a part, where one is to come, and else begins a request
abbrev pub Feeds : Waiting → RespItem → List ℕ → Fed → Waiting → Type 0
Feeds s i payload fed t =
    ((0 < s.left) × TakesPart s i payload fed t) ⊎ ((s.left ≡ 0) × BeginsRequest s i payload fed t)
