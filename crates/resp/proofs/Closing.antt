-- A client is closed just where the last answer takes no further piece.
use Rattle.std.proofs.Common.{◌≡◌, ℕ, List, [], ◌∷◌, Bool, true, false, Option, ap, refl, ◌∙◌}
use Rattle.std.specs.Prelude.{not}
use Rattle.buffer_redux.specs.StreamLog.{StreamLog}
use Rattle.codec.specs.Serving.{Converses, EndedBy, Exchange, Server, Serves}
use Rattle.decoders.specs.Resp.{resp, resp_item}
use Rattle.resp.specs.Clients.{ends_as, tells_closed}
use Rattle.resp.specs.Sessions.{RepliesBy, closes_by}
use Rattle.resp.specs.declared.client.Ending.{Ending}
use Rattle.resp.specs.declared.client.Ending.TheVariants.{Closed, End, Within, Many}
use Rattle.resp.specs.declared.session.Session.{Session}

from_none : (more was : Bool) → was ≡ false → closes_by more was ≡ not more
from_none true was none = none
from_none false was none = refl

closes : (s : Session) (xs : List Exchange) (more : Bool) (t : Session) → Converses resp_item RepliesBy s xs more t
    → s.closed ≡ false → t.closed ≡ not more
closes s [] more t (same, all) none = rw (← same, all) none
closes s (x ∷ earlier) more t (between, before, (fed, waiting, feeds, replies, closed)) none =
    closed ∙ from_none more between.closed (closes s earlier true between before none)

module _ {S D T P : Type 0} (limit : ℕ) (remaining : S → Option (List ℕ)) (tells : T → StreamLog) (trace : T → T → Type 0)
    (max : ℕ) where
  told : (e : Ending) (xs : List Exchange) (more : Bool) (s t : Server S D Session T P)
      → EndedBy limit remaining tells trace (resp max) resp_item RepliesBy (ends_as e) xs more s t
      → (closed : Bool) → closed ≡ not more → closed ≡ tells_closed e
  told Closed xs more s t ends closed is = is ∙ ap not ends.0
  told End xs more s t ends closed is = is ∙ ap not ends.0
  told Within xs more s t ends closed is = is ∙ ap not ends.0
  told Many xs more s t ends closed is = is ∙ ap not ends.0

  pub closed_told : (s : Server S D Session T P) (e : Ending) (t : Server S D Session T P)
      → Serves limit remaining tells trace (resp max) resp_item RepliesBy s (ends_as e) t → s.service.closed ≡ false
      → t.service.closed ≡ tells_closed e
  closed_told s e t all none =
      let ends = all.ends in
      told e ends.exchanges ends.more ends.last _ ends.ends t.service.closed
      (closes s.service ends.exchanges ends.more t.service all.service none)
