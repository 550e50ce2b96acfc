-- What a session does with a piece, and replies.
use Rattle.std.specs.Prelude.{◌≡◌, ℕ, ◌⊎◌, List, [], Bool, true, false, codes, if◌then◌else◌}
use Rattle.std.specs.Global.{Global}
use Rattle.decoders.specs.declared.resp.RespItem.{RespItem}
use Rattle.resp.specs.Commands.{Acts, Means, takes_more}
use Rattle.resp.specs.Stored.{Same, Values, held}
use Rattle.resp.specs.Waiting.{Feeds, Waiting, nothing}
use Rattle.resp.specs.declared.command.Command.{Command}
use Rattle.resp.specs.declared.request.Fed.{Fed}
use Rattle.resp.specs.declared.request.Fed.TheVariants.{More, Whole, Bad}
use Rattle.resp.specs.declared.request.Refusal.{Refusal}
use Rattle.resp.specs.declared.request.Refusal.TheVariants.{Count, NoBulk, NoArray}
use Rattle.resp.specs.declared.session.Session.{Session}
use Rattle.resp.specs.declared.store.Store.{Store}

-- what came of a request, what the store holds, and whether no further piece is taken
pub record SessionState : Type 0 where
  pub waiting : Waiting
  pub values : Values
  pub closed : Bool

abbrev pub session : Waiting → Values → Bool → SessionState
session waiting values closed = record { waiting = waiting; values = values; closed = closed }

-- what answers, over this request and this store
abbrev pub session_of : Global → Waiting → Store → Bool → Session
session_of alloc request store closed = record { alloc = alloc; request = request; store = store; closed = closed }

-- why a piece belongs to no request
abbrev pub refusal_reply : Refusal → List ℕ
refusal_reply Count = codes "-ERR Protocol error: invalid multibulk length\r\n"
refusal_reply NoBulk = codes "-ERR Protocol error: expected '$'\r\n"
refusal_reply NoArray = codes "-ERR Protocol error: expected '*'\r\n"

-- one reply to a request that is whole, after which none waits; of one that was lost nothing is done
abbrev pub RepliesWhole : Waiting → Values → List ℕ → Bool → Waiting → Values → Type 0
RepliesWhole m old reply more t new = (t ≡ nothing)
    × (((m.lost ≡ true) × (reply ≡ codes "-ERR out of memory\r\n") × (more ≡ true) × Same old new)
    ⊎ ((m.lost ≡ false) × ((command : Command) × Means m.parts command × Acts old command reply new
    × (more ≡ takes_more command))))

-- what is replied behind a piece: nothing, while more of a request is to come; one reply to a whole one; and an error to what
-- belongs to none, behind which no request waits, and no further piece is taken
abbrev pub RepliesTo : Waiting → Values → Fed → List ℕ → Bool → Waiting → Values → Type 0
RepliesTo m old More reply more t new = (reply ≡ []) × (more ≡ true) × (t ≡ m) × Same old new
RepliesTo m old Whole reply more t new = RepliesWhole m old reply more t new
RepliesTo m old (Bad why) reply more t new = (reply ≡ refusal_reply why) × (more ≡ false) × (t ≡ nothing) × Same old new

-- behind an answer that takes no further piece it is closed, and else as it was
abbrev pub closes_by : Bool → Bool → Bool
closes_by more closed = if more then closed else true

-- a piece is fed to the request, and then this is replied
abbrev pub RepliesBy : Session → RespItem → List ℕ → List ℕ → Bool → Session → Type 0
RepliesBy s item payload reply more t = (fed : Fed) × (between : Waiting) × Feeds s.request item payload fed between
    × RepliesTo between (held s.store) fed reply more t.request (held t.store) × (t.closed ≡ closes_by more s.closed)
