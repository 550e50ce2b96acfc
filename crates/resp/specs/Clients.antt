-- What contracts see of a client, and how it was served.
use Rattle.std.specs.Prelude.{◌≡◌, ◌<◌, ℕ, List, Bool, true, false, MatchBool, MatchResult, Option, Result, Ok, Err}
use Rattle.std.specs.declared.convert.Infallible.{Infallible}
use Rattle.std.specs.declared.io.Error.{Error}
use Rattle.buffer_redux.specs.Buffered.{Buffered}
use Rattle.buffer_redux.specs.BufWriter.{WasFlushed}
use Rattle.buffer_redux.specs.Faults.{interrupt_limit}
use Rattle.buffer_redux.specs.StreamLog.{StreamLog}
use Rattle.codec.specs.Answering.{NeverFails}
use Rattle.codec.specs.PieceReader.{ReaderState}
use Rattle.codec.specs.Serving.{Server, Serves, ServingFails, server}
use Rattle.codec.specs.declared.HeaderError.{HeaderError}
use Rattle.codec.specs.declared.TooLong.{TooLong}
use Rattle.codec.specs.declared.by_first.EitherWrong.{EitherWrong}
use Rattle.codec.specs.declared.ended.Unended.{Unended}
use Rattle.codec.specs.declared.serving.ServeError.{ServeError}
use Rattle.codec.specs.declared.serving.ServeError.TheVariants.{Flush, Write}
use Rattle.codec.specs.declared.serving.Served.{Served}
use Rattle.codec.specs.declared.serving.Served.TheVariants as served
use Rattle.decoders.specs.Resp.{resp, resp_item}
use Rattle.decoders.specs.declared.resp.Resp.{Resp}
use Rattle.resp.specs.Sessions.{RepliesBy, session_of}
use Rattle.resp.specs.Waiting.{Waiting}
use Rattle.resp.specs.declared.client.Client.{Client}
use Rattle.resp.specs.declared.client.Ending.{Ending}
use Rattle.resp.specs.declared.client.Ending.TheVariants.{Closed, End, Within, Many}
use Rattle.resp.specs.declared.session.Session.{Session}
use Rattle.resp.specs.declared.store.Store.{Store}

-- the reader of its pieces, what came of the request that has begun, and whether it is served no further
abbrev pub pieces_of : {S : Type 0} → Client S → ReaderState S Resp
pieces_of client = client.requests

abbrev pub begun_of : {S : Type 0} → Client S → Waiting
begun_of client = client.request

abbrev pub closed_of : {S : Type 0} → Client S → Bool
closed_of client = client.closed

-- a client, a store, and the writer of replies, as what a server does is said of them
abbrev pub serving : {S T P : Type 0} → Client S → Store → Buffered T P → Server S Resp Session T P
serving client store replies =
    server client.requests (session_of client.alloc client.request store client.closed) replies

-- how serving its pieces ended
abbrev pub ends_as : Ending → Served
ends_as Closed = served.Closed
ends_as End = served.End
ends_as Within = served.End
ends_as Many = served.Many

-- this is told of one that is closed
abbrev pub tells_closed : Ending → Bool
tells_closed Closed = true
tells_closed ending = false

-- the stream of replies failed, so that one may be missing
abbrev pub MayLackReply : {W F : Type 0} → ServeError W F → Type 0
MayLackReply (Write e) = Unit {0}
MayLackReply e = ⊥

-- whether a client is closed that was served till then: behind such a fault, or as the service left it
abbrev pub closed_behind : {W F : Type 0} → ServeError W F → Bool → Bool
closed_behind (Write e) left = true
closed_behind e left = left

-- a stream's end is told as one within a request just where parts of one are to come
abbrev pub IsWithin : Waiting → Ending → Type 0
IsWithin s End = s.left ≡ 0
IsWithin s Within = 0 < s.left
IsWithin s ending = Unit {0}

-- what serving a client answers
abbrev pub ClientAnswer : Type 0
ClientAnswer = Result Ending (ServeError (EitherWrong HeaderError (Unended TooLong)) Infallible)

module _ {S T P : Type 0} (remaining : S → Option (List ℕ)) (tells : T → StreamLog) (trace : T → T → Type 0) (s : Client S)
    (values : Store) (replies : Buffered T P) (answer : ClientAnswer) (t : Client S) (left : Store) (sent : Buffered T P) where
  -- of one that is closed, replies are flushed, and nothing else is done
  abbrev pub ServesClosed : Type 0
  ServesClosed = (t ≡ s) × (left ≡ values) × MatchResult answer
      (λ ending. (ending ≡ Closed) × WasFlushed tells trace replies (Ok tt) sent)
      (λ e. (why : Error) × (e ≡ Flush served.Closed why) × WasFlushed tells trace replies (Err why) sent)

  -- of another its requests are answered
  abbrev pub ServesOpen : Type 0
  ServesOpen = MatchResult answer
      (λ ending. (closed_of t ≡ tells_closed ending) × IsWithin (begun_of t) ending
      × Serves interrupt_limit remaining tells trace (resp (pieces_of s).decoder.max) resp_item RepliesBy
      (serving s values replies) (ends_as ending) (serving t left sent))
      (λ e. (more : Bool) × (closed_of t ≡ closed_behind e more)
      × ServingFails interrupt_limit remaining tells trace (resp (pieces_of s).decoder.max) resp_item RepliesBy NeverFails
      (serving s values replies) e (server (pieces_of t) (session_of t.alloc (begun_of t) left more) sent))

  -- what a call of `Client::serve` does
  abbrev pub ServesClient : Type 0
  ServesClient = MatchBool (closed_of s) ServesClosed ServesOpen
