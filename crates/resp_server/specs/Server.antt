-- What the program makes of its client.
use Rattle.std.specs.Prelude.{◌≡◌, ℕ, List, [], Bool, true, false, codes, if◌then◌else◌, Option, Result, Ok, Err, MatchResult}
use Rattle.std.specs.Result.{result_map_both}
use Rattle.std.specs.declared.io.Error.{Error}
use Rattle.buffer_redux.specs.Buffered.{Buffered}
use Rattle.buffer_redux.specs.BufWriter.{WasFlushed}
use Rattle.buffer_redux.specs.Policy.{std_write_rules}
use Rattle.buffer_redux.specs.StreamLog.{StreamLog}
use Rattle.buffer_redux.specs.WriteAll.{WritesAll}
use Rattle.buffer_redux.specs.declared.policy.StdPolicy.{StdPolicy}
use Rattle.codec.specs.declared.HeaderError.{HeaderError}
use Rattle.codec.specs.declared.HeaderError.TheVariants.{Truncated}
use Rattle.codec.specs.declared.TooLong.{TooLong}
use Rattle.codec.specs.declared.by_first.EitherWrong.{EitherWrong}
use Rattle.codec.specs.declared.by_first.EitherWrong.TheVariants.{One, Other}
use Rattle.codec.specs.declared.ended.Unended.{Unended}
use Rattle.codec.specs.declared.ended.Unended.TheVariants.{Cut}
use Rattle.codec.specs.declared.serving.ServeError.TheVariants.{Failed, Flush, Read, Write, Wrong}
use Rattle.resp.specs.Clients.{ClientAnswer, ServesClient}
use Rattle.resp.specs.declared.client.Client.{Client}
use Rattle.resp.specs.declared.client.Ending.{Ending}
use Rattle.resp.specs.declared.client.Ending.TheVariants.{Within}
use Rattle.resp.specs.declared.store.Store.{Store}

-- whether the stream ended within a piece, and within a request
abbrev pub was_cut_off : EitherWrong HeaderError (Unended TooLong) → Bool
was_cut_off (One (Truncated have)) = true
was_cut_off (Other (Cut have)) = true
was_cut_off wrong = false

abbrev pub tells_within : Ending → Bool
tells_within Within = true
tells_within ending = false

-- this line was written by one call, and then all was flushed by one; the first that failed is the last, and its error returned
pub record TellsLine {T : Type 0} (tells : T → StreamLog) (trace : T → T → Type 0) (line : List ℕ) (said : Bool)
    (w : Buffered T StdPolicy) (result : Result Bool Error) (v : Buffered T StdPolicy) : Type 0 where
  pub writing : Result (Unit {0}) Error
  pub written : Buffered T StdPolicy
  pub writes : WritesAll tells trace std_write_rules w line writing written
  pub ends : MatchResult writing
      (λ _. (flushing : Result (Unit {0}) Error) × WasFlushed tells trace written flushing v
      × (result ≡ result_map_both (λ _. said) (λ e. e) flushing))
      (λ e. (result ≡ Err e) × (v ≡ written))

-- what becomes of an answer that left the replies so: its error is returned; or whether the stream ended within a request. What
-- is no piece is told, unless it was cut off, and all is flushed
abbrev pub ComesTo : {T : Type 0} → (T → StreamLog) → (T → T → Type 0) → ClientAnswer → Buffered T StdPolicy
    → Result Bool Error → Buffered T StdPolicy → Type 0
ComesTo tells trace (Ok ending) w result v = (result ≡ Ok (tells_within ending)) × (v ≡ w)
ComesTo tells trace (Err (Wrong e)) w result v =
    TellsLine tells trace (if was_cut_off e then [] else codes "-ERR Protocol error\r\n") (was_cut_off e) w result v
ComesTo tells trace (Err (Read e)) w result v = (result ≡ Err e) × (v ≡ w)
ComesTo tells trace (Err (Write e)) w result v = (result ≡ Err e) × (v ≡ w)
ComesTo tells trace (Err (Flush ended e)) w result v = (result ≡ Err e) × (v ≡ w)
ComesTo tells trace (Err (Failed never)) w result v = ⊥

-- the client was served by one call, and this came of its answer
pub record ServesOnce {S T : Type 0} (remaining : S → Option (List ℕ)) (tells : T → StreamLog) (trace : T → T → Type 0)
    (s : Client S) (values : Store) (replies : Buffered T StdPolicy) (result : Result Bool Error) (t : Client S)
    (left : Store) (sent : Buffered T StdPolicy) : Type 0 where
  pub answer : ClientAnswer
  pub between : Buffered T StdPolicy
  pub serves : ServesClient remaining tells trace s values replies answer t left between
  pub comes : ComesTo tells trace answer between result sent
