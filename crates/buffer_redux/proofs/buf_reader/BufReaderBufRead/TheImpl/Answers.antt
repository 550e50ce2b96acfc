-- What holds once the borrow ends is weakened to std's clause: a fill keeps what is known to be ahead.
use Rattle.std.specs.Prelude.{◌≡◌, [], length, Some, IfSome, IfOk}
use Rattle.std.specs.Io.{StartsWith}
use Rattle.std.specs.Io.BufRead.{FillKeeps}
use Rattle.buffer_redux.specs.BufReader.{FillBuf}
use Rattle.buffer_redux.specs.Remaining.{reader_remaining}
use Rattle.buffer_redux.proofs.KnownAhead.{fill_keeps}
use Rattle.buffer_redux.specs.contracts.buf_reader.BufReader.{the_row}
use Rattle.buffer_redux.specs.RestsLaws.{rests_widens}
use base.Logic.{mono_r, id⊢, snd∗, via}
use borrow.Fn.Refines.{by_parts}
use contract.Monad.{fact, fact_i}
use denote.Param.{param}
use Rattle.buffer_redux.proofs.buf_reader.BufReaderBufRead.TheImpl.Goals as goal

pub fill_buf-meets : goal.fill_buf-meets
fill_buf-meets g c =
    let 𝓤 = g.world.𝓤 in
    let rules = g.P.ReaderPolicy.rules in
    let remaining = g.R.TellRead.remaining in
    let s = c.args.self.now in
    let known = reader_remaining remaining rules s in
    by_parts 𝓤 [] [] _ _ _ _ (λ r e. []) (λ r e. []) _ _
    (fact_i 𝓤 (Unit {0}) _ tt)
    (λ _. id⊢ 𝓤 _)
    (λ r e. fact_i 𝓤 (Unit {0}) _ tt)
    (λ r e _. via 𝓤 _ (snd∗ 𝓤 (fact 𝓤 (IfOk r (λ bytes. StartsWith bytes.now s.block.bytes))) _)
    (mono_r 𝓤 (fact 𝓤 (IfSome known (λ xs. IfOk r (λ bytes. StartsWith xs bytes.now))))
    (mono_r 𝓤 (fact 𝓤 (IfSome known (λ xs. IfOk r (λ bytes. length bytes.now ≡ 0 → xs ≡ []))))
    (rests_widens g.world.𝓛 (the_row (param 0 g.row.R) (param 1 g.row.P) g.R.Tell) c.args.self (FillBuf remaining rules s r)
    (λ new. FillKeeps known (reader_remaining remaining rules new) (Some (length new.block.bytes)) r)
    (λ new f. fill_keeps remaining rules s r new f)))))
    (λ _. tt)
    (λ _ r e _. tt)
