-- What holds once the borrow ends is weakened: the trait doesn't ask for the fill's own steps.
use Rattle.std.specs.Prelude.{[], IfOk}
use Rattle.std.specs.Io.{StartsWith}
use Rattle.redux_buffer.specs.StreamLog.{FillTells}
use Rattle.buffer_redux.specs.BufReader.{Fills}
use Rattle.buffer_redux.specs.ReaderTells.{reader_log, ReaderWent}
use Rattle.buffer_redux.specs.contracts.buf_reader.BufReader.{the_row}
use Rattle.buffer_redux.specs.RestsLaws.{rests_widens}
use base.Logic.{id⊢, snd∗, via}
use borrow.Fn.Refines.{by_parts}
use contract.Monad.{fact, fact_i}
use denote.Param.{param}
use Rattle.buffer_redux.proofs.buf_reader.tells.BufReaderTellBufRead.TheImpl.Goals as goal

pub fill_told-meets : goal.fill_told-meets
fill_told-meets g c =
    let 𝓤 = g.world.𝓤 in
    let rules = g.P.ReaderPolicy.rules in
    let remaining = g.R.TellRead.remaining in
    let s = c.args.self.now in
    by_parts 𝓤 [] [] _ _ _ _ (λ r e. []) (λ r e. []) _ _
    (fact_i 𝓤 (Unit {0}) _ tt)
    (λ _. id⊢ 𝓤 _)
    (λ r e. fact_i 𝓤 (Unit {0}) _ tt)
    (λ r e _. via 𝓤 _ (snd∗ 𝓤 (fact 𝓤 (IfOk r (λ bytes. StartsWith bytes.now s.block.bytes))) _)
    (rests_widens g.world.𝓛 (the_row (param 0 g.row.R) (param 1 g.row.P) g.R.Tell) c.args.self
    (λ new. FillTells (reader_log s) r (reader_log new) × ReaderWent remaining rules s new × Fills rules s r new)
    (λ new. FillTells (reader_log s) r (reader_log new) × ReaderWent remaining rules s new)
    (λ new f. (f.0, f.1))))
    (λ _. tt)
    (λ _ r e _. tt)
