-- Where no byte could be taken, none was buffered, and the fill begins with the reader as it was.
use Rattle.std.proofs.Common.{subst}
use Rattle.buffer_redux.specs.ReadByte.{FillsAndTakes}
use Rattle.buffer_redux.proofs.ByteSteps.{reads_filled}
use Rattle.buffer_redux.proofs.buf_reader.BufReader.read_byte_slowly.Goals as goal

pub returns-in-None : goal.returns-in-None
returns-in-None g c =
    let none = c.in-None.ensures.takes in record {
      byte = reads_filled g.R.TellRead.remaining g.P.ReaderPolicy.rules c.args.self.now c.fill_and_take.result
          c.fill_and_take.new.self none.0
          (subst (λ x. FillsAndTakes g.R.TellRead.remaining g.P.ReaderPolicy.rules x c.fill_and_take.result
          c.fill_and_take.new.self) none.1 c.fill_and_take.ensures.takes);
    }
