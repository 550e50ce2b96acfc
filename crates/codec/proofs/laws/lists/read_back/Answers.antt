-- The reader is new over the bytes and keeps its decoder, so its calls are those of a reader that was made over them.
use Rattle.std.proofs.Common.{map, subst, Some}
use Rattle.buffer_redux.specs.Memory.{bytes_left}
use Rattle.piece_reader.specs.KnownPayloads.{AllRead}
use Rattle.piece_reader.specs.NextPiece.{NextPiece}
use Rattle.piece_reader.specs.Runs.{AnswerPlays, RunWent}
use Rattle.codec.specs.ReadsBack.{ReadsBack}
use Rattle.codec.proofs.Handover.{on_ok}
use Rattle.codec.proofs.laws.lists.read_back.Goals as goal

pub returns-clause-read : goal.returns-clause-read
returns-clause-read g c =
    let fresh = c.in_ok-reader.ensures.made in
    let payloads = map (λ v. v.items) c.args.payloads.now in
    on_ok _ (λ _. ReadsBack (g.D.Decoder.grammar c.args.decoder) c.args.decoder c.args.bytes.now payloads) (λ kept all. record {
      stream = c.new.result;
      over = c.new.ensures.bytes;
      first = c.in_ok-reader.reader;
      fresh = fresh;
      last = c.read_each-read.new.reader;
      read = subst (λ d. AllRead (AnswerPlays (NextPiece (λ r. Some (bytes_left r)) (g.D.Decoder.grammar d))
          (RunWent (λ r. Some (bytes_left r)) (g.D.Decoder.grammar d))) c.in_ok-reader.reader payloads
          c.read_each-read.new.reader)
          fresh.decoder all;
    }) c.read_each-read.result c.read_each-read.ensures.read
