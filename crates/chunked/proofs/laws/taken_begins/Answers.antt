-- What was taken leads to where the reader stands, and something completes the body there.
use Rattle.std.proofs.Common.{◌++◌, subst}
use Rattle.chunked.specs.CodingLaws.{follows}
use Rattle.chunked.specs.AliveLaws.{Completes-some}
use Rattle.body_reader.specs.BodyReader.{handed_of}
use Rattle.chunked.specs.Names.{HasChunks, IsBodyOfChunks, SizeLine}
use Rattle.chunked.proofs.laws.taken_begins.Goals as goal

pub returns : goal.returns
returns g c =
    let t = c.args.reader.now in
    let is = c.get_ref.ensures.whole in
    let goes = Completes-some t.coding.0 t.place is.place in
    let right : IsBodyOfChunks t.coding.0 (t.taken ++ goes.rest) (handed_of t ++ goes.payload) =
    is.leads.onward goes.rest goes.payload (follows goes.rest) goes.completes in
    record {
      digit = λ b more first.
          (subst (λ l. SizeLine (HasChunks t.coding.0 right.payloads) t.coding.0.line (l ++ goes.rest)) first right.chunks).0;
      right = (goes.rest, goes.payload, right);
      payload = λ rest whole body. let on = is.leads.back rest whole (follows rest) body in (on.0, on.1);
    }
