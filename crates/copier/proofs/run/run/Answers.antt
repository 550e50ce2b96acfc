-- The streams come back as the copy left them, so what it says of their logs is what the run says.
use Rattle.std.proofs.Common.{inl, sym}
use Rattle.copier.proofs.Moving.{IsBeginning-none}
use Rattle.copier.proofs.run.run.Goals as goal

pub returns-in-Err-clause-a_beginning : goal.returns-in-Err-clause-a_beginning
returns-in-Err-clause-a_beginning g c =
    let refused = c.in-Err.ensures.refused in
    rw (refused.read_same, refused.written_same) (IsBeginning-none _ _)

pub returns : goal.returns
returns g c =
    let made = c.in-Ok.ensures in
    let copy = c.copy_all-answer.ensures in
    rw (
      c.into_inner_with_buffer-reader.ensures.log,
      c.into_inner_with_buffer-writer.ensures.log,
      ← made.read,
      ← made.written,
    )
    (record {
      a_beginning = copy.a_beginning;
      copied = copy.copied;
      stopped = copy.stopped;
      once = copy.once;
      through = inl (record {
        source = _;
        source' = _;
        target = _;
        target' = _;
        source_made = made.source;
        target_made = made.target;
        reads = (made.reader, made.read);
        writes = (made.writer, made.written);
        copies = copy.all;
        reader_left = (sym c.into_inner_with_buffer-reader.ensures.inner, sym c.into_inner_with_buffer-reader.ensures.log);
        writer_left = (sym c.into_inner_with_buffer-writer.ensures.inner, sym c.into_inner_with_buffer-writer.ensures.log);
      });
      offers = rw (← made.source.capacity) copy.offers;
      sends = rw (← made.target.capacity) copy.sends;
    })
