-- A buffer is refused for want of memory, before any call of a stream; else what `unpack_all` says holds.
use Rattle.std.proofs.Common.{◌≡◌, rules}
use Rattle.std.specs.IoError.{error_kind}
use Rattle.std.specs.declared.io.ErrorKind.TheVariants.{OutOfMemory}
use Rattle.frames.proofs.Unpacks.{unpack_refused}
use Rattle.frames.proofs.unpack.unpack.Goals as goal

pub returns-in-Err : goal.returns-in-Err
returns-in-Err g c =
    let memory : error_kind c.into.result ≡ OutOfMemory = search rules in
    rw c.in-Err.ensures.handed_back (unpack_refused c.args.most _ _ c.into.result memory)

pub returns-in-Err-buffered_writer : goal.returns-in-Err-buffered_writer
returns-in-Err-buffered_writer g c =
    let memory : error_kind c.into-in-Err-buffered_writer.result ≡ OutOfMemory = search rules in
    rw (c.into_inner.ensures.log, c.in-Ok.ensures.made.log, c.in-Err-buffered_writer.ensures.handed_back)
    (unpack_refused c.args.most _ _ c.into-in-Err-buffered_writer.result memory)
