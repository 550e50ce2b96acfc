-- What one call, with its answer, adds to the log of a stream.
use Rattle.std.specs.Prelude.{Ok, Err}
use Rattle.redux_buffer.specs.StreamLog.{StreamLog, after_read, after_write, after_flush, after_seek, after_fill, after_consume, with_shown}
use Rattle.redux_buffer.specs.declared.tell.log.Call.{Call}
use Rattle.redux_buffer.specs.declared.tell.log.Call.TheVariants.{Read, Write, Flush, Seek, Shown, FillFault, Consume}

abbrev pub after_call : StreamLog → Call → StreamLog
after_call log (Read buf answer) = after_read log buf.now answer.now
after_call log (Write buf answer) = after_write log buf.now answer.now
after_call log (Flush answer) = after_flush log answer.now
after_call log (Seek to answer) = after_seek log to answer.now
after_call log (Shown bytes) = after_fill log (Ok bytes) bytes.now
after_call log (FillFault shown error) = after_fill {A = Unit {0}} log (Err error.now) shown.now
after_call log (Consume shown amount) = after_consume (with_shown log shown.now) amount
