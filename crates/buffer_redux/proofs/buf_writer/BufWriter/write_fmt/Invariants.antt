use Rattle.std.proofs.Common.{Some}
use Rattle.buffer_redux.proofs.buf_writer.BufWriter.write_fmt.Given as goal

-- this writer, as it stands
abbrev pub ghosts-write_text : goal.ghosts-write_text
ghosts-write_text g a = record { name = a.writer.ghost_name; writer = Some a.writer.now }
