-- No part of a character ends in a line feed, and the text's lengths before and after count what was handed out.
use Rattle.buffer_redux.proofs.Utf8Fronts.{never_part}
use Rattle.buffer_redux.proofs.buf_reader.BufReader.read_line_slowly.Goals as goal

pub hand_until-requires : goal.hand_until-requires
hand_until-requires g c = record { plain = c.requires.plain; whole = never_part }
