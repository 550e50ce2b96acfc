use Rattle.std.proofs.Common.{◌≡◌, ◌+◌, ◌≤◌, drop, length, min}
use Rattle.buffer_redux.proofs.Parts.{all_of}
use Rattle.buffer_redux.proofs.buf_writer.parts.total.Given as goal

-- with those of the parts that are left it is all
abbrev pub invariant-loop-part : goal.invariant-loop-part
invariant-loop-part l = record {
  all : min (l.len + length (all_of (drop l.part-index l.parts))) 18446744073709551615
      ≡ min (length (all_of l.parts)) 18446744073709551615;
  fits : l.len ≤ 18446744073709551615;
}
