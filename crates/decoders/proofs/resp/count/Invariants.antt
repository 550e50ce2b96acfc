use Rattle.std.proofs.Common.{◌≡◌, drop}
use Rattle.codec.specs.declared.number.Number.TheVariants.{Empty}
use Rattle.decoders.specs.Resp.{count_in}
use Rattle.decoders.proofs.resp.count.Given as goal

-- the number is read on behind the digits so far
abbrev pub invariant-loop-at : goal.invariant-loop-at
invariant-loop-at l = count_in Empty l.line ≡ count_in l.number (drop l.at l.line)
