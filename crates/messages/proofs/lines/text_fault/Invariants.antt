use Rattle.std.proofs.Common.{◌≡◌, drop}
use Rattle.messages.specs.Names.{fault_on, Start}
use Rattle.messages.proofs.lines.text_fault.Given as goal

-- what is wrong is so from here on
abbrev pub invariant-loop-byte : goal.invariant-loop-byte
invariant-loop-byte l = fault_on Start l.text ≡ fault_on l.place (drop l.byte-index l.text)
