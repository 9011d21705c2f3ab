use Rattle.std.proofs.Common.{◌≡◌, string_bytes, take}
use Rattle.definition_format.specs.FaultText.{printed}
use Rattle.definition_format.proofs.fault_texts.printed.Given as goal

abbrev pub invariant-loop-byte : goal.invariant-loop-byte
invariant-loop-byte l = string_bytes l.out ≡ printed (take l.byte-index l.byte-items)
