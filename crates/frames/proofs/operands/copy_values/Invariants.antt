use Rattle.std.proofs.Common.{◌≡◌, ◌++◌, map, drop, Ok}
use Rattle.ui_machine.specs.Instructions.Registers.{values_in}
use Rattle.ui_machine.specs.Outcome.{◌>>=◌}
use Rattle.ui_machine.specs.State.Tasks.{Frame}
use Rattle.g_values.specs.View.{value_view}
use Rattle.bytecode.specs.Computing.{registers_of}
use Rattle.bytecode.specs.View.{number_of}
use Rattle.frames.proofs.operands.copy_values.Given as goal

-- the values so far, and those of the registers that are left
abbrev pub invariant-loop-register : goal.invariant-loop-register
invariant-loop-register l = (f : Frame) → f.registers ≡ registers_of l.registers
    → values_in f (map number_of l.from) ≡ (values_in f (map number_of (drop l.register-index l.from)) >>= λ vs. Ok (map value_view l.values.items ++ vs))
