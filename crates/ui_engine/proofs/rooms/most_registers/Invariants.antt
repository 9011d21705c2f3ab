use Rattle.ui_machine.specs.Definition.Programs.{Program}
use Rattle.ui_engine.proofs.Widths.{AreAtMost}
use Rattle.ui_engine.proofs.rooms.most_registers.Given as goal

abbrev pub invariant-programs : goal.invariant-programs
invariant-programs l = AreAtMost (λ (p : Program). p.registers) l.definition.programs l.number l.most
