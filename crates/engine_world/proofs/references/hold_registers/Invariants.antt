use Rattle.std.proofs.Common.{◌≡◌, ℕ, ◌+◌, ◌≤◌, drop}
use Rattle.ui_machine.specs.Seq.{total}
use Rattle.ui_machine.specs.State.References.{in_register}
use Rattle.bytecode.specs.Computing.{registers_of}
use Rattle.instance_tables.specs.Store.{count_of}
use Rattle.engine_world.specs.Counting.{OnlyCounts}
use Rattle.engine_world.proofs.references.hold_registers.Given as goal

abbrev pub invariant-loop-register : goal.invariant-loop-register
invariant-loop-register l = record {
  only : OnlyCounts l.fn.table l.table;
  counts : (o : ℕ) → count_of l.table.counts o + total (in_register o) (registers_of (drop l.register-index l.registers))
      ≡ count_of l.fn.table.counts o + total (in_register o) (registers_of l.registers);
  less : (o : ℕ) → total (in_register o) (registers_of (drop l.register-index l.registers)) ≤ total (in_register o) (registers_of l.registers);
}
