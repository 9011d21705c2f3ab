use Rattle.param_specs.specs.Table.{specs_of}
use Rattle.param_specs.specs.Overriding.{differs}
use Rattle.param_specs.proofs.First.{NoneBefore}
use Rattle.param_specs.proofs.table.SpecTable.first_different.Given as goal

abbrev pub invariant-loop-slot : goal.invariant-loop-slot
invariant-loop-slot l = NoneBefore (differs (specs_of l.tree l.self l.t)) (specs_of l.tree l.self l.interface) l.slot
