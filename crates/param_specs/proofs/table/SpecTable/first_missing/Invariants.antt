use Rattle.param_specs.specs.Table.{specs_of}
use Rattle.param_specs.specs.Overriding.{is_missing}
use Rattle.param_specs.proofs.First.{NoneBefore}
use Rattle.param_specs.proofs.table.SpecTable.first_missing.Given as goal

abbrev pub invariant-loop-slot : goal.invariant-loop-slot
invariant-loop-slot l = NoneBefore (is_missing (specs_of l.tree l.self l.t)) (specs_of l.tree l.self l.interface) l.slot
