use Rattle.std.proofs.Common.{◌-◌, take, length}
use Rattle.ui_machine.specs.Definition.Names.{place_named}
use Rattle.engine_links.specs.Rows.{method_of}
use Rattle.name_tables.specs.Steps.{AddsAll}
use Rattle.engine_links.proofs.method_rows.MethodRows.add_shape.Given as goal

abbrev pub invariant-loop-method : goal.invariant-loop-method
invariant-loop-method l = AddsAll (method_of l.initial.self) (method_of l.self) l.number (place_named (λ m. m.name) (take l.at l.shape))

abbrev pub decreases-loop-method : goal.decreases-loop-method
decreases-loop-method l = length l.shape - l.at
