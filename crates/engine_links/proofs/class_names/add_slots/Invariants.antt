use Rattle.std.proofs.Common.{◌-◌, take, length}
use Rattle.ui_machine.specs.Definition.Lookups.{specs_of}
use Rattle.ui_machine.specs.Definition.Names.{place_named}
use Rattle.name_tables.specs.Names.{number_of}
use Rattle.name_tables.specs.Steps.{AddsAll}
use Rattle.engine_links.proofs.class_names.add_slots.Given as goal

abbrev pub invariant-loop-spec : goal.invariant-loop-spec
invariant-loop-spec l = AddsAll (number_of l.initial.names) (number_of l.names) l.class (place_named (λ s. s.name) (take l.slot (specs_of l.definition l.class)))

abbrev pub decreases-loop-spec : goal.decreases-loop-spec
decreases-loop-spec l = length (specs_of l.definition l.class) - l.slot
