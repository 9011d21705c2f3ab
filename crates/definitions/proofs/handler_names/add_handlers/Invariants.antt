use Rattle.std.proofs.Common.{take}
use Rattle.ui_machine.specs.Rules.EmissionPlan.{handler_in}
use Rattle.signal_core.specs.Table.{named_of}
use Rattle.name_tables.specs.Names.{number_of}
use Rattle.name_tables.specs.Steps.{AddsAll}
use Rattle.definitions.proofs.handler_names.add_handlers.Given as goal

abbrev pub invariant-loop-at : goal.invariant-loop-at
invariant-loop-at l = AddsAll (number_of l.initial.names) (number_of l.names) l.class (handler_in (take l.at (named_of l.signals.handlers l.class)))
