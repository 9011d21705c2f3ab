use Rattle.ui_machine.specs.Rules.EmissionPlan.{handler_in}
use Rattle.signal_core.specs.Table.{named_of}
use Rattle.name_tables.specs.Names.{number_of}
use Rattle.name_tables.specs.Steps.{HasUpTo}
use Rattle.definitions.proofs.handler_names.handler_names.Given as goal

abbrev pub invariant-classes : goal.invariant-classes
invariant-classes l = HasUpTo (λ class. handler_in (named_of l.signals.handlers class)) l.class (number_of l.names)
