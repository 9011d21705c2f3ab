use Rattle.name_tables.specs.Names.{number_of}
use Rattle.name_tables.specs.Steps.{HasUpTo}
use Rattle.definitions.specs.ClassNames.{signal_called}
use Rattle.definitions.proofs.signal_names.signal_names.Given as goal

abbrev pub invariant-classes : goal.invariant-classes
invariant-classes l = HasUpTo (signal_called l.types l.signals.signals) l.class (number_of l.names)
