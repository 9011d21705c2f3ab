use Rattle.name_tables.specs.Names.{number_of}
use Rattle.engine_links.specs.Steps.{slot_called}
use Rattle.name_tables.specs.Steps.{HasUpTo}
use Rattle.engine_links.proofs.class_names.slot_names.Given as goal

abbrev pub invariant-classes : goal.invariant-classes
invariant-classes l = HasUpTo (slot_called l.definition) l.class (number_of l.names)
