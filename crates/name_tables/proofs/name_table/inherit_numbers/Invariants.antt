use Rattle.name_tables.proofs.Inherited.{InheritsBefore}
use Rattle.name_tables.proofs.name_table.inherit_numbers.Given as goal

abbrev pub invariant-classes : goal.invariant-classes
invariant-classes l = InheritsBefore l.tree l.fn.numbers.entries l.numbers.entries l.class
