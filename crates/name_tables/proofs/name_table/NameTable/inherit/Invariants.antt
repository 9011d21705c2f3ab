use Rattle.std.proofs.Common.{map}
use Rattle.name_tables.proofs.Inherited.{InheritsFirst}
use Rattle.name_tables.proofs.Rows.{named}
use Rattle.name_tables.proofs.name_table.NameTable.inherit.Given as goal

abbrev pub invariant-names : goal.invariant-names
invariant-names l = InheritsFirst l.tree l.at l.fn.self (map named l.self-inside.names.entries)
