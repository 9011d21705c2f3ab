use Rattle.engine_links.specs.Rows.{method_of}
use Rattle.engine_links.specs.Steps.{method_called}
use Rattle.name_tables.specs.Steps.{HasUpTo}
use Rattle.engine_links.proofs.method_rows.MethodRows.new.Given as goal

abbrev pub invariant-shapes : goal.invariant-shapes
invariant-shapes l = HasUpTo (method_called l.definition) l.number (method_of l.methods)
