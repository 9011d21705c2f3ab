use Rattle.std.proofs.Common.{◌≡◌, ◌++◌, map, replicate}
use Rattle.ui_machine.specs.Definition.Kinds.{unset}
use Rattle.bytecode.specs.View.{register_kind_view}
use Rattle.handler_code.proofs.reading.code.filled.Given as goal

abbrev pub invariant-filling : goal.invariant-filling
invariant-filling l = map register_kind_view l.entry.items ≡ map register_kind_view l.kinds ++ replicate l._added unset
