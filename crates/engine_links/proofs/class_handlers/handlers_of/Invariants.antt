use Rattle.std.proofs.Common.{take}
use Rattle.ui_machine.specs.Definition.Lookups.{class_of}
use Rattle.engine_links.specs.Steps.{ArePairwise, IsHandler}
use Rattle.engine_links.proofs.class_handlers.handlers_of.Given as goal

abbrev pub invariant-loop-number : goal.invariant-loop-number
invariant-loop-number l = ArePairwise (IsHandler l.definition l.class) (take l.number (class_of l.definition l.class).signals) l.row.items
