use Rattle.std.proofs.Common.{◌≡◌}
use Rattle.signal_core.specs.Table.{class_handler_named}
use Rattle.signal_core.proofs.table.SignalTable.handler_named.Given as goal

abbrev pub invariant-line : goal.invariant-line
invariant-line l = class_handler_named l.tree l.self.handlers l.class l.name ≡ class_handler_named l.tree l.self.handlers l.fn.t l.name

abbrev pub decreases-line : goal.decreases-line
decreases-line l = l.class
