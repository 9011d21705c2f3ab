use Rattle.std.proofs.Common.{◌≡◌}
use Rattle.ui_machine.specs.Seq.{listed}
use Rattle.law_idle.specs.Idle.{is_handled}
use Rattle.verify_graph.proofs.busy_signals.handled_by.Given as goal

abbrev pub invariant-loop-number : goal.invariant-loop-number
invariant-loop-number l = l.marks.items ≡ listed (is_handled l.lookups l.class) l.number
