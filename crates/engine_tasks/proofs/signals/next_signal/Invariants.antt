use Rattle.std.proofs.Common.{◌≡◌}
use Rattle.engine_stack.specs.TaskView.{connects_from}
use Rattle.engine_tasks.proofs.signals.next_signal.Given as goal

abbrev pub invariant-loop-at : goal.invariant-loop-at
invariant-loop-at l = connects_from l.definition l.fn.place.0 l.number ≡ connects_from l.definition l.at l.first
