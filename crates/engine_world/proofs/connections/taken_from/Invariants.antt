use Rattle.std.proofs.Common.{◌≡◌, ℕ, ◌+◌, nat_lt}
use Rattle.ui_machine.specs.Rules.Build.{is_connecting}
use Rattle.ui_machine.specs.Rules.Connections.{greatest_handler}
use Rattle.ui_machine.specs.Seq.{total}
use Rattle.engine_stack.specs.TaskView.{connects_from}
use Rattle.engine_world.proofs.connections.taken_from.Given as goal

abbrev pub invariant-loop-at : goal.invariant-loop-at
invariant-loop-at l =
    (more : ℕ) → nat_lt (l.taken + total is_connecting (connects_from l.definition l.at l.first) + more) greatest_handler
    ≡ nat_lt (l.last + total is_connecting (connects_from l.definition l.fn.place.0 l.number) + more) greatest_handler
