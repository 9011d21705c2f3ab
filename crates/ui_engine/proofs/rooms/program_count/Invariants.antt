use Rattle.std.proofs.Common.{◌-◌, ◌≤◌, length}
use Rattle.ui_engine.proofs.rooms.program_count.Given as goal

abbrev pub invariant-loop-number : goal.invariant-loop-number
invariant-loop-number l = l.number ≤ length l.definition.programs

abbrev pub decreases-loop-number : goal.decreases-loop-number
decreases-loop-number l = length l.definition.programs - l.number
