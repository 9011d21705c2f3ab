use Rattle.std.proofs.Common.{◌≡◌, ◌-◌, take, length}
use Rattle.ui_machine.specs.Definition.Lookups.{specs_of}
use Rattle.engine_world.specs.WeakView.{weak_of}
use Rattle.engine_world.proofs.weak_slots.weak_of.Given as goal

abbrev pub invariant-loop-spec : goal.invariant-loop-spec
invariant-loop-spec l = (l.marks.items ≡ weak_of (take l.slot (specs_of l.definition l.class)))

abbrev pub decreases-loop-spec : goal.decreases-loop-spec
decreases-loop-spec l = length (specs_of l.definition l.class) - l.slot
