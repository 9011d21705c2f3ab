use Rattle.std.proofs.Common.{◌≡◌, ◌-◌, map, take, length}
use Rattle.ui_machine.specs.Definition.Properties.{Spec}
use Rattle.ui_machine.specs.Definition.Lookups.{specs_of}
use Rattle.g_values.specs.View.{value_view}
use Rattle.engine_world.proofs.objects.defaults.Given as goal

abbrev pub invariant-loop-spec : goal.invariant-loop-spec
invariant-loop-spec l = (map value_view l.values.items ≡ map (λ (s : Spec). s.default) (take l.slot (specs_of l.definition l.class)))

abbrev pub decreases-loop-spec : goal.decreases-loop-spec
decreases-loop-spec l = length (specs_of l.definition l.class) - l.slot
