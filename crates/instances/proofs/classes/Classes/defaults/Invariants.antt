use Rattle.std.proofs.Common.{◌≡◌, map, take}
use Rattle.ui_machine.specs.Definition.Properties.{Spec}
use Rattle.g_values.specs.View.{value_view}
use Rattle.param_specs.specs.Table.{specs_of}
use Rattle.instances.proofs.classes.Classes.defaults.Given as goal

abbrev pub invariant-loop-slot : goal.invariant-loop-slot
invariant-loop-slot l = map value_view l.values.items ≡ map (λ (s : Spec). s.default) (take l.slot (specs_of l.self.types.now l.self.specs.now l.class))
