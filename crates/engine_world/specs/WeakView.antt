-- Which properties are marked weak.
use Rattle.std.specs.Prelude.{Bool, List, map}
use Rattle.ui_machine.specs.Definition.Properties.{Spec}

-- of each slot, whether it is weak
abbrev pub weak_of : List Spec → List Bool
weak_of specs = map (λ (s : Spec). s.weak) specs
