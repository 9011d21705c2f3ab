-- How many properties the objects have.
use Rattle.std.specs.Prelude.{◌≡◌, ℕ, length, List, Some}
use Rattle.ui_machine.specs.Definition.Properties.{Spec}
use Rattle.ui_machine.specs.Definition.Types.{GType}
use Rattle.ui_machine.specs.State.Objects.{Object, Objects, living}
use Rattle.param_specs.specs.Table.{specs_of}

-- each object has as many values as its class has properties
abbrev pub AreSlotted : List GType → List (List Spec) → Objects → Type 0
AreSlotted types specs os = (id : ℕ) (o : Object) → living os id ≡ Some o → length o.values ≡ length (specs_of types specs o.class)
