-- Whether a type has the properties of an interface as the interface has them.
use Rattle.std.specs.Prelude.{ℕ, Bool, false, not, ◌&&◌, nat_eq, List, Option, None, Some, is_some, option_map, option_and_then, slice_get, position, Result, Ok, Err}
use Rattle.std.specs.Ordering.{int_eq}
use Rattle.ui_machine.specs.Rules.Transform.{same_kind, same_value, same_bool}
use Rattle.ui_machine.specs.Definition.Properties.{Spec}
use Rattle.param_specs.specs.Table.{slot_named, ◌or_else◌}
use Rattle.param_specs.specs.declared.error.OverrideFault.{OverrideFault}
use Rattle.param_specs.specs.declared.error.OverrideFault.TheVariants.{Missing, Differs}

-- one kind and range
abbrev pub same_range : Spec → Spec → Bool
same_range a b = same_kind a.kind b.kind && int_eq a.low b.low && int_eq a.high b.high

-- one default, weakness and flags
abbrev pub same_rest : Spec → Spec → Bool
same_rest a b = same_value a.default b.default && same_bool a.weak b.weak && nat_eq a.flags b.flags

-- whether two properties are the same but for their names
abbrev pub same_spec : Spec → Spec → Bool
same_spec a b = same_range a b && same_rest a b

-- the property of a name, in any spelling
abbrev pub spec_named : List Spec → List ℕ → Option Spec
spec_named specs name = option_and_then (slice_get specs) (slot_named specs name)

abbrev pub is_missing : List Spec → Spec → Bool
is_missing specs wanted = not (is_some (slot_named specs wanted.name))

abbrev pub is_another : Option Spec → Spec → Bool
is_another None wanted = false
is_another (Some s) wanted = not (same_spec s wanted)

-- whether a property of that name is there, but is another one
abbrev pub differs : List Spec → Spec → Bool
differs specs wanted = is_another (spec_named specs wanted.name) wanted

-- the first property that is wanted and missing, else the first that differs
abbrev pub override_fault : List Spec → List Spec → Option OverrideFault
override_fault specs wanted =
    option_map Missing (position (is_missing specs) wanted)
    or_else option_map Differs (position (differs specs) wanted)

abbrev pub fine_or : Option OverrideFault → Result (Unit {0}) OverrideFault
fine_or None = Ok tt
fine_or (Some fault) = Err fault
