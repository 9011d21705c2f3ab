-- What the code knows where it reads the properties of an object.
use Rattle.std.specs.Prelude.{List, map}
use Rattle.ui_machine.specs.Definition.Places as machine
use Rattle.param_specs.specs.Table.{own_of}
use Rattle.read_objects.specs.declared.filled.Filled.{Filled}
use Rattle.read_objects.specs.declared.targets.Target.{Target}
use Rattle.definition_format.specs.Meaning.{given_property}
use Rattle.definition_format.specs.Denoted.Binds as binds
use Rattle.definition_format.specs.Denoted.Filled as pure
use Rattle.definition_format.specs.Denoted.Properties.{specs_by}

abbrev pub target_of : Target → binds.Target
target_of target = record {
  types = target.types.now;
  specs = specs_by target.types.now (own_of target.specs.now);
  objects = target.objects.now;
  place = target.place.0;
  class = target.class;
}

-- what entries gave, with all bindings so far
abbrev pub filled_view : Filled → List machine.Bind → pure.Filled
filled_view filled bindings = record { slots = filled.slots.items; given = map given_property filled.given.items; bindings = bindings }
