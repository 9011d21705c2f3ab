-- The properties of a class.
use Rattle.std.specs.Prelude.{ℕ, List, [], ◌∷◌, ◌++◌, length, reverse, codes, Bool, false, nat_eq, nat_le, if◌then◌else◌, Option, None, Some, is_some, Result, Ok, Err}
use Rattle.std.specs.List.{flat_map}
use Rattle.serde_json.specs.Data.{Data}
use Rattle.serde_json.specs.Find.{get, as_bool}
use Rattle.ui_machine.specs.Outcome.{◌>>=◌}
use Rattle.ui_machine.specs.Definition.Kinds.{Kind}
use Rattle.ui_machine.specs.Definition.Values.{Value}
use Rattle.ui_machine.specs.Definition.Types.{GType}
use Rattle.ui_machine.specs.Rules.Ancestry.{lineage, parent_of}
use Rattle.ui_machine.specs.Definition.Properties.{Spec}
use Rattle.param_specs.specs.Table.{slot_named, install_fault, canonical_spec}
use Rattle.type_tree.specs.PropertyName.{is_property_name}
use Rattle.param_specs.specs.declared.error.SpecFault.{SpecFault}
use Rattle.param_specs.specs.declared.error.SpecFault.TheVariants.{BadName, Duplicate}
use Rattle.definition_format.specs.declared.faults.DefinitionLimit.TheVariants.{Properties}
use Rattle.definition_format.specs.Refusals.{Refusal, shape, duplicate, not_installed, limit, or_refused}
use Rattle.definition_format.specs.Document.{under, members_at, text_at, only_at}
use Rattle.definition_format.specs.Denoted.Entries.{TypeNames}
use Rattle.definition_format.specs.Denoted.Kinds.{is_object_kind, kind_at}
use Rattle.definition_format.specs.Denoted.PropertyFlags.{flags_at}
use Rattle.definition_format.specs.Denoted.Ranges.{Range, whole_range, range_at}
use Rattle.definition_format.specs.Denoted.Defaults.{default_at, check_default, check_unranged}

-- the properties of a type, inherited first, where each type has these of its own
abbrev pub specs_by : List GType → (ℕ → List Spec) → ℕ → List Spec
specs_by types own t = flat_map own (reverse (lineage types t))

-- the properties that a type inherits
abbrev pub inherited_of : (ℕ → List Spec) → Option ℕ → List Spec
inherited_of specs None = []
inherited_of specs (Some parent) = specs parent

abbrev pub inherited_by : List GType → (ℕ → List Spec) → ℕ → List Spec
inherited_by types own t = inherited_of (specs_by types own) (parent_of types t)

-- the spec of a property with this default and range, which is not weak
abbrev pub property_spec : List ℕ → Kind → ℕ → Value → Range → Spec
property_spec name kind flags default range =
    record { name = name; kind = kind; flags = flags; default = default; low = range.low; high = range.high; weak = false }

-- a truth value that goes with kinds of objects alone
abbrev pub weak_or : List ℕ → Kind → Option Data → Result Bool Refusal
weak_or path kind None = Ok false
weak_or path kind (Some d) = if is_object_kind kind then or_refused (shape path) (as_bool d) else Err (shape path)

-- whether a property is weak
abbrev pub weak_at : List ℕ → Kind → Data → Result Bool Refusal
weak_at path kind d = weak_or (under path (codes "weak")) kind (get (codes "weak") d)

abbrev pub room_for_property : List Spec → Result (Unit {0}) Refusal
room_for_property specs = if nat_le 64 (length specs) then Err (limit Properties) else Ok tt

-- a name that a type has not yet: what an ancestor has is reported as such
abbrev pub new_name : List ℕ → List Spec → List Spec → List ℕ → Result (Unit {0}) Refusal
new_name path inherited specs name =
    if is_some (slot_named inherited name) then Err (duplicate path) else
    (if is_some (slot_named specs name) then Err (not_installed path Duplicate) else Ok tt)

-- the name of a property, where a type inherits some of these and has all of them
abbrev pub new_property : List ℕ → List Spec → List Spec → List ℕ → Result (Unit {0}) Refusal
new_property path inherited specs name = if is_property_name name then new_name path inherited specs name else Err (not_installed path BadName)

abbrev pub keys_of_property : List (List ℕ)
keys_of_property = codes "name" ∷ codes "kind" ∷ codes "flags" ∷ codes "default" ∷ codes "min" ∷ codes "max" ∷ codes "weak" ∷ []

-- The spec of a property of this name and kind, with these flags. The default is tested against a range that is not at fault itself, and
-- at a kind without a range before `min` and `max` are looked at.
unfoldable pub valued_at : List ℕ → List GType → List ℕ → Kind → ℕ → Data → Result Spec Refusal
valued_at path types name kind flags d = do
  default ← default_at path types kind d
  unranged ← check_unranged (under path (codes "default")) types (property_spec name kind flags default (whole_range kind))
  range ← range_at path kind d
  valid ← check_default (under path (codes "default")) types (property_spec name kind flags default range)
  Ok (property_spec name kind flags default range)

-- the spec of a property of a type that inherits some of these and has all of them
unfoldable pub spec_at : List ℕ → List GType → TypeNames → List Spec → List Spec → Data → Result Spec Refusal
spec_at path types names inherited specs d = do
  members ← members_at path d
  room ← room_for_property specs
  name ← text_at path d (codes "name")
  new ← new_property (under path (codes "name")) inherited specs name
  kind ← kind_at path types names d
  flags ← flags_at path d
  spec ← valued_at path types name kind flags d
  weak ← weak_at path kind d
  only ← only_at path members keys_of_property
  Ok (record spec { weak = weak })

-- each type's own properties, with one more
abbrev pub add_own : (ℕ → List Spec) → ℕ → Spec → ℕ → List Spec
add_own own t spec u = if nat_eq u t then own u ++ spec ∷ [] else own u

abbrev pub installed_or : List ℕ → Option SpecFault → (ℕ → List Spec) → Result (ℕ → List Spec) Refusal
installed_or path None own = Ok own
installed_or path (Some cause) own = Err (not_installed path cause)

abbrev pub installed : List ℕ → List GType → ℕ → (ℕ → List Spec) → Spec → Result (ℕ → List Spec) Refusal
installed path types t own spec = installed_or path (install_fault types (specs_by types own t) spec) (add_own own t (canonical_spec spec))

unfoldable pub property_at : List ℕ → List GType → TypeNames → ℕ → (ℕ → List Spec) → Data → Result (ℕ → List Spec) Refusal
property_at path types names t own d = do
  spec ← spec_at path types names (inherited_by types own t) (specs_by types own t) d
  installed path types t own spec
