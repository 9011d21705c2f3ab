-- The values that are given to an object's properties.
use Rattle.std.specs.Prelude.{ℕ, List, codes, Bool, true, false, ◌&&◌, not, nat_eq, nat_le, if◌then◌else◌, slice_get, Option, None, Some, is_some, option_and_then, Result, Ok, Err}
use Rattle.std.specs.List.{list_any}
use Rattle.serde_json.specs.Data.{Data}
use Rattle.ui_machine.specs.Outcome.{◌>>=◌}
use Rattle.ui_machine.specs.Seq.{read}
use Rattle.ui_machine.specs.Definition.Kinds.{Kind}
use Rattle.ui_machine.specs.Definition.Kinds as kinds
use Rattle.ui_machine.specs.Definition.Values.{Value}
use Rattle.ui_machine.specs.Definition.Types.{GType}
use Rattle.ui_machine.specs.Definition.Properties.{Spec, is_writable, is_construct_only}
use Rattle.ui_machine.specs.Definition.Places.{Given, GivenProperty, value, named}
use Rattle.ui_machine.specs.Rules.Ancestry.{is_a}
use Rattle.type_tree.specs.Adding.{class_named}
use Rattle.g_values.specs.Reading.{json_value}
use Rattle.g_values.specs.declared.error.JsonFault.TheVariants.{WrongJson}
use Rattle.param_specs.specs.Table.{slot_named}
use Rattle.definition_format.specs.Causes.{not_writable}
use Rattle.definition_format.specs.Refusals.{Refusal, shape, unknown, duplicate, bad_spec, value_fault, forward_construct_only, or_refused, or_value_fault}
use Rattle.definition_format.specs.Denoted.Names.{is_name}
use Rattle.definition_format.specs.Denoted.Entries.{ObjectNames, name_under, number_from, at_most}

-- a property, by its slot
pub record Property : Type 0 where
  pub slot : ℕ
  pub spec : Spec

-- the property that a name names among these, in either spelling
unfoldable pub property_named : List ℕ → List Spec → List ℕ → Result Property Refusal
property_named path specs name = do
  slot ← or_refused (unknown path name) (slot_named specs name)
  spec ← or_refused (unknown path name) (slice_get specs slot)
  Ok (record { slot = slot; spec = spec })

abbrev pub is_given : List GivenProperty → ℕ → Bool
is_given given slot = list_any (λ (g : GivenProperty). nat_eq g.slot slot) given

-- a property that is named once in an object
abbrev pub named_once : List ℕ → List GivenProperty → ℕ → Result (Unit {0}) Refusal
named_once path given slot = if is_given given slot then Err (duplicate path) else Ok tt

-- a property that takes the value, where one is given
abbrev pub takes_value : List ℕ → Option Data → Spec → Result (Unit {0}) Refusal
takes_value path given spec = if is_some given && not (is_writable spec) then Err (bad_spec path not_writable) else Ok tt

-- ** objects as values

-- the type of the object and the id, where a text denotes an object
abbrev pub reference : Kind → Option (List ℕ) → Option (ℕ × List ℕ)
reference (kinds.object t) (Some id) = Some (t, id)
reference (kinds.object t) None = None
reference kinds.bool id = None
reference (kinds.whole k) id = None
reference kinds.text id = None
reference (kinds.enum t) id = None
reference (kinds.flags t) id = None

-- the class that the entry of an object names, if there is one of the name
abbrev pub class_ahead : List GType → ObjectNames → ℕ → Option ℕ
class_ahead types objects place = option_and_then (class_named types) (read None objects.classes place)

-- whether an object of the class is one of the type; where the class is not known, that is reported of the object itself
abbrev pub may_be : List GType → ℕ → Option ℕ → Bool
may_be types t None = true
may_be types t (Some class) = is_a types class t

-- the place of the object of an id, which may come later
abbrev pub place_called : List ℕ → ObjectNames → List ℕ → Result ℕ Refusal
place_called path objects id =
    if is_name id then or_refused (unknown path id) (number_from 0 objects.ids id) else Err (shape path)

-- The object of a place, which must be of the type. One past the 512 places that there may be denotes none.
abbrev pub of_type : List ℕ → List GType → ObjectNames → ℕ → ℕ → Result Given Refusal
of_type path types objects t place =
    if may_be types t (class_ahead types objects place) then Ok (named (at_most 512 place)) else Err (value_fault path WrongJson)

-- the object that is referred to
unfoldable pub referred : List ℕ → List GType → ObjectNames → ℕ × List ℕ → Result Given Refusal
referred path types objects r = do
  place ← place_called path objects r.1
  of_type path types objects r.0 place

-- ** given values

-- a value itself
abbrev pub itself : Result Value Refusal → Result Given Refusal
itself (Ok v) = Ok (value v)
itself (Err refusal) = Err refusal

-- a value of a kind, or the object that it refers to
abbrev pub given_by : List ℕ → List GType → ObjectNames → Kind → Data → Option (ℕ × List ℕ) → Result Given Refusal
given_by path types objects kind d None = itself (or_value_fault path (json_value types kind d))
given_by path types objects kind d (Some r) = referred path types objects r

-- ** objects that come too late

-- the property that an entry names, if there is one
abbrev pub spec_ahead : List Spec → Data → Option Spec
spec_ahead specs d = option_and_then (λ name. option_and_then (slice_get specs) (slot_named specs name)) (name_under (codes "name") d)

-- the place of the object that a value refers to, if there is one
abbrev pub place_ahead : ObjectNames → Option (ℕ × List ℕ) → Option ℕ
place_ahead objects None = None
place_ahead objects (Some r) = if is_name r.1 then number_from 0 objects.ids r.1 else None

-- whether a place is this one or comes later
abbrev pub is_from : ℕ → Option ℕ → Bool
is_from place None = false
is_from place (Some to) = nat_le place to

-- Whether an entry gives an object that is not there yet to a property that constructions alone set. It is reported of the whole entry, so that
-- name and value are read ahead.
abbrev pub is_too_late : ℕ → ObjectNames → Data → Spec → Bool
is_too_late place objects d spec =
    is_construct_only spec && is_from place (place_ahead objects (reference spec.kind (name_under (codes "value") d)))

abbrev pub in_time : List ℕ → ℕ → ObjectNames → Data → Option Spec → Result (Unit {0}) Refusal
in_time path place objects d None = Ok tt
in_time path place objects d (Some spec) = if is_too_late place objects d spec then Err (forward_construct_only path) else Ok tt
