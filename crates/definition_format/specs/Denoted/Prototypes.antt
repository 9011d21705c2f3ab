-- The prototypes of a definition, of which programs make objects.
use Rattle.std.specs.Prelude.{ℕ, List, [], ◌∷◌, ◌++◌, length, codes, nat_le, Bool, if◌then◌else◌, Option, None, Some, Result, Ok, Err}
use Rattle.serde_json.specs.Data.{Data}
use Rattle.serde_json.specs.Find.{get}
use Rattle.g_values.specs.Reading.{json_value}
use Rattle.ui_machine.specs.Outcome.{◌>>=◌}
use Rattle.ui_machine.specs.Definition.Kinds.{Kind}
use Rattle.ui_machine.specs.Definition.Places as machine
use Rattle.ui_machine.specs.Definition.Properties.{Spec, is_writable}
use Rattle.ui_machine.specs.Definition.Types.{GType}
use Rattle.definition_format.specs.Causes.{not_writable}
use Rattle.definition_format.specs.declared.faults.DefinitionLimit.TheVariants.{Places}
use Rattle.definition_format.specs.Meaning.{prototype_with}
use Rattle.definition_format.specs.Refusals.{Refusal, shape, bad_spec, limit, or_value_fault}
use Rattle.definition_format.specs.Document.{under, members_at, text_at, entries_at, only_at, each, at_entry}
use Rattle.definition_format.specs.Denoted.Given.{property_named, named_once, itself}
use Rattle.definition_format.specs.Denoted.Objects.{new_id, class_at_key}
use Rattle.definition_format.specs.Denoted.Peers.{peers_of, peers_or}

-- ** given values

-- a property that takes a value
abbrev pub if_writable : List ℕ → Spec → Result (Unit {0}) Refusal
if_writable path spec = if is_writable spec then Ok tt else Err (bad_spec path not_writable)

-- the value at a member, which must be there; for an object it is null
abbrev pub plain_value : List ℕ → List GType → Kind → Option Data → Result machine.Given Refusal
plain_value path types kind None = Err (shape path)
plain_value path types kind (Some d) = itself (or_value_fault path (json_value types kind d))

abbrev pub keys_of_plain : List (List ℕ)
keys_of_plain = codes "name" ∷ codes "value" ∷ []

-- these given values, with the one that an entry gives to one of these properties
unfoldable pub plain_at : List ℕ → List GType → List Spec → List machine.GivenProperty → Data → Result (List machine.GivenProperty) Refusal
plain_at path types specs given d = do
  members ← members_at path d
  name ← text_at path d (codes "name")
  property ← property_named (under path (codes "name")) specs name
  once ← named_once (under path (codes "name")) given property.slot
  writable ← if_writable (under path (codes "name")) property.spec
  v ← plain_value (under path (codes "value")) types property.spec.kind (get (codes "value") d)
  only ← only_at path members keys_of_plain
  Ok (given ++ record { slot = property.slot; given = v } ∷ [])

-- the values that a prototype is given, where its class has these properties
unfoldable pub all_plain_at : List ℕ → List GType → List Spec → Data → Result (List machine.GivenProperty) Refusal
all_plain_at path types specs d = do
  list ← entries_at path d (codes "properties")
  each (at_entry (λ entry. plain_at entry types specs) (under path (codes "properties"))) 0 [] list

-- ** prototypes

-- there is a place for one more
abbrev pub room_for_prototype : List machine.Place → Result (Unit {0}) Refusal
room_for_prototype prototypes = if nat_le 512 (length prototypes) then Err (limit Places) else Ok tt

abbrev pub keys_of_prototype : List (List ℕ)
keys_of_prototype = codes "id" ∷ codes "class" ∷ codes "properties" ∷ codes "peers" ∷ []

-- the prototype that an entry gives beside these, where classes have these properties, and these classes have a shape
unfoldable pub prototype_in : List ℕ → List GType → (ℕ → List Spec) → (ℕ → Bool) → List machine.Place → Data → Result machine.Place Refusal
prototype_in path types specs has_shape prototypes d = do
  members ← members_at path d
  room ← room_for_prototype prototypes
  id ← text_at path d (codes "id")
  new ← new_id (under path (codes "id")) prototypes id
  class ← class_at_key path types d
  given ← all_plain_at path types (specs class) d
  peers ← peers_or (under path (codes "peers")) (has_shape class) (peers_of prototypes) (get (codes "peers") d)
  only ← only_at path members keys_of_prototype
  Ok (prototype_with id class peers given)

-- these prototypes, with the one that an entry gives
unfoldable pub prototype_at : List ℕ → List GType → (ℕ → List Spec) → (ℕ → Bool) → List machine.Place → Data → Result (List machine.Place) Refusal
prototype_at path types specs has_shape prototypes d = do
  prototype ← prototype_in path types specs has_shape prototypes d
  Ok (prototypes ++ prototype ∷ [])

-- the prototypes of a document with these types and their properties, of which these have a shape
unfoldable pub prototypes_in : List GType → (ℕ → List Spec) → (ℕ → Bool) → Data → Result (List machine.Place) Refusal
prototypes_in types specs has_shape d = do
  list ← entries_at [] d (codes "prototypes")
  each (at_entry (λ path. prototype_at path types specs has_shape) (under [] (codes "prototypes"))) 0 [] list
