-- The values that are given to objects and prototypes that were read are short.
use Rattle.std.proofs.Common.{ℕ, zero, suc, Bool, List, [], ◌∷◌, ◌++◌, length, codes, Option, None, Some, Result, Ok, Err}
use Rattle.std.specs.Prelude.{IfOk}
use Rattle.serde_json.specs.Data.{Data}
use Rattle.serde_json.specs.Find.{as_str, get}
use Rattle.ui_machine.specs.Definition.Kinds.{Kind}
use Rattle.ui_machine.specs.Definition.Places.{Bind, GivenProperty, Place, named}
use Rattle.ui_machine.specs.Definition.Programs.{Program}
use Rattle.ui_machine.specs.Definition.Properties.{Spec}
use Rattle.ui_machine.specs.Definition.Types.{GType}
use Rattle.ui_machine.specs.Definition.Values.{Value}
use Rattle.ui_machine.specs.Runs.{IsShort}
use Rattle.g_values.specs.Reading.{json_value}
use Rattle.g_values.specs.declared.error.JsonFault.TheVariants.{WrongJson}
use Rattle.definition_format.specs.Refusals.{Refusal, or_value_fault, value_fault}
use Rattle.definition_format.specs.Document.{at_entry, each, entries_at, members_at, nth, only_at, text_at, under}
use Rattle.definition_format.specs.Denoted.{objects_in, scope_with}
use Rattle.definition_format.specs.Denoted.Attached.{all_attached}
use Rattle.definition_format.specs.Denoted.Binds.{Target, bind_at}
use Rattle.definition_format.specs.Denoted.Entries.{ObjectNames, at_most, most_levels}
use Rattle.definition_format.specs.Denoted.Filled.{Filled, all_filled, bound_at, filled_at, keys_of_given, unbound, unfilled, unless_named, value_or_bind, valued_at}
use Rattle.definition_format.specs.Denoted.Given.{Property, class_ahead, given_by, in_time, itself, may_be, named_once, place_called, property_named, reference, referred, spec_ahead, takes_value}
use Rattle.definition_format.specs.Denoted.Objects.{Built, Placed, Scope, added_at, class_at_key, keys_of_object, new_id, no_objects, object_at, place_at, room_for_object, target_in}
use Rattle.definition_format.specs.Denoted.Peers.{peer_or, peers_of, peers_or}
use Rattle.definition_format.specs.Denoted.Prototypes.{all_plain_at, if_writable, keys_of_plain, keys_of_prototype, plain_at, plain_value, prototype_at, prototype_in, prototypes_in, room_for_prototype}
use Rattle.law_typing.specs.Verdict.Accepted.{Each}
use Rattle.law_typing.proofs.Lists.{each_append}
use Rattle.law_steps.proofs.Served.IfOkProofs.{after_each, after_such, either_such}
use Rattle.law_short_texts.specs.ShortValues.{IsShortGiven}
use Rattle.law_short_readings.proofs.ListProofs.{entries_keep}
use Rattle.law_short_readings.proofs.ValueProofs.{value_or_fault, value_short}

abbrev pub IsShortProperty : GivenProperty → Type 0
IsShortProperty g = IsShortGiven g.given

abbrev pub IsShortPlace : Place → Type 0
IsShortPlace p = Each IsShortProperty p.given

-- ** a value that is given

-- a value itself
value_itself : (r : Result Value Refusal) → IfOk r IsShort → IfOk (itself r) IsShortGiven
value_itself (Ok v) short = short
value_itself (Err refusal) short = tt

value_given : (path : List ℕ) (types : List GType) (kind : Kind) (d : Data) → IfOk (itself (or_value_fault path (json_value types kind d))) IsShortGiven
value_given path types kind d =
    value_itself (or_value_fault path (json_value types kind d)) (value_or_fault path (json_value types kind d) (value_short types kind d))

given_short : (path : List ℕ) (types : List GType) (objects : ObjectNames) (kind : Kind) (d : Data) (r : Option (ℕ × List ℕ))
    → IfOk (given_by path types objects kind d r) IsShortGiven
unfolding referred
given_short path types objects kind d None = value_given path types kind d
given_short path types objects kind d (Some r) =
    after_each (place_called path objects r.1) _ IsShortGiven λ place.
    either_such (may_be types r.0 (class_ahead types objects place)) (Ok (named (at_most 512 place))) (Err (value_fault path WrongJson)) IsShortGiven tt tt

-- ** the properties of an object

module _ (path : List ℕ) (target : Target) where
  abbrev IsShortSoFar : Filled → Type 0
  IsShortSoFar filled = Each IsShortProperty filled.given

  value_filled : (property : Property) (filled : Filled) (v bind : Option Data) → IsShortSoFar filled → IfOk (value_or_bind path target property filled v bind) IsShortSoFar
  unfolding valued_at bound_at
  value_filled property filled (Some d) bind all =
      after_such (given_by (under path (codes "value")) target.types target.objects property.spec.kind d (reference property.spec.kind (as_str d))) _ IsShortGiven IsShortSoFar
      (given_short (under path (codes "value")) target.types target.objects property.spec.kind d (reference property.spec.kind (as_str d))) λ v short.
      after_each (unbound (under path (codes "bind")) bind) _ IsShortSoFar λ single.
      each_append IsShortProperty filled.given (record { slot = property.slot; given = v } ∷ []) all (short, tt)
  value_filled property filled None None all = tt
  value_filled property filled None (Some d) all =
      after_each (bind_at (under path (codes "bind")) target property (length filled.slots) filled.bindings d) _ IsShortSoFar λ bind. all

  one_filled : (filled : Filled) (d : Data) → IsShortSoFar filled → IfOk (filled_at path target filled d) IsShortSoFar
  unfolding filled_at
  one_filled filled d all =
      after_each (members_at path d) _ IsShortSoFar λ members.
      after_each (in_time path target.place target.objects d (spec_ahead (target.specs target.class) d)) _ IsShortSoFar λ early.
      after_each (text_at path d (codes "name")) _ IsShortSoFar λ name.
      after_each (property_named (under path (codes "name")) (target.specs target.class) name) _ IsShortSoFar λ property.
      after_each (unless_named (under path (codes "name")) filled.slots property.slot) _ IsShortSoFar λ once.
      after_each (takes_value (under path (codes "name")) (get (codes "value") d) property.spec) _ IsShortSoFar λ writable.
      after_such (value_or_bind path target property filled (get (codes "value") d) (get (codes "bind") d)) _ IsShortSoFar IsShortSoFar
      (value_filled property filled (get (codes "value") d) (get (codes "bind") d) all) λ more short.
      after_each (only_at path members keys_of_given) _ IsShortSoFar λ only. short

filled_short : (path : List ℕ) (target : Target) (bindings : List Bind) (d : Data) → IfOk (all_filled path target bindings d) (λ (filled : Filled). Each IsShortProperty filled.given)
unfolding all_filled
filled_short path target bindings d =
    after_each (entries_at path d (codes "properties")) _ _ λ list.
    entries_keep (λ (filled : Filled). Each IsShortProperty filled.given) (at_entry (λ entry. filled_at entry target) (under path (codes "properties")))
    (λ i filled d all. one_filled (nth (under path (codes "properties")) i) target filled d all) 0 (unfilled bindings) list tt

-- ** objects

abbrev pub IsShortBuilt : Built → Type 0
IsShortBuilt built = Each IsShortPlace built.places

abbrev IsShortPlaced : Placed → Type 0
IsShortPlaced placed = IsShortPlace placed.place

place_short : (path : List ℕ) (scope : Scope) (parent : Option ℕ) (built : Built) (d : Data) → IfOk (place_at path scope parent built d) IsShortPlaced
unfolding place_at
place_short path scope parent built d =
    after_each (room_for_object scope.most scope.prototypes built.places) _ IsShortPlaced λ room.
    after_each (text_at path d (codes "id")) _ IsShortPlaced λ id.
    after_each (new_id (under path (codes "id")) (built.places ++ scope.prototypes) id) _ IsShortPlaced λ new.
    after_each (class_at_key path scope.types d) _ IsShortPlaced λ class.
    after_each (peer_or (under path (codes "peer")) (scope.has_shape class) (peers_of scope.prototypes ++ peers_of built.places) (get (codes "peer") d)) _ IsShortPlaced λ peers.
    after_such (all_filled path (target_in scope (length built.places) class) built.bindings d) _ (λ (filled : Filled). Each IsShortProperty filled.given) IsShortPlaced
    (filled_short path (target_in scope (length built.places) class) built.bindings d) λ filled short.
    after_each (all_attached path scope.programs scope.names d) _ IsShortPlaced λ signals. short

added_short : (path : List ℕ) (scope : Scope) (parent : Option ℕ) (built : Built) (d : Data) → IsShortBuilt built → IfOk (added_at path scope parent built d) IsShortBuilt
unfolding added_at
added_short path scope parent built d all =
    after_such (place_at path scope parent built d) _ IsShortPlaced IsShortBuilt (place_short path scope parent built d) λ placed short.
    each_append IsShortPlace built.places (placed.place ∷ []) all (short, tt)

object_short : (levels : ℕ) (scope : Scope) (parent : Option ℕ) (path : List ℕ) (built : Built) (d : Data) → IsShortBuilt built → IfOk (object_at levels scope parent path built d) IsShortBuilt
unfolding object_at
object_short zero scope parent path built d all = tt
object_short (suc levels) scope parent path built d all =
    after_each (members_at path d) _ IsShortBuilt λ members.
    after_such (added_at path scope parent built d) _ IsShortBuilt IsShortBuilt (added_short path scope parent built d all) λ more short.
    after_each (entries_at path d (codes "children")) _ IsShortBuilt λ list.
    after_such (each (at_entry (object_at levels scope (Some (length built.places))) (under path (codes "children"))) 0 more list) _ IsShortBuilt IsShortBuilt
    (entries_keep IsShortBuilt (at_entry (object_at levels scope (Some (length built.places))) (under path (codes "children")))
    (λ i others entry kept. object_short levels scope (Some (length built.places)) (nth (under path (codes "children")) i) others entry kept) 0 more list short) λ whole kept.
    after_each (only_at path members keys_of_object) _ IsShortBuilt λ only. kept

pub objects_short : (types : List GType) (specs : ℕ → List Spec) (has_shape : ℕ → Bool) (programs : List Program) (prototypes : List Place) (most : ℕ) (d : Data)
    → IfOk (objects_in types specs has_shape programs prototypes most d) IsShortBuilt
unfolding objects_in
objects_short types specs has_shape programs prototypes most d =
    after_each (entries_at [] d (codes "objects")) _ IsShortBuilt λ list.
    entries_keep IsShortBuilt (at_entry (object_at most_levels (scope_with types specs has_shape programs prototypes most list) None) (under [] (codes "objects")))
    (λ i others entry kept. object_short most_levels (scope_with types specs has_shape programs prototypes most list) None (nth (under [] (codes "objects")) i) others entry kept)
    0 no_objects list tt

-- ** prototypes

plain_short : (path : List ℕ) (types : List GType) (kind : Kind) (d : Option Data) → IfOk (plain_value path types kind d) IsShortGiven
plain_short path types kind None = tt
plain_short path types kind (Some d) = value_given path types kind d

one_plain : (path : List ℕ) (types : List GType) (specs : List Spec) (given : List GivenProperty) (d : Data) → Each IsShortProperty given
    → IfOk (plain_at path types specs given d) (Each IsShortProperty)
unfolding plain_at
one_plain path types specs given d all =
    after_each (members_at path d) _ (Each IsShortProperty) λ members.
    after_each (text_at path d (codes "name")) _ (Each IsShortProperty) λ name.
    after_each (property_named (under path (codes "name")) specs name) _ (Each IsShortProperty) λ property.
    after_each (named_once (under path (codes "name")) given property.slot) _ (Each IsShortProperty) λ once.
    after_each (if_writable (under path (codes "name")) property.spec) _ (Each IsShortProperty) λ writable.
    after_such (plain_value (under path (codes "value")) types property.spec.kind (get (codes "value") d)) _ IsShortGiven (Each IsShortProperty)
    (plain_short (under path (codes "value")) types property.spec.kind (get (codes "value") d)) λ v short.
    after_each (only_at path members keys_of_plain) _ (Each IsShortProperty) λ only.
    each_append IsShortProperty given (record { slot = property.slot; given = v } ∷ []) all (short, tt)

all_plain : (path : List ℕ) (types : List GType) (specs : List Spec) (d : Data) → IfOk (all_plain_at path types specs d) (Each IsShortProperty)
unfolding all_plain_at
all_plain path types specs d =
    after_each (entries_at path d (codes "properties")) _ (Each IsShortProperty) λ list.
    entries_keep (Each IsShortProperty) (at_entry (λ entry. plain_at entry types specs) (under path (codes "properties")))
    (λ i given d all. one_plain (nth (under path (codes "properties")) i) types specs given d all) 0 [] list tt

module _ (types : List GType) (specs : ℕ → List Spec) (has_shape : ℕ → Bool) where
  prototype_short : (path : List ℕ) (prototypes : List Place) (d : Data) → IfOk (prototype_in path types specs has_shape prototypes d) IsShortPlace
  unfolding prototype_in
  prototype_short path prototypes d =
      after_each (members_at path d) _ IsShortPlace λ members.
      after_each (room_for_prototype prototypes) _ IsShortPlace λ room.
      after_each (text_at path d (codes "id")) _ IsShortPlace λ id.
      after_each (new_id (under path (codes "id")) prototypes id) _ IsShortPlace λ new.
      after_each (class_at_key path types d) _ IsShortPlace λ class.
      after_such (all_plain_at path types (specs class) d) _ (Each IsShortProperty) IsShortPlace (all_plain path types (specs class) d) λ given short.
      after_each (peers_or (under path (codes "peers")) (has_shape class) (peers_of prototypes) (get (codes "peers") d)) _ IsShortPlace λ peers.
      after_each (only_at path members keys_of_prototype) _ IsShortPlace λ only. short

  one_more : (path : List ℕ) (prototypes : List Place) (d : Data) → Each IsShortPlace prototypes
      → IfOk (prototype_at path types specs has_shape prototypes d) (Each IsShortPlace)
  unfolding prototype_at
  one_more path prototypes d all =
      after_such (prototype_in path types specs has_shape prototypes d) _ IsShortPlace (Each IsShortPlace) (prototype_short path prototypes d) λ prototype short.
      each_append IsShortPlace prototypes (prototype ∷ []) all (short, tt)

  pub prototypes_short : (d : Data) → IfOk (prototypes_in types specs has_shape d) (Each IsShortPlace)
  unfolding prototypes_in
  prototypes_short d =
      after_each (entries_at [] d (codes "prototypes")) _ (Each IsShortPlace) λ list.
      entries_keep (Each IsShortPlace) (at_entry (λ path. prototype_at path types specs has_shape) (under [] (codes "prototypes")))
      (λ i prototypes d all. one_more (nth (under [] (codes "prototypes")) i) prototypes d all) 0 [] list tt
