-- What the entries of an object's properties give it: values and bindings.
use Rattle.std.specs.Prelude.{ℕ, List, [], ◌∷◌, ◌++◌, codes, length, Bool, nat_eq, if◌then◌else◌, Option, None, Some, Result, Ok, Err}
use Rattle.std.specs.List.{list_any}
use Rattle.serde_json.specs.Data.{Data}
use Rattle.serde_json.specs.Find.{get, as_str}
use Rattle.ui_machine.specs.Outcome.{◌>>=◌}
use Rattle.ui_machine.specs.Definition.Places.{Bind, Given, GivenProperty}
use Rattle.definition_format.specs.Refusals.{Refusal, shape, duplicate}
use Rattle.definition_format.specs.Document.{under, members_at, text_at, entries_at, only_at, each, at_entry}
use Rattle.definition_format.specs.Denoted.Given.{Property, property_named, takes_value, reference, given_by, spec_ahead, in_time}
use Rattle.definition_format.specs.Denoted.Binds.{Target, bind_at}

-- what entries gave so far: the slots of the properties that they name, values, and bindings behind those of the objects before
pub record Filled : Type 0 where
  pub slots : List ℕ
  pub given : List GivenProperty
  pub bindings : List Bind

-- nothing but the bindings of the objects before
abbrev pub unfilled : List Bind → Filled
unfilled bindings = record { slots = []; given = []; bindings = bindings }

-- a value more
abbrev pub with_value : Filled → ℕ → Given → Filled
with_value filled slot v =
    record { slots = filled.slots ++ slot ∷ []; given = filled.given ++ record { slot = slot; given = v } ∷ []; bindings = filled.bindings }

-- a binding more
abbrev pub with_bind : Filled → Bind → Filled
with_bind filled bind =
    record { slots = filled.slots ++ bind.target_slot ∷ []; given = filled.given; bindings = filled.bindings ++ bind ∷ [] }

-- whether one of these slots is the property's
abbrev pub is_named : List ℕ → ℕ → Bool
is_named slots slot = list_any (λ other. nat_eq other slot) slots

-- a property that the entries before do not name
abbrev pub unless_named : List ℕ → List ℕ → ℕ → Result (Unit {0}) Refusal
unless_named path slots slot = if is_named slots slot then Err (duplicate path) else Ok tt

-- no binding beside a value
abbrev pub unbound : List ℕ → Option Data → Result (Unit {0}) Refusal
unbound path None = Ok tt
unbound path (Some d) = Err (shape path)

unfoldable pub valued_at : List ℕ → Target → Property → Filled → Data → Option Data → Result Filled Refusal
valued_at path target property filled d bind = do
  v ← given_by (under path (codes "value")) target.types target.objects property.spec.kind d (reference property.spec.kind (as_str d))
  single ← unbound (under path (codes "bind")) bind
  Ok (with_value filled property.slot v)

-- the property's entry has the number of the entries before
unfoldable pub bound_at : List ℕ → Target → Property → Filled → Data → Result Filled Refusal
bound_at path target property filled d = do
  bind ← bind_at (under path (codes "bind")) target property (length filled.slots) filled.bindings d
  Ok (with_bind filled bind)

-- exactly one of a value and a binding
abbrev pub value_or_bind : List ℕ → Target → Property → Filled → (value bind : Option Data) → Result Filled Refusal
value_or_bind path target property filled (Some d) bind = valued_at path target property filled d bind
value_or_bind path target property filled None None = Err (shape (under path (codes "value")))
value_or_bind path target property filled None (Some d) = bound_at path target property filled d

abbrev pub keys_of_given : List (List ℕ)
keys_of_given = codes "name" ∷ codes "value" ∷ codes "bind" ∷ []

-- what entries gave, with the one that this entry gives to a property of the object
unfoldable pub filled_at : List ℕ → Target → Filled → Data → Result Filled Refusal
filled_at path target filled d = do
  members ← members_at path d
  early ← in_time path target.place target.objects d (spec_ahead (target.specs target.class) d)
  name ← text_at path d (codes "name")
  property ← property_named (under path (codes "name")) (target.specs target.class) name
  once ← unless_named (under path (codes "name")) filled.slots property.slot
  writable ← takes_value (under path (codes "name")) (get (codes "value") d) property.spec
  more ← value_or_bind path target property filled (get (codes "value") d) (get (codes "bind") d)
  only ← only_at path members keys_of_given
  Ok more

-- what the entries of an object's properties give it, beside the bindings of the objects before
unfoldable pub all_filled : List ℕ → Target → List Bind → Data → Result Filled Refusal
all_filled path target bindings d = do
  list ← entries_at path d (codes "properties")
  each (at_entry (λ entry. filled_at entry target) (under path (codes "properties"))) 0 (unfilled bindings) list
