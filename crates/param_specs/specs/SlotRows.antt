-- Where the properties of types are.
use Rattle.std.specs.Option.{option_map_or}
use Rattle.std.specs.Prelude.{◌≡◌, ◌<◌, ◌≤◌, ◌+◌, ◌*◌, ℕ, List, [], Option, Some, length, map, slice_get}
use Rattle.ui_machine.specs.Definition.Properties.{Spec}
use Rattle.ui_machine.specs.Definition.Types.{GType}
use Rattle.ui_machine.specs.Rules.Ancestry.{parent_of}
use Rattle.ui_machine.specs.Seq.{read}
use Rattle.param_specs.specs.Table.{own_of, specs_of}
use Rattle.param_specs.specs.declared.slots.SlotPlace.{SlotPlace}

-- the property at a place
abbrev pub spec_in : List (List Spec) → SlotPlace → Option Spec
spec_in own place = slice_get (own_of own place.owner) place.at

-- the place of a type's own property
abbrev pub own_place : (t at : ℕ) → SlotPlace
own_place t at = record { owner = t; at = at }

-- the places that a type has from its parent
abbrev pub inherited : List GType → List (List SlotPlace) → ℕ → List SlotPlace
inherited types rows t = option_map_or (read [] rows) (parent_of types t) []

-- these are the places of a type's properties, in the order of its slots
abbrev pub HasRow : List GType → List (List Spec) → ℕ → List SlotPlace → Type 0
HasRow types own t row = map (spec_in own) row ≡ map (λ s. Some s) (specs_of types own t)

-- these are the places of the properties of each type that there is a list for
abbrev pub HasRows : List GType → List (List Spec) → List (List SlotPlace) → Type 0
HasRows types own rows = (t : ℕ) → t < length rows → HasRow types own t (read [] rows t)

-- these are the places of the properties of all types
pub record HasSlots (types : List GType) (own : List (List Spec)) (rows : List (List SlotPlace)) : Type 0 where
  pub all : length rows ≡ length types
  pub each : HasRows types own rows

-- a tree has few types, and a type has few slots: each type adds at most 64 to those of its parent
pub record AreFew (rows : List (List SlotPlace)) : Type 0 where
  pub types : length rows ≤ 256
  pub slots : (t : ℕ) → length (read [] rows t) ≤ 64 * (t + 1)
