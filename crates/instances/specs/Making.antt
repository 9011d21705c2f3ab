-- How an object is made in a heap.
use Rattle.std.specs.Prelude.{◌≡◌, ℕ, suc, length, map, true, false, Bool, List, Option, Result, Ok, Err}
use Rattle.ui_machine.specs.declared.ids.ObjectId.{ObjectId}
use Rattle.ui_machine.specs.Definition.Properties.{Spec}
use Rattle.ui_machine.specs.Definition.Types.{GType}
use Rattle.ui_machine.specs.Definition.Values.{Value}
use Rattle.ui_machine.specs.Rules.Ancestry.{is_a}
use Rattle.ui_machine.specs.Rules.Construction.{initially_unowned}
use Rattle.ui_machine.specs.State.Objects.{Object}
use Rattle.param_specs.specs.Table.{specs_of}
use Rattle.instance_tables.specs.Store.{Store, has_room, made_object, with_floating, with_object}
use Rattle.instance_tables.specs.declared.error.CreateError.{CreateError}
use Rattle.instance_tables.specs.declared.error.CreateError.TheVariants.{ObjectLimit, OutOfMemory}

-- the defaults of the properties of a class, by slot
abbrev pub defaults_of : List GType → List (List Spec) → ℕ → List Value
defaults_of types specs class = map (λ (s : Spec). s.default) (specs_of types specs class)

-- an object of a class as it is made
abbrev pub born : List GType → List (List Spec) → ℕ → ℕ → Option ℕ → Object
born types specs place class peer = made_object class place (defaults_of types specs class) peer

-- whether an object of a class begins floating
abbrev pub floats_at_first : List GType → ℕ → Bool
floats_at_first types class = is_a types class initially_unowned

-- the store with one object more, which floats if so
abbrev pub with_born : Bool → Object → Store → Store
with_born false o s = with_object o s
with_born true o s = with_floating (suc (length s.objects)) (with_object o s)

-- One object more under the next identity, or the limit exactly where there is no room. Memory is asked for only where there is room. An error
-- leaves all as it was.
abbrev pub Makes : Result ObjectId CreateError → Bool → Object → Store → Store → Type 0
Makes (Ok id) floats o old new = (has_room 0 old ≡ true) × (id.0 ≡ suc (length old.objects)) × (new ≡ with_born floats o old)
Makes (Err ObjectLimit) floats o old new = (has_room 0 old ≡ false) × (new ≡ old)
Makes (Err OutOfMemory) floats o old new = (has_room 0 old ≡ true) × (new ≡ old)
