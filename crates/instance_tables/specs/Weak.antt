-- Which properties are weak, by class and slot, and values that change by that.
use Rattle.std.specs.Prelude.{◌≡◌, ℕ, Bool, true, cond, false, not, List, [], ◌∷◌, map, Option, None, Some}
use Rattle.std.specs.List.{list_any}
use Rattle.ui_machine.specs.Seq.{read}
use Rattle.ui_machine.specs.Definition.Values.{Value}
use Rattle.ui_machine.specs.Definition.Values as values
use Rattle.ui_machine.specs.Definition.Properties.{Spec}
use Rattle.ui_machine.specs.Definition.{Definition}
use Rattle.ui_machine.specs.Definition.Lookups.{specs_of}
use Rattle.ui_machine.specs.State.Objects.{Object}
use Rattle.ui_machine.specs.Rules.Disposal.{names_object, is_object}

-- for each class, of each of its slots, whether it is weak
abbrev pub Marks : Type 0
Marks = List (List Bool)

-- whether a slot of any class is marked weak
abbrev pub has_weak : Marks → Bool
has_weak weak = list_any (list_any (λ b. b)) weak

-- it is said whether one is
abbrev pub SaysWeak : Bool → Marks → Type 0
SaysWeak said weak = said ≡ has_weak weak

-- the marks are those of a definition
abbrev pub Knows : Definition → Marks → Type 0
Knows d weak = (class : ℕ) → map (λ (s : Spec). s.weak) (specs_of d class) ≡ read [] weak class

-- whether the slot of a class is one that is marked strong
abbrev pub is_strong : Marks → ℕ → ℕ → Bool
is_strong weak class slot = not (read true (read [] weak class) slot)

-- whether a slot of an object that lives is a strong one
abbrev pub strong_in : Marks → ℕ → Option Object → Bool
strong_in weak slot None = false
strong_in weak slot (Some o) = is_strong weak o.class slot

-- a change of each value that has a mark
abbrev pub masked : (Bool → Value → Value) → List Bool → List Value → List Value
masked change [] vs = vs
masked change (b ∷ bs) [] = []
masked change (b ∷ bs) (v ∷ vs) = change b v ∷ masked change bs vs

-- null for a weak value that names the object
abbrev pub forgotten_value : ℕ → Bool → Value → Value
forgotten_value id weak v = cond (cond weak (names_object id v) false) (values.object None) v

-- null for a strong value of an object kind
abbrev pub dropped_value : Bool → Value → Value
dropped_value weak v = cond (cond weak false (is_object v)) (values.object None) v

-- an object whose weak values no longer name the other
abbrev pub forgetting : Marks → ℕ → Object → Object
forgetting weak id o = record o { values = masked (forgotten_value id) (read [] weak o.class) o.values }
