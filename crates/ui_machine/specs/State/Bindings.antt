-- Bindings between two properties: who listens, and how they end (GObject manual, GBinding).
use Rattle.std.specs.List.{filter, find, list_any}
use Rattle.std.specs.Prelude.{Bool, List, None, Option, Some, cond, false, map, nat_eq, not, ℕ, ◌&&◌, ◌||◌}
use Rattle.ui_machine.specs.Definition.{Definition}
use Rattle.ui_machine.specs.Definition.Names.{same_name}
use Rattle.ui_machine.specs.Definition.Places.{Bind}
use Rattle.ui_machine.specs.Definition.Properties.{has_flags}
use Rattle.ui_machine.specs.State.Tasks.{PlanEntry}
use Rattle.ui_machine.specs.State.Tasks as config

-- a binding that was made
pub record Binding : Type 0 where
  pub number : ℕ
  pub name : Option (List ℕ)
  pub source : ℕ  -- an identity
  pub source_slot : ℕ
  pub target : ℕ
  pub target_slot : ℕ
  pub flags : ℕ
  pub busy : Bool  -- while what it set goes on

-- ** who listens

-- whether the binding goes both ways
abbrev pub is_bidirectional : Binding → Bool
is_bidirectional b = has_flags 1 b.flags

-- whether the property is the binding's source
abbrev pub is_source : (object slot : ℕ) → Binding → Bool
is_source object slot b = nat_eq b.source object && nat_eq b.source_slot slot

-- whether the property is the binding's target
abbrev pub is_target : (object slot : ℕ) → Binding → Bool
is_target object slot b = nat_eq b.target object && nat_eq b.target_slot slot

-- whether a notification of the property is the binding's: at its source, and if it is bidirectional at its target
abbrev pub listens : (object slot : ℕ) → Binding → Bool
listens object slot b = is_source object slot b || (is_bidirectional b && is_target object slot b)

-- whether the notification of the property goes from the target back to the source
abbrev pub goes_back : (object slot : ℕ) → Binding → Bool
goes_back object slot b = not (is_source object slot b)

-- the transfers that a notification of the property is to make, in document order
abbrev pub transfers : (object slot : ℕ) → List Binding → List PlanEntry
transfers object slot bindings = map (λ b. config.transfer b.number (goes_back object slot b)) (filter (listens object slot) bindings)

-- ** how they end

-- whether a binding of this name, if it has one, is called so
abbrev pub is_name : List ℕ → Option (List ℕ) → Bool
is_name name None = false
is_name name (Some own) = same_name own name

-- whether the binding is called so
abbrev pub is_called : List ℕ → Binding → Bool
is_called name b = is_name name b.name

-- whether the definition has a binding that is called so
abbrev pub is_binding : Definition → List ℕ → Bool
is_binding d name = list_any (λ (b : Bind). is_name name b.name) d.bindings

-- whether the object is one of the ends
abbrev pub is_end : ℕ → Binding → Bool
is_end object b = nat_eq b.source object || nat_eq b.target object

-- the bindings without those that are called so
abbrev pub bindings_without : List ℕ → List Binding → List Binding
bindings_without name bindings = filter (λ b. not (is_called name b)) bindings

-- the bindings without those that have the object as an end
abbrev pub bindings_without_end : ℕ → List Binding → List Binding
bindings_without_end object bindings = filter (λ b. not (is_end object b)) bindings

-- ** while one sets

-- the bindings where the one of the number is busy or is not
abbrev pub with_busy : (number : ℕ) → Bool → List Binding → List Binding
with_busy number busy bindings = map (λ b. cond (nat_eq b.number number) (record b { busy = busy }) b) bindings

-- ** by their numbers

-- the binding of a number, if it has not ended
abbrev pub binding_of : ℕ → List Binding → Option Binding
binding_of number bindings = find (λ b. nat_eq b.number number) bindings
