-- Each class has the properties and signals of what it is: of its ancestors, and of the interfaces that it and they implement. Programs
-- are typed by an operand's class or interface, and run on an object of another class that is one.
use Rattle.std.specs.Prelude.{ℕ, Bool, true, false, ◌&&◌, nat_eq, List, [], ◌∷◌, length, Option, None, Some}
use Rattle.std.specs.List.{list_all}
use Rattle.std.specs.Ordering.{int_eq}
use Rattle.ui_machine.specs.Seq.{listed}
use Rattle.ui_machine.specs.Definition.Names.{same_name}
use Rattle.ui_machine.specs.Definition.Kinds.{Kind}
use Rattle.ui_machine.specs.Rules.Transform.{same_kind, same_bool, same_value}
use Rattle.ui_machine.specs.Rules.Ancestry.{is_a}
use Rattle.ui_machine.specs.Definition.Properties.{Spec}
use Rattle.ui_machine.specs.Definition.{Definition}
use Rattle.ui_machine.specs.Definition.Signals.{Signal, Accumulator, true_handled, first_wins}
use Rattle.ui_machine.specs.Definition.Lookups.{class_of, specs_of, spec_of, slot_of}
use Rattle.ui_machine.specs.Rules.EmissionPlan.{signal_of}
use Rattle.ui_machine.specs.Rules.Connections.{signal_number}

-- ** specs and signals that are the same

abbrev pub same_spec : Spec → Spec → Bool
same_spec s t =
    same_name s.name t.name
    && (same_kind s.kind t.kind
    && (nat_eq s.flags t.flags
    && (same_value s.default t.default && (int_eq s.low t.low && (int_eq s.high t.high && same_bool s.weak t.weak)))))

abbrev pub same_kinds : List Kind → List Kind → Bool
same_kinds [] [] = true
same_kinds [] (l ∷ ls) = false
same_kinds (k ∷ ks) [] = false
same_kinds (k ∷ ks) (l ∷ ls) = same_kind k l && same_kinds ks ls

abbrev pub same_result : Option Kind → Option Kind → Bool
same_result None None = true
same_result (Some k) (Some l) = same_kind k l
same_result _ _ = false

abbrev pub same_accumulator : Option Accumulator → Option Accumulator → Bool
same_accumulator None None = true
same_accumulator (Some true_handled) (Some true_handled) = true
same_accumulator (Some first_wins) (Some first_wins) = true
same_accumulator _ _ = false

abbrev pub same_signal : Signal → Signal → Bool
same_signal s t =
    same_name s.name t.name
    && (same_kinds s.params t.params
    && (same_result s.result t.result && (nat_eq s.flags t.flags && same_accumulator s.accumulator t.accumulator)))

-- ** what a class has of a type

abbrev pub is_spec : Spec → Option Spec → Bool
is_spec s None = false
is_spec s (Some t) = same_spec s t

-- the property of a class by name
abbrev pub spec_named : Definition → ℕ → List ℕ → Option Spec
spec_named d class name = at (slot_of d class name)
  where
    at : Option ℕ → Option Spec
    at None = None
    at (Some slot) = spec_of d class slot

abbrev pub is_signal : Signal → Option Signal → Bool
is_signal s None = false
is_signal s (Some t) = same_signal s t

-- the signal of a class by name
abbrev pub signal_named : Definition → ℕ → List ℕ → Option Signal
signal_named d class name = at (signal_number d class name)
  where
    at : Option ℕ → Option Signal
    at None = None
    at (Some number) = signal_of d class number

-- whether the class has each property and each signal of the type, under its name
abbrev pub has_all_of : Definition → (class type : ℕ) → Bool
has_all_of d class type =
    list_all (λ (s : Spec). is_spec s (spec_named d class s.name)) (specs_of d type)
    && list_all (λ (s : Signal). is_signal s (signal_named d class s.name)) (class_of d type).signals

-- if a test holds, another does
abbrev pub implies : Bool → Bool → Bool
implies true b = b
implies false b = true

-- the numbers of all types
abbrev pub types_of : Definition → List ℕ
types_of d = listed (λ t. t) (length d.types)

-- each class has all of what it is
abbrev pub inherits : Definition → Bool
inherits d = list_all (λ c. list_all (λ t. implies (is_a d.types c t) (has_all_of d c t)) (types_of d)) (types_of d)
