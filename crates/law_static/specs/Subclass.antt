-- What a class has of the types that it is: under each name their properties and signals, with the same specs, parameters and results.
use Rattle.std.specs.Prelude.{◌≡◌, ℕ, ◌<◌, true, List, length, Some}
use Rattle.ui_machine.specs.Definition.{Definition}
use Rattle.ui_machine.specs.Definition.Names.{canonical}
use Rattle.ui_machine.specs.Definition.Properties.{Spec}
use Rattle.ui_machine.specs.Definition.Signals.{Signal}
use Rattle.ui_machine.specs.Definition.Lookups.{spec_of, slot_of}
use Rattle.ui_machine.specs.Rules.Ancestry.{is_a}
use Rattle.ui_machine.specs.Rules.EmissionPlan.{signal_of}
use Rattle.ui_machine.specs.Rules.Connections.{signal_number}
use Rattle.law_typing.specs.Laws.WellRead.{TypesRead}

-- a property of a type is one of each class that is of the type, under the same name
abbrev pub SpecsInherit : Type 0
SpecsInherit =
    (d : Definition) → TypesRead d → (class type slot : ℕ) (name : List ℕ) (s : Spec) → class < length d.types →
    is_a d.types class type ≡ true → slot_of d type name ≡ Some slot → spec_of d type slot ≡ Some s →
    (own : ℕ) × (slot_of d class name ≡ Some own) × (spec_of d class own ≡ Some s)

-- a signal of a type is one of each class that is of the type, under the same name
abbrev pub SignalsInherit : Type 0
SignalsInherit =
    (d : Definition) → TypesRead d → (class type number : ℕ) (name : List ℕ) (s : Signal) → class < length d.types →
    is_a d.types class type ≡ true → signal_number d type name ≡ Some number → signal_of d type number ≡ Some s →
    (own : ℕ) × (signal_number d class name ≡ Some own) × (signal_of d class own ≡ Some s)

-- what a name finds, there is
abbrev pub NamesFind : Type 0
NamesFind =
    (d : Definition) (class : ℕ) (name : List ℕ) →
    ((slot : ℕ) → slot_of d class name ≡ Some slot → (s : Spec) × (spec_of d class slot ≡ Some s))
    × ((number : ℕ) → signal_number d class name ≡ Some number → (s : Signal) × (signal_of d class number ≡ Some s))

-- what is no `notify` in a type is none in a class
abbrev pub EmittedInherit : Type 0
EmittedInherit =
    (d : Definition) → TypesRead d → (class type number own : ℕ) (name : List ℕ) → signal_number d type name ≡ Some number →
    signal_number d class name ≡ Some own → 0 < number → 0 < own

-- a property's own name finds it, since no other of its class has that name
abbrev pub OwnNameFinds : Type 0
OwnNameFinds =
    (d : Definition) → TypesRead d → (class slot : ℕ) (name : List ℕ) (s : Spec) → spec_of d class slot ≡ Some s → s.name ≡ canonical name →
    slot_of d class name ≡ Some slot
