-- From where a class has its properties and signals.
use Rattle.std.specs.List.{find}
use Rattle.std.specs.Option.{unwrap_or}
use Rattle.std.specs.Prelude.{ℕ, Bool, cond, is_some, List, [], ◌∷◌, Option}
use Rattle.ui_machine.specs.Definition.{Definition}
use Rattle.ui_machine.specs.Definition.Lookups.{slot_of, type_of}
use Rattle.ui_machine.specs.Rules.Ancestry.{lineage}
use Rattle.ui_machine.specs.Rules.Connections.{signal_number}

-- the last of a line of classes up to which all have something, or this class where the first has it not
abbrev pub last_with : (ℕ → Bool) → (class : ℕ) → (line : List ℕ) → ℕ
last_with has class [] = class
last_with has class (c ∷ line) = cond (has c) (last_with has c line) class

-- the class, or the ancestor of it, that declares a property
abbrev pub property_owner : Definition → (class : ℕ) → (name : List ℕ) → ℕ
property_owner d class name = last_with (λ c. is_some (slot_of d c name)) class (lineage d.types class)

-- the class, or the ancestor of it, with which a signal came
abbrev pub signal_class : Definition → (class : ℕ) → (name : List ℕ) → ℕ
signal_class d class name = last_with (λ c. is_some (signal_number d c name)) class (lineage d.types class)

-- the first of a type's interfaces that has a signal
abbrev pub interface_with : Definition → (type : ℕ) → (name : List ℕ) → Option ℕ
interface_with d type name = find (λ i. is_some (signal_number d i name)) (type_of d type).interfaces

-- an interface of a class that has a signal, or else the class itself
abbrev pub interface_or_class : Definition → (name : List ℕ) → (class : ℕ) → ℕ
interface_or_class d name class = unwrap_or (interface_with d class name) class

-- the type that declares a signal: the class with which it came, or an interface of that class
abbrev pub signal_owner : Definition → (class : ℕ) → (name : List ℕ) → ℕ
signal_owner d class name = interface_or_class d name (signal_class d class name)
