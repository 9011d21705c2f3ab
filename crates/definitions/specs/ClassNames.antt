-- The names of the signals of classes, with the numbers that they have in them and the programs that classes run for them.
use Rattle.std.specs.Prelude.{◌≡◌, ℕ, cond, nat_eq, List, Option}
use Rattle.ui_machine.specs.Definition.{Definition}
use Rattle.ui_machine.specs.Definition.Names.{canonical, place_named}
use Rattle.ui_machine.specs.Definition.Signals.{ClassHandler, Signal}
use Rattle.ui_machine.specs.Definition.Types.{GType}
use Rattle.ui_machine.specs.Rules.Connections.{signal_number}
use Rattle.name_tables.specs.Names.{Named, number_of}
use Rattle.signal_core.specs.Sources.{signals_of}
use Rattle.signal_core.specs.Table.{class_handler_named}

-- the names of signals are those of a definition, with their numbers
abbrev pub AreSignals : Definition → List Named → Type 0
AreSignals d names = (class : ℕ) (name : List ℕ) → number_of names class (canonical name) ≡ signal_number d class name

-- the number of the signal of a type that is called so, in canonical spelling
abbrev pub signal_called : List GType → List (List Signal) → (class : ℕ) → List ℕ → Option ℕ
signal_called types signals class name = place_named (λ (s : Signal). s.name) (signals_of types signals class) name

-- the programs under the names of signals are those that types run for these
abbrev pub AreHandlerNames : List GType → List (List ClassHandler) → List Named → Type 0
AreHandlerNames types handlers names = (class : ℕ) (name : List ℕ) → number_of names class name ≡ class_handler_named types handlers class name

-- `-` for `_`, and any other byte
abbrev pub dashed : ℕ → ℕ
dashed byte = cond (nat_eq byte 95) 45 byte
