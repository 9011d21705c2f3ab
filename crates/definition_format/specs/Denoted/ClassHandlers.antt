-- The programs that classes name for signals (GObject manual, signals: g_signal_override_class_handler).
use Rattle.std.specs.Prelude.{ℕ, List, [], ◌∷◌, ◌++◌, codes, nat_eq, if◌then◌else◌, Option, None, Some, option_and_then, Result, Ok}
use Rattle.serde_json.specs.Data.{Data, Items, no_items, item}
use Rattle.serde_json.specs.Find.{as_str, as_array}
use Rattle.ui_machine.specs.Outcome.{◌>>=◌}
use Rattle.ui_machine.specs.Definition.Names.{canonical}
use Rattle.ui_machine.specs.Definition.Signals.{ClassHandler}
use Rattle.signal_core.specs.Table.{is_handled}
use Rattle.definition_format.specs.Refusals.{Refusal, shape, unknown, or_refused}
use Rattle.definition_format.specs.Document.{under, nth, entries_at, each, at_entry}
use Rattle.definition_format.specs.Denoted.Entries.{ProgramNames, program_named}
use Rattle.definition_format.specs.Denoted.Enums.{name_at, unless_there}

-- a signal and a program
abbrev pub two_in : Items → Option (Data × Data)
two_in no_items = None
two_in (item a no_items) = None
two_in (item a (item b no_items)) = Some (a, b)
two_in (item a (item b (item more ds))) = None

abbrev pub pair_at : List ℕ → Data → Result (Data × Data) Refusal
pair_at path d = or_refused (shape path) (option_and_then two_in (as_array d))

-- the number of the program that a text names
unfoldable pub program_at : List ℕ → ProgramNames → Data → Result ℕ Refusal
program_at path programs d = do
  name ← name_at path d
  or_refused (unknown path name) (program_named programs name)

abbrev pub handler_for : List ℕ → ℕ → ClassHandler
handler_for signal program = record { signal = canonical signal; program = program }

-- The class handler of an entry, beside those that the class has. Whether the class has the signal is not looked at.
unfoldable pub class_handler_in : List ℕ → ProgramNames → List ClassHandler → Data → Result ClassHandler Refusal
class_handler_in path programs has d = do
  parts ← pair_at path d
  signal ← or_refused (shape (nth path 0)) (as_str parts.0)
  new ← unless_there (nth path 0) (is_handled has signal)
  program ← program_at (nth path 1) programs parts.1
  Ok (handler_for signal program)

-- each type's own class handlers, with one more
abbrev pub add_handler : (ℕ → List ClassHandler) → ℕ → ClassHandler → ℕ → List ClassHandler
add_handler own t handler u = if nat_eq u t then own u ++ handler ∷ [] else own u

-- each type's own class handlers, with the one that an entry gives to a type
unfoldable pub class_handler_at : List ℕ → ProgramNames → ℕ → (ℕ → List ClassHandler) → Data → Result (ℕ → List ClassHandler) Refusal
class_handler_at path programs t own d = do
  handler ← class_handler_in path programs (own t) d
  Ok (add_handler own t handler)

-- and with all of an entry
unfoldable pub class_handlers_at : List ℕ → ProgramNames → ℕ → (ℕ → List ClassHandler) → Data → Result (ℕ → List ClassHandler) Refusal
class_handlers_at path programs t own d = do
  list ← entries_at path d (codes "class-handlers")
  each (at_entry (λ entry. class_handler_at entry programs t) (under path (codes "class-handlers"))) 0 own list
