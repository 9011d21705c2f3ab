-- The interfaces of a definition.
use Rattle.std.specs.Prelude.{ℕ, List, [], ◌∷◌, ◌++◌, codes, Bool, ◌||◌, if◌then◌else◌, Option, None, Some, Result, Ok, Err}
use Rattle.serde_json.specs.Data.{Data, Items}
use Rattle.serde_json.specs.Find.{as_str}
use Rattle.ui_machine.specs.Outcome.{◌>>=◌}
use Rattle.ui_machine.specs.Definition.Types.{GType}
use Rattle.type_tree.specs.Adding.{required_named}
use Rattle.type_tree.specs.Entry.{interface_type}
use Rattle.definition_format.specs.Causes.{unknown_parent}
use Rattle.definition_format.specs.Refusals.{Refusal, shape, unknown, bad_type, or_refused}
use Rattle.definition_format.specs.Document.{under, text_at, entries_at, each, at_entry}
use Rattle.definition_format.specs.Denoted.Entries.{TypeNames}
use Rattle.definition_format.specs.Denoted.Types.{is_declared, room_for_type, new_type_name}
use Rattle.definition_format.specs.Denoted.Drafts.{Draft, type_at}
use Rattle.definition_format.specs.Denoted.Implements.{type_with}

-- A name of a required type, among the types so far. A class of the definition comes later and so do some interfaces: these are known, but
-- not there yet.
abbrev pub required_or : List ℕ → Bool → List ℕ → Option ℕ → Result ℕ Refusal
required_or path known name None = if known then Err (bad_type path unknown_parent) else Err (unknown path name)
required_or path known name (Some t) = Ok t

-- the required types so far, with the one that an entry names, where the entries of all interfaces and of all classes are given
unfoldable pub required_at : List ℕ → Items → Items → List GType → List ℕ → Data → Result (List ℕ) Refusal
required_at path interfaces classes types required d = do
  name ← or_refused (shape path) (as_str d)
  t ← required_or path (is_declared interfaces name || is_declared classes name) name (required_named types name)
  Ok (type_with required (Some t))

unfoldable pub requires_at : List ℕ → Items → Items → List GType → Data → Result (List ℕ) Refusal
requires_at path interfaces classes types d = do
  list ← entries_at path d (codes "requires")
  each (at_entry (λ entry. required_at entry interfaces classes types) (under path (codes "requires"))) 0 [] list

-- the types with the interface that an entry declares, where the interfaces begin with the first
unfoldable pub interface_type_at : List ℕ → ℕ → Items → Items → List GType → Data → Result (List GType) Refusal
interface_type_at path first interfaces classes types d = do
  room ← room_for_type types
  name ← text_at path d (codes "name")
  new ← new_type_name (under path (codes "name")) first types name
  required ← requires_at path interfaces classes types d
  Ok (types ++ interface_type name required ∷ [])

abbrev pub keys_of_interface : List (List ℕ)
keys_of_interface = codes "name" ∷ codes "requires" ∷ codes "properties" ∷ codes "signals" ∷ []

-- the types with an interface, its properties and its signals
abbrev pub interface_at : List ℕ → ℕ → Items → Items → TypeNames → Draft → Data → Result Draft Refusal
interface_at path first interfaces classes names draft d =
    type_at path keys_of_interface (interface_type_at path first interfaces classes draft.types d) Ok names draft d
