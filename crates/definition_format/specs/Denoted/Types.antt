-- What all types of a definition have: a name, and their place among the 256.
use Rattle.std.specs.Prelude.{ℕ, List, codes, Bool, false, ◌||◌, nat_le, if◌then◌else◌, Option, None, Some, Result, Err}
use Rattle.serde_json.specs.Data.{Items, no_items, item}
use Rattle.ui_machine.specs.Definition.Types.{GType}
use Rattle.type_tree.specs.Adding.{find_type, name_fault, room_fault}
use Rattle.definition_format.specs.declared.faults.DefinitionLimit.TheVariants.{Types}
use Rattle.definition_format.specs.Causes.{named_cause}
use Rattle.definition_format.specs.Refusals.{Refusal, duplicate, bad_type, limit, refused_if}
use Rattle.definition_format.specs.Denoted.Entries.{is_called, name_under}

-- ** names of types that entries declare

-- whether one of these entries, each taken by itself, has the name
abbrev pub is_declared : Items → List ℕ → Bool
is_declared no_items name = false
is_declared (item d ds) name = is_called (name_under (codes "name") d) name || is_declared ds name

-- ** a further type

-- whether a type is of a section, of which this is the first
abbrev pub is_from : ℕ → Option ℕ → Bool
is_from first None = false
is_from first (Some t) = nat_le first t

abbrev pub room_for_type : List GType → Result (Unit {0}) Refusal
room_for_type types = refused_if (λ fault. limit Types) (room_fault types)

-- a name that no type has yet: one of the same section is reported as such
abbrev pub new_type_name : List ℕ → ℕ → List GType → List ℕ → Result (Unit {0}) Refusal
new_type_name path first types name =
    if is_from first (find_type types name) then Err (duplicate path) else refused_if (λ fault. bad_type path (named_cause types fault)) (name_fault types name)
