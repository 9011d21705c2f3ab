-- A class's own properties and signals, read ahead, by their names.
use Rattle.std.specs.Prelude.{ℕ, Bool, true, List, codes, if◌then◌else◌, is_some, Option, None, Some, option_and_then, Result, Ok}
use Rattle.std.specs.List.{list_any}
use Rattle.std.specs.Str.{bytes_eq}
use Rattle.serde_json.specs.Data.{Data}
use Rattle.serde_json.specs.Find.{get, as_str}
use Rattle.ui_machine.specs.Definition.Types.{GType}
use Rattle.ui_machine.specs.Definition.Properties.{Spec}
use Rattle.definition_format.specs.Refusals.{Refusal}
use Rattle.definition_format.specs.Denoted.Entries.{TypeNames}
use Rattle.definition_format.specs.Denoted.Overrides.{own_name, if_read}
use Rattle.definition_format.specs.Denoted.Properties.{inherited_by, specs_by, spec_at}

-- ** properties

-- by each name what is read of it ahead: a property, or that its entry is at fault
abbrev pub Owned : Type 0
Owned = List ℕ → Option (Option Spec)

-- the same with one more; of two with one name the first counts
abbrev pub owned_with : Owned → Option (List ℕ) → Option Spec → Owned
owned_with own None spec = own
owned_with own (Some name) spec = if is_some (own name) then own else (λ q. if bytes_eq name q then Some spec else own q)

-- the same with the property of an entry
abbrev pub owned_at : List ℕ → List GType → TypeNames → (ℕ → List Spec) → ℕ → Owned → Data → Result Owned Refusal
owned_at path types names table parent own d =
    Ok (owned_with own (own_name (option_and_then as_str (get (codes "name") d)))
    (if_read (spec_at path types names (inherited_by types table parent) (specs_by types table parent) d)))

-- ** signals

-- whether a name is among these
abbrev pub are_named : List (List ℕ) → List ℕ → Bool
are_named names name = list_any (bytes_eq name) names

-- names with one more
abbrev pub named_with : (List ℕ → Bool) → Option (List ℕ) → List ℕ → Bool
named_with has None = has
named_with has (Some name) = λ q. if bytes_eq name q then true else has q

-- the names with the one of an entry, if it has one
abbrev pub named_at : List ℕ → (List ℕ → Bool) → Data → Result (List ℕ → Bool) Refusal
named_at path has d = Ok (named_with has (own_name (option_and_then as_str (get (codes "name") d))))
