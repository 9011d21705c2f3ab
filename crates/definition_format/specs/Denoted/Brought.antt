-- Which signals the interfaces of a class bring again. That is reported at the entry of `implements`, which comes before the class's own signals:
-- so the names of these are read ahead.
use Rattle.std.specs.Prelude.{ℕ, Bool, List, [], ◌∷◌, ◌++◌, ◌&&◌, not, codes, if◌then◌else◌, Option, None, Some, is_some, option_and_then, Result, Ok}
use Rattle.std.specs.List.{list_any}
use Rattle.std.specs.Str.{bytes_eq}
use Rattle.serde_json.specs.Data.{Data}
use Rattle.serde_json.specs.Find.{get, as_str}
use Rattle.ui_machine.specs.Definition.Signals.{Signal}
use Rattle.signal_core.specs.Sources.{number_named}
use Rattle.definition_format.specs.Refusals.{Refusal}
use Rattle.definition_format.specs.Document.{under, listed_ahead, each, at_entry}
use Rattle.definition_format.specs.Denoted.Overrides.{own_name}

-- ** the names of a class's own signals, read ahead

-- these names with one more, unless it is among them
abbrev pub names_with : List (List ℕ) → Option (List ℕ) → List (List ℕ)
names_with names None = names
names_with names (Some name) = if list_any (bytes_eq name) names then names else names ++ name ∷ []

-- these names with the one of an entry, if it has one
abbrev pub own_signal_at : List ℕ → List (List ℕ) → Data → Result (List (List ℕ)) Refusal
own_signal_at path names d = Ok (names_with names (own_name (option_and_then as_str (get (codes "name") d))))

-- the names of the signals that an entry of a class declares, in canonical spelling
abbrev pub own_signals_ahead : List ℕ → Data → Result (List (List ℕ)) Refusal
own_signals_ahead path d = each (at_entry own_signal_at (under path (codes "signals"))) 0 [] (listed_ahead (codes "signals") d)

-- ** what is there already

-- whether one of some types has a signal of a name, where each type has these
abbrev pub is_brought : (ℕ → List Signal) → List ℕ → List ℕ → Bool
is_brought has ts name = list_any (λ t. is_some (number_named (has t) name)) ts

-- whether one of some types has the signal's name; where the class itself declares the name, that is reported there
abbrev pub is_again : (ℕ → List Signal) → List (List ℕ) → List ℕ → Signal → Bool
is_again has own ts s = not (list_any (bytes_eq s.name) own) && is_brought has ts s.name
