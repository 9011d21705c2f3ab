-- The interfaces that a class implements.
use Rattle.std.specs.Prelude.{ℕ, Bool, nat_eq, List, [], ◌∷◌, ◌++◌, codes, if◌then◌else◌, Option, None, Some, option_and_then, Result, Ok, Err}
use Rattle.std.specs.List.{list_any}
use Rattle.serde_json.specs.Data.{Data, Items, no_items, item}
use Rattle.serde_json.specs.Find.{as_str}
use Rattle.ui_machine.specs.Outcome.{◌>>=◌}
use Rattle.ui_machine.specs.Seq.{read}
use Rattle.ui_machine.specs.Definition.Types.{GType}
use Rattle.ui_machine.specs.Definition.Properties.{Spec}
use Rattle.ui_machine.specs.Definition.Signals.{Signal}
use Rattle.ui_machine.specs.Rules.Ancestry.{is_a}
use Rattle.ui_machine.specs.Output.Text.{no_type}
use Rattle.type_tree.specs.Adding.{interface_named, missing_of}
use Rattle.definition_format.specs.Causes.{prerequisite}
use Rattle.definition_format.specs.Refusals.{Refusal, shape, unknown, duplicate, bad_type, bad_spec, or_refused, refused_if}
use Rattle.definition_format.specs.Document.{under, entries_at, each, at_entry}
use Rattle.definition_format.specs.Denoted.Entries.{TypeNames}
use Rattle.definition_format.specs.Denoted.Properties.{specs_by}
use Rattle.definition_format.specs.Denoted.Signals.{signals_by}
use Rattle.definition_format.specs.Denoted.Drafts.{Draft}
use Rattle.definition_format.specs.Denoted.Brought.{own_signals_ahead, is_again}
use Rattle.definition_format.specs.Denoted.Overrides.{Own, own_ahead, override_cause}

-- these types with one more, unless it is among them
abbrev pub type_with : List ℕ → Option ℕ → List ℕ
type_with ts None = ts
type_with ts (Some t) = if list_any (nat_eq t) ts then ts else ts ++ t ∷ []

-- What is known of a class while its interfaces are looked at: the types before it with each one's own properties and signals, its parent, the
-- interfaces that it names, its own properties, and the names of its own signals.
pub record Heir : Type 0 where
  pub types : List GType
  pub table : ℕ → List Spec
  pub signals : ℕ → List Signal
  pub parent : ℕ
  pub named : List ℕ
  pub own : List Own
  pub own_signals : List (List ℕ)

-- whether an interface brings a signal of a name that the parent or an interface before it brought
abbrev pub brings_again : Heir → ℕ → List ℕ → Bool
brings_again heir i implemented =
    list_any (is_again (signals_by heir.types heir.signals) heir.own_signals (heir.parent ∷ implemented)) (heir.signals i)

-- an interface brings no signal again; one that an ancestor implements brings nothing
abbrev pub check_brought : List ℕ → Heir → ℕ → List ℕ → Result (Unit {0}) Refusal
check_brought path heir i implemented =
    if is_a heir.types heir.parent i then Ok tt else (if brings_again heir i implemented then Err (duplicate path) else Ok tt)

-- the class is all that the interface requires, by its ancestors or by any of the interfaces that it names
abbrev pub check_prerequisites : List ℕ → Heir → ℕ → Result (Unit {0}) Refusal
check_prerequisites path heir i =
    refused_if (λ t. bad_type path (prerequisite (read no_type heir.types t).name)) (missing_of heir.types heir.parent heir.named i)

-- the class has the interface's properties
abbrev pub check_overrides : List ℕ → Heir → ℕ → Result (Unit {0}) Refusal
check_overrides path heir i = refused_if (bad_spec path) (override_cause (specs_by heir.types heir.table heir.parent) heir.own (heir.table i))

-- the interfaces so far, with a further one
unfoldable pub newly_implemented : List ℕ → Heir → ℕ → List ℕ → Result (List ℕ) Refusal
newly_implemented path heir i implemented = do
  new ← check_brought path heir i implemented
  required ← check_prerequisites path heir i
  overridden ← check_overrides path heir i
  Ok (implemented ++ i ∷ [])

-- an interface that is named twice is implemented once
abbrev pub implemented_once : List ℕ → Heir → ℕ → List ℕ → Result (List ℕ) Refusal
implemented_once path heir i implemented = if list_any (nat_eq i) implemented then Ok implemented else newly_implemented path heir i implemented

-- the interface that an entry names
unfoldable pub interface_at_entry : List ℕ → List GType → Data → Result ℕ Refusal
interface_at_entry path types d = do
  name ← or_refused (shape path) (as_str d)
  or_refused (unknown path name) (interface_named types name)

-- the interfaces so far, with the one that an entry names
unfoldable pub implemented_at : List ℕ → Heir → List ℕ → Data → Result (List ℕ) Refusal
implemented_at path heir implemented d = do
  i ← interface_at_entry path heir.types d
  implemented_once path heir i implemented

-- the interfaces that entries name, read ahead: those that an interface requires may come in any order
abbrev pub named_at : List ℕ → List GType → List ℕ → Data → Result (List ℕ) Refusal
named_at path types named d = Ok (type_with named (option_and_then (interface_named types) (as_str d)))

-- what is known beside a draft, with all that is read ahead
abbrev pub heir_with : Draft → ℕ → List ℕ → List Own → List (List ℕ) → Heir
heir_with draft parent named own signals =
    record { types = draft.types; table = draft.own; signals = draft.signals; parent = parent; named = named; own = own; own_signals = signals }

-- what is known of a class of this parent beside a draft, where it names these interfaces
unfoldable pub heir_at : List ℕ → TypeNames → Draft → ℕ → Data → List ℕ → Result Heir Refusal
heir_at path names draft parent d named = do
  own ← own_ahead path draft.types names draft.own parent d
  signals ← own_signals_ahead path d
  Ok (heir_with draft parent named own signals)

-- the interfaces that a class of this parent implements
unfoldable pub implements_listed : List ℕ → TypeNames → Draft → ℕ → Data → Items → Result (List ℕ) Refusal
implements_listed path names draft parent d list = do
  named ← each (at_entry (λ entry. named_at entry draft.types) (under path (codes "implements"))) 0 [] list
  heir ← heir_at path names draft parent d named
  each (at_entry (λ entry. implemented_at entry heir) (under path (codes "implements"))) 0 [] list

-- nothing is read ahead where there are none
abbrev pub implements_of : List ℕ → TypeNames → Draft → ℕ → Data → Items → Result (List ℕ) Refusal
implements_of path names draft parent d no_items = Ok []
implements_of path names draft parent d (item x xs) = implements_listed path names draft parent d (item x xs)

unfoldable pub implements_at : List ℕ → TypeNames → Draft → ℕ → Data → Result (List ℕ) Refusal
implements_at path names draft parent d = do
  list ← entries_at path d (codes "implements")
  implements_of path names draft parent d list
