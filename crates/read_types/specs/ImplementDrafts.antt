-- The interfaces of a class while they are read, with the names of the signals that its parent has or that they bring.
use Rattle.std.specs.Prelude.{ℕ, Bool, ◌&&◌, ◌||◌, not, nat_eq, List, [], ◌∷◌, ◌++◌, if◌then◌else◌, is_some, Result, Ok, Err}
use Rattle.std.specs.Borrow.{Bor}
use Rattle.std.specs.BTreeSet.{BTreeSet, contains_by}
use Rattle.std.specs.Cmp.Lexicographic.{slice_cmp}
use Rattle.std.specs.List.{list_any}
use Rattle.std.specs.Ordering.{nat_cmp}
use Rattle.std.specs.Str.{bytes_eq}
use Rattle.serde_json.specs.Data.{Data}
use Rattle.ui_machine.specs.Outcome.{◌>>=◌}
use Rattle.ui_machine.specs.Definition.Names.{canonical, place_named}
use Rattle.ui_machine.specs.Definition.Signals.{Signal}
use Rattle.ui_machine.specs.Rules.Ancestry.{is_a}
use Rattle.definition_format.specs.Refusals.{Refusal, duplicate}
use Rattle.definition_format.specs.Denoted.Signals.{signals_by}
use Rattle.definition_format.specs.Denoted.Implements.{Heir, check_prerequisites, check_overrides, interface_at_entry}
use Rattle.read_types.specs.declared.implement_drafts.ImplementDraft.{ImplementDraft}

pub record ImplementParts : Type 0 where
  pub types : List ℕ
  pub has : List ℕ → Bool  -- whether the parent or one of them has a signal of a canonical name

-- interfaces of a class with this parent, with the names of the signals that it has or that they bring, where each type has these
abbrev pub parts_of : (ℕ → List Signal) → ℕ → List ℕ → ImplementParts
parts_of signals parent ts = record { types = ts; has = λ name. list_any (λ t. is_some (place_named (λ s. s.name) (signals t) name)) (parent ∷ ts) }

-- one interface more
abbrev pub with_interface : (ℕ → List Signal) → ℕ → ImplementParts → ImplementParts
with_interface signals i p = record { types = p.types ++ i ∷ []; has = λ name. p.has name || is_some (place_named (λ s. s.name) (signals i) name) }

-- whether the signal's name is there already; a name that the class declares itself is looked at where it declares it
abbrev pub is_again_in : List (List ℕ) → (List ℕ → Bool) → Signal → Bool
is_again_in own has s = not (list_any (bytes_eq s.name) own) && has (canonical s.name)

-- whether an interface brings such a signal
abbrev pub brings_again_in : Heir → ℕ → (List ℕ → Bool) → Bool
brings_again_in heir i has = list_any (is_again_in heir.own_signals has) (heir.signals i)

-- an interface brings no signal again; one that an ancestor implements brings nothing
abbrev pub check_brought_in : List ℕ → Heir → ℕ → (List ℕ → Bool) → Result (Unit {0}) Refusal
check_brought_in path heir i has =
    if is_a heir.types heir.parent i then Ok tt else (if brings_again_in heir i has then Err (duplicate path) else Ok tt)

-- the interfaces so far, with a further one
unfoldable pub newly_implemented_in : List ℕ → Heir → ℕ → ImplementParts → Result ImplementParts Refusal
newly_implemented_in path heir i p = do
  new ← check_brought_in path heir i p.has
  required ← check_prerequisites path heir i
  overridden ← check_overrides path heir i
  Ok (with_interface (signals_by heir.types heir.signals) i p)

-- an interface that is named twice is implemented once
abbrev pub implemented_once_in : List ℕ → Heir → ℕ → ImplementParts → Result ImplementParts Refusal
implemented_once_in path heir i p = if list_any (nat_eq i) p.types then Ok p else newly_implemented_in path heir i p

-- the interfaces so far, with the one that an entry names
unfoldable pub implement_part_at : List ℕ → Heir → ImplementParts → Data → Result ImplementParts Refusal
implement_part_at path heir p d = do
  i ← interface_at_entry path heir.types d
  implemented_once_in path heir i p

-- ** what the code keeps

-- whether a name is among these
abbrev pub has_name : BTreeSet (Bor (List ℕ)) → List ℕ → Bool
has_name names name = contains_by (λ k. slice_cmp nat_cmp name k.now) names

abbrev pub parts_seen : ImplementDraft → ImplementParts
parts_seen d = record { types = d.types.items; has = λ name. has_name d.names name }
