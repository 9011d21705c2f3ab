-- Which types declare a signal of a name, as a table keeps it.
use Rattle.std.specs.BTreeMap.{get_by_text}
use Rattle.std.specs.List.{list_any}
use Rattle.std.specs.Prelude.{Bool, List, None, Option, Some, Vec, [], is_some, nat_eq, true, ℕ, ◌≡◌}
use Rattle.ui_machine.specs.Definition.Names.{place_named}
use Rattle.ui_machine.specs.Definition.Signals.{Signal}
use Rattle.signal_core.specs.Sources.{own_of}
use Rattle.signal_core.specs.declared.owners.Owners.{Owners}

-- whether one of these signals has a canonical name
abbrev pub has_signal : List Signal → List ℕ → Bool
has_signal signals name = is_some (place_named (λ s. s.name) signals name)

abbrev pub items_of : {Y : Type 0} → Option (Vec ℕ Y) → List ℕ
items_of None = []
items_of (Some types) = types.items

-- the types that are listed for a name
abbrev pub listed_for : Owners → List ℕ → List ℕ
listed_for o name = items_of (get_by_text o.types name)

-- whoever is listed stays so
abbrev pub KeepsOwners : Owners → Owners → Type 0
KeepsOwners old new = (name : List ℕ) (t : ℕ) → list_any (nat_eq t) (listed_for old name) ≡ true → list_any (nat_eq t) (listed_for new name) ≡ true

-- each type that declares a signal of a name is listed for it
abbrev pub AreOwners : Owners → List (List Signal) → Type 0
AreOwners o signals = (t : ℕ) (name : List ℕ) → has_signal (own_of signals t) name ≡ true → list_any (nat_eq t) (listed_for o name) ≡ true
