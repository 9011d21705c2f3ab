-- The names of the signals of types, while they are collected.
use Rattle.std.specs.Prelude.{ℕ, Bool, true, ◌≡◌, List}
use Rattle.std.specs.Borrow.{Bor}
use Rattle.std.specs.BTreeSet.{BTreeSet, contains}
use Rattle.std.specs.Ordering.{nat_cmp}
use Rattle.ui_machine.specs.Definition.Signals.{Signal}
use Rattle.signal_core.specs.Owners.{has_signal}
use Rattle.signal_core.specs.Sources.{own_of}
use Rattle.read_types.specs.ImplementDrafts.{has_name}

-- the names of the signals declared for each of the types seen are among these
abbrev pub AreIncluded : List (List Signal) → BTreeSet ℕ → BTreeSet (Bor (List ℕ)) → Type 0
AreIncluded own seen names = (t : ℕ) → contains nat_cmp seen t ≡ true → (name : List ℕ) → has_signal (own_of own t) name ≡ true → has_name names name ≡ true
