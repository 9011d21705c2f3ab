-- The names of bindings.
use Rattle.std.specs.Prelude.{◌≡◌, ℕ, List, String}
use Rattle.std.specs.Global.{Global}
use Rattle.std.specs.BTreeSet.{BTreeSet, contains_text}
use Rattle.ui_machine.specs.Definition.Places.{Bind}
use Rattle.definition_format.specs.Denoted.Binds.{has_bound}

-- a set of names has those that bindings have
abbrev pub AreNames : BTreeSet (String Global) → List Bind → Type 0
AreNames names bindings = (name : List ℕ) → contains_text names name ≡ has_bound bindings name
