-- The names of bindings.
use Rattle.std.specs.Prelude.{◌≡◌, ℕ, List, Option, String, option_and_then, slice_get}
use Rattle.std.specs.Global.{Global}
use Rattle.std.specs.List.{list_any}
use Rattle.std.specs.BTreeSet.{BTreeSet, contains_text}
use Rattle.ui_machine.specs.Definition.Places.{Bind}
use Rattle.verify_operands.specs.Parts.{is_named}

-- a set of names has those that bindings have
abbrev pub AreBindNames : List Bind → BTreeSet (String Global) → Type 0
AreBindNames bindings names = (name : List ℕ) → contains_text names name ≡ list_any (is_named name) bindings

-- the name of the binding of a number, if it has one
abbrev pub name_at : List Bind → ℕ → Option (List ℕ)
name_at bindings number = option_and_then (λ (b : Bind). b.name) (slice_get bindings number)
