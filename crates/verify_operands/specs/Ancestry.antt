-- Tables of what is what.
use Rattle.std.specs.Prelude.{◌≡◌, ℕ, Bool, List, Some, slice_get, Vec}
use Rattle.std.specs.Global.{Global}
use Rattle.ui_machine.specs.Definition.Types.{GType}
use Rattle.ui_machine.specs.Rules.Ancestry.{is_a}

-- the row of a type says whether the type is each other
abbrev pub IsRow : List GType → ℕ → List Bool → Type 0
IsRow types t row = (b : ℕ) (answer : Bool) → slice_get row b ≡ Some answer → answer ≡ is_a types t b

-- rows of types, from the first type on
abbrev pub AreRows : List GType → List (Vec Bool Global) → Type 0
AreRows types rows = (t : ℕ) (row : Vec Bool Global) → slice_get rows t ≡ Some row → IsRow types t row.items
