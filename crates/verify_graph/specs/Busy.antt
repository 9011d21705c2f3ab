-- Busy signals, as code marks them in lists by number.
use Rattle.std.specs.Prelude.{◌≡◌, ◌||◌, ℕ, Bool, false, List, Some, slice_get, Vec}
use Rattle.std.specs.Global.{Global}
use Rattle.ui_machine.specs.Seq.{read}
use Rattle.ui_machine.specs.Definition.{Definition}
use Rattle.law_idle.specs.Idle.{is_named, is_used}

-- those that some names name in a class are marked beside others
abbrev pub Marks : Definition → (class : ℕ) → List (List ℕ) → (old new : List Bool) → Type 0
Marks d class names old new = (n : ℕ) → read false new n ≡ (read false old n || is_named d names class n)

-- the marks are those of a class
abbrev pub AreUsed : Definition → (class : ℕ) → List Bool → Type 0
AreUsed d class marks = (n : ℕ) → read false marks n ≡ is_used d class n

-- and those of the first types
abbrev pub AreUsedOfTypes : Definition → List (Vec Bool Global) → Type 0
AreUsedOfTypes d lists = (class : ℕ) (v : Vec Bool Global) → slice_get lists class ≡ Some v → AreUsed d class v.items
