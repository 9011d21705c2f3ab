-- How often each identity is among the children of an object.
use Rattle.std.specs.Prelude.{◌≡◌, ℕ, ⊤, List, Option, Some, None}
use Rattle.ui_machine.specs.Seq.{total}
use Rattle.ui_machine.specs.State.References.{same}
use Rattle.instance_tables.specs.declared.children.Occurrence.{Occurrence}
use Rattle.instance_tables.specs.declared.children.Occurrence.TheVariants.{Once, Repeated}

-- an occurrence of a single child
abbrev pub IsOnce : Occurrence → Type 0
IsOnce (Once stamp) = ⊤
IsOnce Repeated = ⊥

-- it is as often a child as its occurrence says: never without one, and maybe any number of times where it was added again
abbrev pub IsSoOften : Option Occurrence → ℕ → Type 0
IsSoOften None count = count ≡ 0
IsSoOften (Some (Once stamp)) count = count ≡ 1
IsSoOften (Some Repeated) count = ⊤

-- each identity is so often among the children
abbrev pub AreCounted : (ℕ → Option Occurrence) → List ℕ → Type 0
AreCounted occurrences children = (child : ℕ) → IsSoOften (occurrences child) (total (same child) children)
