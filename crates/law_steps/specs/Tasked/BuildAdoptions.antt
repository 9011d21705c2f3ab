-- The build's item that makes an object its parent's child.
use Rattle.std.specs.Prelude.{ℕ, List, ◌∷◌}
use Rattle.ui_machine.specs.State.Tasks.{Item, adopts, Building}
use Rattle.law_steps.specs.Tasked.First.{IsFine}

-- it is taken well: the object is its parent's child, or a line is said of the limit
abbrev pub AdoptionsAreFine : Type 0
AdoptionsAreFine = (place : ℕ) (items : List Item) → IsFine (Building (adopts place ∷ items))
