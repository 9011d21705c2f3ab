-- The build's item that sets a forward value.
use Rattle.std.specs.Prelude.{ℕ, List, ◌∷◌}
use Rattle.ui_machine.specs.State.Tasks.{Item, forwards, Building}
use Rattle.law_steps.specs.Tasked.First.{IsFine}

-- it is taken well: the set of the object that is named is due
abbrev pub ForwardsAreFine : Type 0
ForwardsAreFine = (place slot to : ℕ) (items : List Item) → IsFine (Building (forwards place slot to ∷ items))
