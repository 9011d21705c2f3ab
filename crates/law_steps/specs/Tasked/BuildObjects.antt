-- The build's item that makes an object.
use Rattle.std.specs.Prelude.{ℕ, List, ◌∷◌}
use Rattle.ui_machine.specs.State.Tasks.{Item, makes, Building}
use Rattle.law_steps.specs.Tasked.First.{IsFine}

-- it is taken well: the object's construction is due, with the peer that is its own
abbrev pub ObjectsAreFine : Type 0
ObjectsAreFine = (place : ℕ) (items : List Item) → IsFine (Building (makes place ∷ items))
