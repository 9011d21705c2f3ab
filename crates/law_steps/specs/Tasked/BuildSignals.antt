-- The build's item that connects a signal of the definition.
use Rattle.std.specs.Prelude.{ℕ, List, ◌∷◌}
use Rattle.ui_machine.specs.State.Tasks.{Item, connects, Building}
use Rattle.law_steps.specs.Tasked.First.{IsFine}

-- it is taken well: the handler is connected, or it is too late for it
abbrev pub SignalsAreFine : Type 0
SignalsAreFine = (place number : ℕ) (items : List Item) → IsFine (Building (connects place number ∷ items))
