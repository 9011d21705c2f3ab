-- The build's item that makes a binding.
use Rattle.std.specs.Prelude.{ℕ, List, ◌∷◌}
use Rattle.ui_machine.specs.State.Tasks.{Item, binds, Building}
use Rattle.law_steps.specs.Tasked.First.{IsFine}

-- it is taken well: the binding is made, and its first transfer is due if it synchronises at once; or it is too late for it
abbrev pub BindingsAreFine : Type 0
BindingsAreFine = (number : ℕ) (items : List Item) → IsFine (Building (binds number ∷ items))
