-- The task that sets a property.
use Rattle.std.specs.Prelude.{ℕ}
use Rattle.ui_machine.specs.Definition.Values.{Value}
use Rattle.ui_machine.specs.State.Tasks.{Setting}
use Rattle.law_steps.specs.Tasked.First.{IsFine}

-- it is taken well: the value is refused, or written; and then it is notified, at once or when the object thaws, or not at all
abbrev pub DueSetsAreFine : Type 0
DueSetsAreFine = (id slot : ℕ) (v : Value) → IsFine (Setting id slot v)
