-- The task that begins an emission.
use Rattle.ui_machine.specs.State.Tasks.{Emission, Beginning}
use Rattle.law_steps.specs.Tasked.First.{IsFine}

-- it takes its turns, which are within what its channel costs, and no deeper
abbrev pub BeginningsAreFine : Type 0
BeginningsAreFine = (e : Emission) → IsFine (Beginning e)
