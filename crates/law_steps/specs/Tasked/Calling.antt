-- The task that waits for a peer's answer.
use Rattle.ui_machine.specs.State.Tasks.{Call, Calling}
use Rattle.law_steps.specs.Tasked.First.{IsFine}

-- the program that called is given the answer, or after a fault, and where the peer is closed, the zero value
abbrev pub DueCallsAreFine : Type 0
DueCallsAreFine = (call : Call) → IsFine (Calling call)
