-- The task that carries out a request.
use Rattle.ui_machine.specs.State.Tasks.{Request, Handling}
use Rattle.law_steps.specs.Tasked.First.{IsFine}

-- a `set` is due, with what was given; a `get` reports the value; an `emit` is due with its arguments; a `release` lets the builder go of
-- the object
abbrev pub RequestsAreFine : Type 0
RequestsAreFine = (request : Request) → IsFine (Handling request)
