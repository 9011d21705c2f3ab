-- The task that is the rest of an emission: its turns, and its end.
use Rattle.std.specs.Prelude.{ℕ, Bool, List, ◌∷◌}
use Rattle.ui_machine.specs.State.Tasks.{PlanEntry, class_handler, handler, Emission, Emitting}
use Rattle.ui_machine.specs.State.Tasks as config
use Rattle.law_steps.specs.Tasked.First.{IsFine}

-- a class handler's turn, which begins its program
abbrev pub ClassHandlersAreFine : Type 0
ClassHandlersAreFine = (e : Emission) (program : ℕ) (cleanup : Bool) (turns : List PlanEntry) →
    IsFine (Emitting e (class_handler program cleanup ∷ turns))

-- a handler's turn, which begins its program, or is passed over where the handler is gone or blocked
abbrev pub HandlersAreFine : Type 0
HandlersAreFine = (e : Emission) (number : ℕ) (turns : List PlanEntry) → IsFine (Emitting e (handler number ∷ turns))

-- the turn of a transfer, which is due then, or is passed over where the binding has ended or sets
abbrev pub TransfersAreFine : Type 0
TransfersAreFine = (e : Emission) (number : ℕ) (back : Bool) (turns : List PlanEntry) → IsFine (Emitting e (config.transfer number back ∷ turns))
