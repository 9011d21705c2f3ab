-- Tasks that end.
use Rattle.std.specs.Prelude.{ℕ, true, false, []}
use Rattle.ui_machine.specs.State.Tasks.{Emission, Emitting, Constructing}
use Rattle.law_steps.specs.Tasked.First.{IsFine}

-- an emission ends: the program that waits for its result takes it, an event reports it, or nobody asks
abbrev pub EmissionsEnd : Type 0
EmissionsEnd = (e : Emission) → IsFine (Emitting e [])

-- a construction ends that is not the builder's
abbrev pub ConstructionsEnd : Type 0
ConstructionsEnd = (id : ℕ) → IsFine (Constructing id [] false)

-- and one that is: the builder holds the object from there on
abbrev pub BuilderTakes : Type 0
BuilderTakes = (id : ℕ) → IsFine (Constructing id [] true)
