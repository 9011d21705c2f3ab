-- The tasks that start a program which no emission runs, and the one that waits for it; and the sets and the thaw of a construction.
use Rattle.std.specs.Prelude.{ℕ, Bool, List, ◌∷◌}
use Rattle.ui_machine.specs.Definition.{Definition}
use Rattle.ui_machine.specs.Definition.Values.{Value}
use Rattle.ui_machine.specs.State.Config.{World}
use Rattle.ui_machine.specs.State.Tasks.{ConstructStep, Task, sets, runs, thaws, Answering, Constructing, Due}
use Rattle.law_typing.specs.Laws.StepsKeepGood.{IsGood}
use Rattle.law_typing.specs.Verdict.Accepted.{Accepted}
use Rattle.law_steps.specs.Tasked.First.{IsFine, at_first}

-- a due source starts its program
abbrev pub SourcesAreFine : Type 0
SourcesAreFine = (source : ℕ) → IsFine (Due source)

-- a construction starts a `constructed` program
abbrev pub RunsAreFine : Type 0
RunsAreFine = (id program : ℕ) (todo : List ConstructStep) (held : Bool) → IsFine (Constructing id (runs program ∷ todo) held)

-- a construction sets a property, which is due at once
abbrev pub ConstructionsSet : Type 0
ConstructionsSet = (id slot : ℕ) (v : Value) (todo : List ConstructStep) (held : Bool) → IsFine (Constructing id (sets slot v ∷ todo) held)

-- a construction thaws its object: what waited is due
abbrev pub ConstructionsThaw : Type 0
ConstructionsThaw = (id : ℕ) (todo : List ConstructStep) (held : Bool) → IsFine (Constructing id (thaws ∷ todo) held)

-- a source that waits for its program is never the first task
abbrev pub AnsweringsWait : Type 0
AnsweringsWait = (d : Definition) (a : Accepted d) (most_counted : ℕ) (w : World) (rest : List Task) (n source : ℕ) →
    IsGood d a most_counted (at_first w (Answering source) rest n) → ⊥
