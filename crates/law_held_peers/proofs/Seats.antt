-- Agendas of which only the first task may be a call, of the called object's own peer.
use Rattle.std.proofs.Common.{List, [], ◌∷◌}
use Rattle.ui_machine.specs.State.Config.{World}
use Rattle.ui_machine.specs.State.Tasks.{Beginning, Calling, Due, Handling, Notifying, Setting, Task, Transferring}
use Rattle.law_runs.specs.Stacks.{BeginsFirmly, LieBelow}
use Rattle.law_held_peers.proofs.OwnProofs.{Owns}

-- as the tasks of an agenda lie on one another
abbrev pub IsSeated : World → List Task → Type 0
IsSeated w [] = Unit {0}
IsSeated w (Setting id slot v ∷ tasks) = LieBelow tasks
IsSeated w (Notifying id slot ∷ tasks) = LieBelow tasks
IsSeated w (Beginning e ∷ tasks) = LieBelow tasks
IsSeated w (Transferring number back ∷ tasks) = BeginsFirmly tasks × LieBelow tasks
IsSeated w (Calling call ∷ tasks) = Owns call.object call.peer w.objects × LieBelow tasks
IsSeated w (Handling request ∷ tasks) = LieBelow tasks
IsSeated w (Due source ∷ tasks) = BeginsFirmly tasks × LieBelow tasks
IsSeated w tasks = LieBelow tasks

-- tasks that lie below another are so
pub are_seated : (w : World) (tasks : List Task) → LieBelow tasks → IsSeated w tasks
are_seated w (Setting id slot v ∷ tasks) low = absurd low
are_seated w (Notifying id slot ∷ tasks) low = absurd low
are_seated w (Beginning e ∷ tasks) low = absurd low
are_seated w (Transferring number back ∷ tasks) low = absurd low
are_seated w (Calling call ∷ tasks) low = absurd low
are_seated w (Handling request ∷ tasks) low = absurd low
are_seated w (Due source ∷ tasks) low = absurd low
are_seated w tasks low = low
