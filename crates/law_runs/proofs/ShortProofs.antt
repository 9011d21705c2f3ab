-- Few tasks lie between frames.
use Rattle.std.proofs.Common.{◌≡◌, refl, ◌+◌, ◌*◌, ◌≤◌, List, [], ◌∷◌, length, arith}
use Rattle.ui_machine.specs.State.Tasks.{Answering, Beginning, Building, Calling, Constructing, Due, Emitting, Handling, Notifying, Running, Setting, Task, Thawing, Transferring, Unsetting}
use Rattle.law_typing.specs.Good.Agenda.{frames, is_frame}
use Rattle.law_runs.specs.Stacks.{BeginsFirmly, LieBelow, StackedAreShort}

-- tasks are no more than twice their frames, and two; and one, where they begin firmly
record Short (tasks : List Task) : Type 0 where
  all : length tasks ≤ 2 * frames tasks + 2
  firm : BeginsFirmly tasks → length tasks ≤ 2 * frames tasks + 1

-- a frame lies on them
framed : (task : Task) (tasks : List Task) → is_frame task ≡ 1 → Short tasks → Short (task ∷ tasks)
framed task tasks one short = let few = short.all in record { all = omega (arith, one, few); firm = λ firm. omega (arith, one, few) }

-- another task lies on those that begin firmly
between : (task : Task) (tasks : List Task) → (BeginsFirmly (task ∷ tasks) → ⊥) → BeginsFirmly tasks → Short tasks → Short (task ∷ tasks)
between task tasks loose firm short = let few = short.firm firm in record { all = omega (arith, few); firm = λ firm. absurd (loose firm) }

-- so short are tasks that lie below another
below_short : (tasks : List Task) → LieBelow tasks → Short tasks
below_short [] low = record { all = omega arith; firm = λ firm. omega arith }
below_short (Running frame ∷ tasks) low = framed (Running frame) tasks refl (below_short tasks low)
below_short (Emitting e turns ∷ tasks) low = framed (Emitting e turns) tasks refl (below_short tasks low)
below_short (Constructing id steps held ∷ tasks) low = framed (Constructing id steps held) tasks refl (below_short tasks low.1)
below_short (Unsetting number ∷ tasks) low = between (Unsetting number) tasks (λ firm. firm) low.0 (below_short tasks low.1)
below_short (Thawing id slots ∷ tasks) low = between (Thawing id slots) tasks (λ firm. firm) low.0 (below_short tasks low.1)
below_short (Answering source ∷ tasks) low = between (Answering source) tasks (λ firm. firm) low.0 (below_short tasks low.1)
below_short (Building items ∷ []) low = record { all = omega arith; firm = λ firm. omega arith }
below_short _ low = absurd low

-- one more lies on them
on_short : (task : Task) (tasks : List Task) → LieBelow tasks → length (task ∷ tasks) ≤ 2 * frames (task ∷ tasks) + 3
on_short task tasks low = let few = (below_short tasks low).all in omega (arith, few)

pub stacked_are_short : StackedAreShort
stacked_are_short [] stacked = omega arith
stacked_are_short (Transferring number back ∷ tasks) stacked = on_short (Transferring number back) tasks stacked.1
stacked_are_short (Due source ∷ tasks) stacked = on_short (Due source) tasks stacked.1
stacked_are_short (Setting id slot v ∷ tasks) stacked = on_short (Setting id slot v) tasks stacked
stacked_are_short (Notifying id slot ∷ tasks) stacked = on_short (Notifying id slot) tasks stacked
stacked_are_short (Beginning e ∷ tasks) stacked = on_short (Beginning e) tasks stacked
stacked_are_short (Calling call ∷ tasks) stacked = on_short (Calling call) tasks stacked
stacked_are_short (Handling request ∷ tasks) stacked = on_short (Handling request) tasks stacked
stacked_are_short tasks stacked = let few = (below_short tasks stacked).all in omega (arith, few)
