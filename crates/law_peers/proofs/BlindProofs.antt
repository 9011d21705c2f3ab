-- A step that asks, takes and closes no peer does the same whatever the peers are.
use Rattle.std.proofs.Common.{◌≡◌, refl, ap, ◌∙◌, ℕ, false, List, [], ◌∷◌, Option, None, Some}
use Rattle.ui_machine.specs.Definition.{Definition}
use Rattle.ui_machine.specs.State.Config.{Config, World}
use Rattle.ui_machine.specs.State.References.{mentions, next_unheld}
use Rattle.ui_machine.specs.State.Tasks.{Setting, Notifying, Beginning, Emitting, Transferring, Unsetting, Thawing, Running, Answering, Calling, Constructing, Building, Handling, Due, Task}
use Rattle.ui_machine.specs.Steps.{asked_first, asked_after}
use Rattle.law_peers.specs.Blind.{StepIsBlind, TaskIsBlind, InstructionIsBlind, AsksNothing, first_meets_peers, tasks_meet_peers, with_peers_at}
use Rattle.law_peers.proofs.OtherProofs.{acts, instructs_all, steps_first}

pub step_is_blind : StepIsBlind
step_is_blind d reply c peers none = steps_first (λ t. t) (λ t line quiet. refl) peers d reply c (next_unheld (mentions d c) c.world.objects) none

pub task_is_blind : TaskIsBlind
task_is_blind d reply w tasks counted peers none = acts (λ t. t) (λ t line quiet. refl) peers d w reply tasks counted none

pub instruction_is_blind : InstructionIsBlind
instruction_is_blind d w rest f i peers none = instructs_all (λ t. t) (λ t line quiet. refl) peers d w rest f i none

-- only a due call asks
asks_none : (d : Definition) (w v : World) (tasks : List Task) → tasks_meet_peers d w tasks ≡ false → asked_first v tasks ≡ None
asks_none d w v [] none = refl
asks_none d w v (Setting object slot x ∷ rest) none = refl
asks_none d w v (Notifying object slot ∷ rest) none = refl
asks_none d w v (Beginning emission ∷ rest) none = refl
asks_none d w v (Emitting emission turns ∷ rest) none = refl
asks_none d w v (Transferring number back ∷ rest) none = refl
asks_none d w v (Unsetting number ∷ rest) none = refl
asks_none d w v (Thawing object slots ∷ rest) none = refl
asks_none d w v (Running frame ∷ rest) none = refl
asks_none d w v (Answering source ∷ rest) none = refl
asks_none d w v (Calling call ∷ rest) none = absurd (cc)
asks_none d w v (Constructing object steps held ∷ rest) none = refl
asks_none d w v (Building items ∷ rest) none = refl
asks_none d w v (Handling request ∷ rest) none = refl
asks_none d w v (Due source ∷ rest) none = refl

first_asks_none : (d : Definition) (c e : Config) (id : Option ℕ) → e.agenda ≡ c.agenda → first_meets_peers d c id ≡ false → asked_after e id ≡ None
first_asks_none d c e None same none = ap (asked_first e.world) same ∙ asks_none d c.world e.world c.agenda none
first_asks_none d c e (Some id) same none = refl

pub asks_nothing : AsksNothing
asks_nothing d c peers none = (
  first_asks_none d c c (next_unheld (mentions d c) c.world.objects) refl none,
  first_asks_none d c (with_peers_at peers c) (next_unheld (mentions d c) c.world.objects) refl none,
)
