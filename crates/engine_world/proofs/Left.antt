-- What the engine leaves, as the machine's configuration.
use Rattle.std.proofs.Common.{◌≡◌, ℕ, List, [], ◌∷◌, ◌++◌, Ok, refl, ap, ◌∙◌}
use Rattle.ui_machine.specs.Definition.{Definition}
use Rattle.ui_machine.specs.State.Config as config
use Rattle.ui_machine.specs.State.Config.{World, Left, Started, leaves, starts}
use Rattle.ui_machine.specs.State.Tasks.{Task}
use Rattle.ui_machine.specs.Outcome.{Answer}
use Rattle.ui_machine.specs.Steps.{left, uncounted}
use Rattle.signal_core.specs.Connected.{Connected}
use Rattle.engine_world.specs.View.{world_of}
use Rattle.engine_world.specs.TaskView.{agenda_of}
use Rattle.engine_stack.specs.TaskView.{tasks_of}
use Rattle.engine_world.specs.EngineView.{config_of}
use Rattle.engine_world.specs.declared.engine.Engine.{Engine}
use Rattle.engine_stack.specs.declared.stacks.Frames.{Frames}

-- the same tasks, where the same handlers are connected
pub same_agenda : (d : Definition) (e new : Engine) → new.stack ≡ e.stack → new.world.handlers ≡ e.world.handlers → agenda_of d new ≡ agenda_of d e
same_agenda d e new stack handlers =
    ap (λ (s : Frames). tasks_of d new.world.handlers.handlers s) stack ∙ ap (λ (h : Connected). tasks_of d h.handlers e.stack) handlers

-- a step that leaves these tasks
pub left_by : (world' : World) (agenda' : List Task) (n counted' : ℕ) (rest : List Task) (a : Answer Started) (w : World) (ts left : List Task)
    → a ≡ starts w ts → world' ≡ w → agenda' ≡ left → left ≡ ts ++ rest → counted' ≡ n
    → uncounted rest n a ≡ Ok (record { world = world'; agenda = agenda'; counted = counted' })
left_by world' agenda' n counted' rest a w ts left is world agenda whole count = ap (uncounted rest n) is ∙ rw (world, agenda, whole, count) refl

-- a step that starts nothing and leaves a world
pub left_alone : (d : Definition) (e new : Engine) (a : Answer Started) (w : config.World) → a ≡ starts w [] → world_of new.world ≡ w → new.stack ≡ e.stack → new.counted ≡ e.counted
    → new.world.handlers ≡ e.world.handlers → uncounted (agenda_of d e) e.counted a ≡ Ok (config_of d new)
left_alone d e new a w is world stack counted handlers =
    left_by (world_of new.world) (agenda_of d new) e.counted new.counted (agenda_of d e) a w [] (agenda_of d e) is world (same_agenda d e new stack handlers) refl counted

-- a step that starts one task
pub left_with : (world' : World) (agenda' : List Task) (n counted' : ℕ) (rest : List Task) (a : Answer Started) (w : World) (t : Task)
    → a ≡ starts w (t ∷ []) → world' ≡ w → agenda' ≡ t ∷ rest → counted' ≡ n
    → uncounted rest n a ≡ Ok (record { world = world'; agenda = agenda'; counted = counted' })
left_with world' agenda' n counted' rest a w t is world agenda count = ap (uncounted rest n) is ∙ rw (world, agenda, count) refl

-- a step that leaves a whole agenda
pub left_kept : (n : ℕ) (a : Answer Left) (w : World) (rest : List Task) (world' : World) (agenda' : List Task) (counted' : ℕ)
    → a ≡ leaves w rest → world' ≡ w → agenda' ≡ rest → counted' ≡ n → left n a ≡ Ok (record { world = world'; agenda = agenda'; counted = counted' })
unfolding left
left_kept n a w rest world' agenda' counted' is world agenda count = ap (left n) is ∙ rw (world, agenda, count) refl
