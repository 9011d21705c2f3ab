use Rattle.std.proofs.Common.{List, ◌∷◌, length, refl, ap, ◌∙◌, arith}
use Rattle.ui_machine.specs.State.Tasks.{Task}
use Rattle.engine_world.specs.TaskView.{task_in}
use Rattle.engine_world.proofs.Counts.{keeps_on, keeps_same}
use Rattle.engine_world.proofs.Held.{pushes_nothing}
use Rattle.engine_world.proofs.Rooms.{tasks_counted}
use Rattle.engine_dispatches.proofs.dispatches.begin_dispatch.Goals as goal

pub push_task-requires-clause-may : goal.push_task-requires-clause-may
push_task-requires-clause-may c = pushes_nothing _ c.args.task (λ d o. c.requires.plain d c.args.engine.now.world.handlers.handlers o)

pub push_task-requires-clause-room : goal.push_task-requires-clause-room
push_task-requires-clause-room c =
    let e = c.args.engine.now in
    let none = ap (λ (ts : List Task). length ts) c.requires.idle in
    omega (arith, none, tasks_counted c.args.definition.now e.world.handlers.handlers e.stack, c.requires.room)

pub returns-clause-counted : goal.returns-clause-counted
returns-clause-counted c =
    let d = c.args.definition.now in
    keeps_on d _ _ _ (keeps_same d c.args.engine.now _ refl refl refl (λ g. g) refl refl refl refl) (c.push_task.ensures.counted d)

pub returns-clause-ok : goal.returns-clause-ok
returns-clause-ok c =
    let d = c.args.definition.now in
    let first = c.push_task.ensures.agenda d ∙ ap (λ (ts : List Task). task_in d c.args.engine.now c.args.task ∷ ts) c.requires.idle in
    rw (c.push_task.ensures.world, c.push_task.ensures.same, first) refl
