use Rattle.std.proofs.Common.{◌≡◌, List, [], ◌∷◌, option_map, refl, sym, subst, ap, ◌∙◌}
use Rattle.ui_machine.specs.Rules.Accumulation.{given_down}
use Rattle.ui_machine.specs.State.Tasks.{Task}
use Rattle.g_values.specs.View.{value_view}
use Rattle.engine_world.specs.Able.{Able}
use Rattle.engine_stack.specs.TaskFrames.{emission_in, program_in}
use Rattle.engine_world.specs.TaskView.{agenda_of}
use Rattle.engine_stack.specs.TaskView.{task_of, tasks_of}
use Rattle.engine_world.specs.View.{world_of}
use Rattle.engine_stack.specs.declared.task.Task as code
use Rattle.engine_stack.specs.declared.task.Task.TheVariants as tasks
use Rattle.engine_instructions.proofs.Collecting.{TakesNone, gives_last, gives_nothing, gives_other, gives_source, popped_behind, popped_source, source_able}
use Rattle.engine_world.proofs.Left.{same_agenda}
use Rattle.engine_instructions.proofs.accumulation.give_other.Goals as goal

pub returns-in_default-clause-step : goal.returns-in_default-clause-step
returns-in_default-clause-step c =
    let d = c.args.definition.now in
    let e = c.args.engine.now in
    let given = option_map value_view c.args.given in
    let none = c.in_default.ensures.tasks d e.world.handlers.handlers in
    gives_nothing d (world_of e.world) given (agenda_of d e) (agenda_of d e) [] none none (gives_last d (world_of e.world) given) c.requires.able

pub returns-in_default-task-clause-step : goal.returns-in_default-task-clause-step
returns-in_default-task-clause-step c =
    let d = c.args.definition.now in
    let e = c.args.engine.now in
    let hs = e.world.handlers.handlers in
    let t = c.in-Some.task.now in
    let first = c.in-Some.ensures.tasks d hs in
    let given = option_map value_view c.args.given in
    gives_nothing d (world_of e.world) given (agenda_of d e) (agenda_of d e) (task_of d hs t ∷ first.0) first.1 first.1 (gives_other d hs (world_of e.world) first.0 t given (other t refl)) c.requires.able
  where
    other : (t : code.Task) → c.in-Some.task.now ≡ t → TakesNone t
    other (tasks.Emitting emission) is =
        let none = sym (ap (λ (t : code.Task). emission_in t) is) ∙ c.in-Some.ensures.emission ∙ c.requires.none in
        absurd (cc none)
    other (tasks.Setting id slot v) is = tt
    other (tasks.Notifying id slot) is = tt
    other (tasks.Beginning e) is = tt
    other (tasks.Running frame) is = tt
    other (tasks.Thawing id slots) is = tt
    other (tasks.Constructing construction) is = tt
    other (tasks.Building place forwards) is = tt
    other (tasks.Adopting place forwards) is = tt
    other (tasks.Transferring number back) is = tt
    other (tasks.Unsetting number) is = tt
    other (tasks.Binding number) is = tt
    other (tasks.Connecting place number) is = tt
    other (tasks.Answering source) is = absurd (c.in_default-task.not-Answering source is)
    other (tasks.Calling call) is = tt
    other (tasks.Due source) is = tt
    other (tasks.Handling event) is = tt

pub pop_task-requires : goal.pop_task-requires
pop_task-requires c = record {
  program = sym (c.in-Some.ensures.program) ∙ ap (λ (t : code.Task). program_in t) c.in-Answering.is;
  emission = c.requires.none;
}

pub answer-requires-clause-able : goal.answer-requires-clause-able
answer-requires-clause-able c =
    let d = c.args.definition.now in
    let e = c.args.engine.now in
    let hs = e.world.handlers.handlers in
    let rest = tasks_of d hs c.pop_task.new.self in
    let given = option_map value_view c.args.given in
    let before = c.in-Some.ensures.tasks d hs in
    let first = popped_behind d hs c.pop_task.result (agenda_of d e) rest _ before.0 (before.1 ∙ ap (λ (t : code.Task). task_of d hs t ∷ before.0) c.in-Answering.is) (c.pop_task.ensures.tasks d hs) in
    source_able d (world_of e.world) c.in-Answering.source rest given (subst (λ (ts : List Task). Able (given_down d (world_of e.world) ts given)) first c.requires.able)

pub returns-clause-step : goal.returns-clause-step
returns-clause-step c =
    let d = c.args.definition.now in
    let e = c.args.engine.now in
    let hs = e.world.handlers.handlers in
    let rest = tasks_of d hs c.pop_task.new.self in
    let given = option_map value_view c.args.given in
    let before = c.in-Some.ensures.tasks d hs in
    let first = popped_behind d hs c.pop_task.result (agenda_of d e) rest _ before.0 (before.1 ∙ ap (λ (t : code.Task). task_of d hs t ∷ before.0) c.in-Answering.is) (c.pop_task.ensures.tasks d hs) in
    let back = same_agenda d (record e { stack = c.pop_task.new.self }) c.answer.new.engine c.answer.ensures.same.0 c.answer.ensures.handlers in
    ap (λ (ts : List Task). given_down d (world_of e.world) ts given) first
    ∙ gives_source d (world_of e.world) c.in-Answering.source rest given (world_of c.answer.new.engine.world) (agenda_of d c.answer.new.engine) back c.answer.ensures.kept

pub returns-clause-counted : goal.returns-clause-counted
returns-clause-counted c =
    let d = c.args.definition.now in
    let e = c.args.engine.now in
    let hs = e.world.handlers.handlers in
    let rest = tasks_of d hs c.pop_task.new.self in
    let before = c.in-Some.ensures.tasks d hs in
    let first = popped_behind d hs c.pop_task.result (agenda_of d e) rest _ before.0 (before.1 ∙ ap (λ (t : code.Task). task_of d hs t ∷ before.0) c.in-Answering.is) (c.pop_task.ensures.tasks d hs) in
    record { at = λ taken h. (c.answer.ensures.counted d).at taken (popped_source d e c.pop_task.new.self taken c.in-Answering.source first c.pop_task.ensures.begun h) }
