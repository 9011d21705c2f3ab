use Rattle.std.proofs.Common.{◌≡◌, ◌∷◌, ◌∙◌, List, drop, sym, ap, subst, arith, rules}
use Rattle.ui_machine.specs.Definition.{Definition}
use Rattle.ui_machine.specs.Outcome.{Answer}
use Rattle.ui_machine.specs.Rules.Construction.{constructed}
use Rattle.ui_machine.specs.State.Config.{Config}
use Rattle.ui_machine.specs.State.Tasks.{Task}
use Rattle.ui_machine.specs.Steps.{uncounted}
use Rattle.engine_world.specs.Able.{Leads}
use Rattle.engine_world.specs.EngineView.{config_of}
use Rattle.engine_world.specs.FirstConstructions.{first_constructed}
use Rattle.engine_stack.specs.FirstConstructions.{Constructed, constructed_of, constructing_task, construction_in}
use Rattle.engine_world.specs.FirstPrograms.{rest_of}
use Rattle.engine_stack.specs.TaskView.{task_of, tasks_of}
use Rattle.engine_world.specs.View.{world_of}
use Rattle.engine_stack.specs.declared.construction_frames.ConstructionFrame.{ConstructionFrame}
use Rattle.engine_world.specs.declared.engine.Engine.{Engine}
use Rattle.engine_stack.specs.declared.stacks.Frames.{Frames}
use Rattle.engine_stack.specs.declared.task.Task as code
use Rattle.engine_world.proofs.Ableness.{able_as}
use Rattle.engine_world.proofs.Counts.{taken_alike, taken_off}
use Rattle.engine_stack.proofs.FirstConstructions.{construction_found}
use Rattle.engine_world.proofs.OtherFirst.{constructs_only}
use Rattle.engine_tasks.proofs.builds.end_first.Goals as goal

-- what ends is the construction that was taken off, above the tasks that were behind it
ends_off : (d : Definition) (e : Engine) (s : Frames) (f : ConstructionFrame) → first_constructed e ≡ constructed_of f → rest_of d e ≡ tasks_of d e.world.handlers.handlers s
    → uncounted (rest_of d e) e.counted (constructed (world_of e.world) (first_constructed e).object (first_constructed e).held)
    ≡ uncounted (tasks_of d e.world.handlers.handlers s) e.counted (constructed (world_of e.world) f.object.0 f.held)
ends_off d e s f own behind =
    ap (λ (c : Constructed). uncounted (rest_of d e) e.counted (constructed (world_of e.world) c.object c.held)) own
    ∙ ap (λ (ts : List Task). uncounted ts e.counted (constructed (world_of e.world) f.object.0 f.held)) behind

pub end_construction-requires : goal.end_construction-requires
end_construction-requires c =
    let d = c.args.definition.now in
    let e = c.args.engine.now in
    let hs = e.world.handlers.handlers in
    let f = c.in-Constructing.rest in
    let s = c.pop_task.new.self in
    let own = construction_found e.stack f (sym c.in-Some.ensures.construction ∙ ap (λ (t : code.Task). construction_in t) c.in-Constructing.is) in
    let first = c.in-Some.ensures.tasks d hs ∙ ap (λ (t : code.Task). task_of d hs t ∷ tasks_of d hs s) c.in-Constructing.is in
    record {
      able = able_as (ends_off d e s f own (ap (λ (ts : List Task). drop 1 ts) first)) c.requires.able;
      counted = taken_alike d (record e { stack = s }) _ _ (λ o. omega arith) (taken_off d e s (constructing_task (constructed_of f)) first c.in-Some.ensures.begun c.requires.counted);
    }

pub returns : goal.returns
returns c = record {
  step =
      let d = c.args.definition.now in
      let e = c.args.engine.now in
      let hs = e.world.handlers.handlers in
      let f = c.in-Constructing.rest in
      let s = c.pop_task.new.self in
      let own = construction_found e.stack f (sym c.in-Some.ensures.construction ∙ ap (λ (t : code.Task). construction_in t) c.in-Constructing.is) in
      let first = c.in-Some.ensures.tasks d hs ∙ ap (λ (t : code.Task). task_of d hs t ∷ tasks_of d hs s) c.in-Constructing.is in
      subst (λ (a : Answer Config). Leads c.end_construction.result a (config_of d c.end_construction.new.engine)) (sym (ends_off d e s f own (ap (λ (ts : List Task). drop 1 ts) first))) c.end_construction.ensures.step;
  quiet = search rules;
  counted = search rules;
  room = search rules;
}

pub pop_task-requires : goal.pop_task-requires
pop_task-requires c = let other = constructs_only c.args.engine.now.stack.tasks.items c.requires.first in record { program = other.program; emission = other.emission }
