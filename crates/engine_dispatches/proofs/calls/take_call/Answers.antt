use Rattle.std.proofs.Common.{◌≡◌, List, [], ◌∷◌, refl, ap, sym, subst, ◌∙◌}
use Rattle.std.specs.Prelude.{IsSome}
use Rattle.ui_machine.specs.State.Tasks.{Calling, Task}
use Rattle.ui_machine.specs.Steps.{asked_first}
use Rattle.engine_world.specs.EngineView.{config_of}
use Rattle.engine_world.specs.TaskView.{agenda_of}
use Rattle.engine_stack.specs.TaskView.{call_of, task_of, tasks_of}
use Rattle.engine_stack.specs.declared.task.Task as code
use Rattle.engine_world.specs.View.{world_of}
use Rattle.engine_world.proofs.Counts.{taken_off}
use Rattle.engine_dispatches.specs.Safety.{NoneUnheld}
use Rattle.engine_dispatches.proofs.FirstCalls.{asked_first_so, asked_other, asks_open, calls_only, none_asked}
use Rattle.engine_dispatches.proofs.calls.take_call.Goals as goal

pub returns-then-not-asks-clause-taken : goal.returns-then-not-asks-clause-taken
returns-then-not-asks-clause-taken c = (refl, none_asked _ (sym c.if-not-asks.true ∙ c.asks.ensures))

pub pop_task-requires : goal.pop_task-requires
pop_task-requires c =
    let d = c.args.definition.now in
    let e = c.args.engine.now in
    let asks = asked_first_so d (config_of d e) (sym c.asks.ensures ∙ c.if-not-asks.false) in
    let other = asked_other d e.world.handlers.handlers (world_of e.world) e.stack.tasks.items asks.1 in
    record { program = other.program; emission = other.emission }

pub unreachable-requires : goal.unreachable-requires
unreachable-requires c =
    let d = c.args.definition.now in
    let e = c.args.engine.now in
    let asks = asked_first_so d (config_of d e) (sym c.asks.ensures ∙ c.if-not-asks.false) in
    let none = (c.in_default.ensures.tasks d e.world.handlers.handlers).0 in
    let never : IsSome (asked_first (world_of e.world) []) = subst (λ (ts : List Task). IsSome (asked_first (world_of e.world) ts)) none asks.1 in
    cc never

pub unreachable-requires-in_default-task : goal.unreachable-requires-in_default-task
unreachable-requires-in_default-task c =
    let d = c.args.definition.now in
    let e = c.args.engine.now in
    let hs = e.world.handlers.handlers in
    let asks = asked_first_so d (config_of d e) (sym c.asks.ensures ∙ c.if-not-asks.false) in
    let calls = calls_only d hs (world_of e.world) c.in-Some.task (tasks_of d hs c.pop_task.new.self) (subst (λ (ts : List Task). IsSome (asked_first (world_of e.world) ts)) (c.in-Some.ensures.tasks d hs) asks.1) in
    c.in_default-task.not-Calling calls.0 calls.1

pub returns-clause-taken : goal.returns-clause-taken
returns-clause-taken c =
    let d = c.args.definition.now in
    let e = c.args.engine.now in
    let hs = e.world.handlers.handlers in
    let call = call_of c.in-Calling.call in
    let rest = tasks_of d hs c.pop_task.new.self in
    let asks = asked_first_so d (config_of d e) (sym c.asks.ensures ∙ c.if-not-asks.false) in
    let first : agenda_of d e ≡ Calling call ∷ rest = subst (λ (t : code.Task). agenda_of d e ≡ task_of d hs t ∷ rest) c.in-Calling.is (c.in-Some.ensures.tasks d hs) in
    record {
      first = ap (λ (ts : List Task). record (config_of d e) { agenda = ts }) first;
      none = subst (λ (ts : List Task). NoneUnheld d (record (config_of d e) { agenda = ts })) first asks.0;
      asked = asks_open (world_of e.world) call rest (subst (λ (ts : List Task). IsSome (asked_first (world_of e.world) ts)) first asks.1);
      counted = taken_off d e c.pop_task.new.self (Calling call) first c.in-Some.ensures.begun c.requires.counted;
    }
