use Rattle.std.proofs.Common.{◌∙◌, sym, ap, map, false, true, Some, List}
use Rattle.ui_machine.specs.State.Config.{peer_state}
use Rattle.g_values.specs.View.{value_view}
use Rattle.g_values.specs.declared.value.Value.{Value}
use Rattle.ui_machine.specs.State.Tasks.{Task}
use Rattle.ui_machine.specs.Steps.{asked_first}
use Rattle.engine_world.specs.View.{world_of}
use Rattle.engine_tasks.proofs.CallSteps.{asks_if, asks_nothing}
use Rattle.engine_tasks.proofs.calls.question.Goals as goal

pub returns-in_default : goal.returns-in_default
returns-in_default c d =
    ap (λ (ts : List Task). asked_first (world_of c.args.engine.now.world) ts) (sym (c.in_default.ensures.tasks d c.args.engine.now.world.handlers.handlers))

pub returns-in_default-task : goal.returns-in_default-task
returns-in_default-task c d =
    let w = world_of c.args.engine.now.world in
    let hs = c.args.engine.now.world.handlers.handlers in
    let first = c.in-Some.ensures.tasks d hs in
    asks_nothing d hs w first.0 c.in-Some.task.now c.in_default-task.not-Calling ∙ ap (λ (ts : List Task). asked_first w ts) (sym first.1)

pub returns-then-not-is_asked : goal.returns-then-not-is_asked
returns-then-not-is_asked c d =
    let w = world_of c.args.engine.now.world in
    let hs = c.args.engine.now.world.handlers.handlers in
    let first = c.in-Some.ensures.tasks d hs in
    asks_if d hs w first.0 c.in-Some.task.now c.in-Calling.call false c.in-Calling.is (sym c.if-not-is_asked.true ∙ c.is_asked.ensures) ∙ ap (λ (ts : List Task). asked_first w ts) (sym first.1)

pub returns : goal.returns
returns c d =
    let w = world_of c.args.engine.now.world in
    let hs = c.args.engine.now.world.handlers.handlers in
    let first = c.in-Some.ensures.tasks d hs in
    let call = c.in-Calling.call in
    ap (λ (vs : List Value). Some (record { peer = call.peer; state = peer_state w call.peer; method = call.method; args = map value_view vs })) c.as_slice.ensures.value
    ∙ asks_if d hs w first.0 c.in-Some.task.now call true c.in-Calling.is (sym c.if-not-is_asked.false ∙ c.is_asked.ensures) ∙ ap (λ (ts : List Task). asked_first w ts) (sym first.1)
