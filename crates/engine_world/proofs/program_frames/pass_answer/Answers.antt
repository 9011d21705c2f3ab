use Rattle.std.proofs.Common.{◌∙◌, List, Some, ap}
use Rattle.ui_machine.specs.Rules.Accumulation.{received}
use Rattle.ui_machine.specs.State.Tasks.{Task}
use Rattle.g_values.specs.View.{value_view}
use Rattle.engine_world.specs.FirstPrograms.{first_frame, rest_of}
use Rattle.engine_world.proofs.Ableness.{able_as}
use Rattle.engine_world.proofs.FirstPrograms.{begins}
use Rattle.engine_world.proofs.Registers.{receives_able, waits_there}
use Rattle.engine_world.proofs.program_frames.pass_answer.Goals as goal

pub receive-requires : goal.receive-requires
receive-requires c =
    let d = c.args.definition.now in
    let e = c.args.engine.now in
    let to = c.args.to.0 in
    let v = value_view c.args.value in
    let first = waits_there d e.world.handlers.handlers (Some v) e.stack.tasks.items to c.requires.able in
    record {
      first = first;
      able = receives_able (first_frame e) (rest_of d e) to (Some v) (able_as (ap (λ (ts : List Task). received ts to (Some v)) (begins d e first)) c.requires.able);
      held = c.requires.held;
      may = c.requires.may;
    }

pub returns-clause-agenda : goal.returns-clause-agenda
returns-clause-agenda c =
    let d = c.args.definition.now in
    let e = c.args.engine.now in
    let to = c.args.to.0 in
    let v = value_view c.args.value in
    ap (λ (ts : List Task). received ts to (Some v)) (begins d e (waits_there d e.world.handlers.handlers (Some v) e.stack.tasks.items to c.requires.able))
    ∙ c.receive.ensures.agenda
