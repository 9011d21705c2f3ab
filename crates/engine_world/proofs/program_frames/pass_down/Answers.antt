use Rattle.std.proofs.Common.{List, option_map, ap, subst, sym}
use Rattle.ui_machine.specs.Rules.Accumulation.{passed_down}
use Rattle.ui_machine.specs.State.Tasks.{Task}
use Rattle.g_values.specs.View.{value_view}
use Rattle.engine_world.specs.Able.{Leads}
use Rattle.engine_world.specs.FirstPrograms.{first_frame, rest_of}
use Rattle.engine_stack.specs.FirstPrograms.{first_program}
use Rattle.engine_world.specs.TaskView.{agenda_of}
use Rattle.engine_world.proofs.Ableness.{able_as}
use Rattle.engine_world.proofs.FirstPrograms.{begins}
use Rattle.engine_world.proofs.Registers.{none_found, none_waits, some_found, takes_able}
use Rattle.engine_world.proofs.program_frames.pass_down.Goals as goal

pub returns-then-is_none-clause-agenda : goal.returns-then-is_none-clause-agenda
returns-then-is_none-clause-agenda c =
    let e = c.args.engine.now in
    none_waits c.args.definition.now e.world.handlers.handlers (option_map value_view c.args.value.now) e.stack.tasks.items
    (none_found _ c.first_program.result (first_program e.stack.tasks.items) c.is_none.result c.first_program.ensures c.is_none.ensures c.if-is_none.true)

pub pass_to-requires-clause-able : goal.pass_to-requires-clause-able
pass_to-requires-clause-able c =
    let d = c.args.definition.now in
    let e = c.args.engine.now in
    let v = option_map value_view c.args.value.now in
    let first = some_found _ c.first_program.result (first_program e.stack.tasks.items) c.is_none.result c.first_program.ensures c.is_none.ensures c.if-is_none.false in
    takes_able (first_frame e) (rest_of d e) v (able_as (ap (λ (ts : List Task). passed_down ts v) (begins d e first)) c.requires.able)

pub returns-clause-agenda : goal.returns-clause-agenda
returns-clause-agenda c =
    let d = c.args.definition.now in
    let e = c.args.engine.now in
    let v = option_map value_view c.args.value.now in
    let first = some_found _ c.first_program.result (first_program e.stack.tasks.items) c.is_none.result c.first_program.ensures c.is_none.ensures c.if-is_none.false in
    subst (λ (ts : List Task). Leads c.pass_to.result (passed_down ts v) (agenda_of d c.pass_to.new.engine)) (sym (begins d e first)) c.pass_to.ensures.agenda
