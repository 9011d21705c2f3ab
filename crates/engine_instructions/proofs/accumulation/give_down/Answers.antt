use Rattle.std.proofs.Common.{ℕ, List, option_map, subst, ap, ◌∙◌, arith}
use Rattle.ui_machine.specs.Rules.Accumulation.{given_down}
use Rattle.ui_machine.specs.Seq.{total}
use Rattle.ui_machine.specs.State.References.{in_task}
use Rattle.ui_machine.specs.State.Tasks.{Task}
use Rattle.g_values.specs.View.{value_view}
use Rattle.engine_world.specs.Able.{Able}
use Rattle.engine_world.specs.FirstEmissions.{first_emitted}
use Rattle.engine_stack.specs.FirstEmissions.{first_emission}
use Rattle.engine_world.specs.View.{world_of}
use Rattle.engine_world.proofs.FirstEmissions.{begins}
use Rattle.engine_stack.proofs.FirstEmissions.{first_begun}
use Rattle.engine_world.proofs.Quiets.{quiet_same}
use Rattle.engine_world.proofs.Registers.{none_found, some_found, tasks_world}
use Rattle.engine_instructions.proofs.Holding.{counted_may}
use Rattle.engine_instructions.proofs.accumulation.give_down.Goals as goal

pub give_other-requires-clause-none : goal.give_other-requires-clause-none
give_other-requires-clause-none c =
    none_found _ c.first_emission.result (first_emission c.args.engine.now.stack.tasks.items) c.is_none.result c.first_emission.ensures c.is_none.ensures c.if-is_none.true

pub accumulate-requires : goal.accumulate-requires
accumulate-requires c =
    let d = c.args.definition.now in
    let e = c.args.engine.now in
    let first = some_found _ c.first_emission.result (first_emission e.stack.tasks.items) c.is_none.result c.first_emission.ensures c.is_none.ensures c.if-is_none.false in
    let is = begins d e first in
    let holds = λ (o : ℕ). ap (λ (ts : List Task). total (in_task o) ts) is in
    record {
      first = first;
      able = subst (λ (ts : List Task). Able (given_down d (world_of e.world) ts (option_map value_view c.args.given))) is c.requires.able;
      held = λ o. omega (arith, c.requires.held.at o, holds o);
      may = c.requires.may;
      again =
          counted_may d e (first_emitted e).walk.value c.never_full.ensures.room c.never_full.ensures.dead c.requires.counted (λ o. omega (arith, c.requires.held.at o, holds o));
      known = first_begun e.world.handlers.last e.stack first c.requires.begun;
    }

pub returns-clause-step : goal.returns-clause-step
returns-clause-step c =
    let d = c.args.definition.now in
    let e = c.args.engine.now in
    let first = some_found _ c.first_emission.result (first_emission e.stack.tasks.items) c.is_none.result c.first_emission.ensures c.is_none.ensures c.if-is_none.false in
    ap (λ (ts : List Task). given_down d (world_of e.world) ts (option_map value_view c.args.given)) (begins d e first) ∙ c.accumulate.ensures.step

pub returns-clause-quiet : goal.returns-clause-quiet
returns-clause-quiet c =
    let e = c.args.engine.now in
    let new = c.accumulate.new.engine in
    quiet_same (world_of e.world) (world_of new.world) (tasks_world e new c.accumulate.ensures.only)

pub returns-clause-same : goal.returns-clause-same
returns-clause-same c = ap (λ x. x.counted) c.accumulate.ensures.only.beside
