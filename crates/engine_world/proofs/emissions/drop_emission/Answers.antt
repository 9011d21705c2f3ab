use Rattle.std.proofs.Common.{List, map, ap, sym, arith}
use Rattle.ui_machine.specs.Seq.{total}
use Rattle.ui_machine.specs.State.References.{in_task, in_value}
use Rattle.ui_machine.specs.State.Tasks as config
use Rattle.g_values.specs.View.{value_view}
use Rattle.g_values.specs.declared.value.Value.{Value}
use Rattle.engine_world.specs.FirstEmissions.{first_emitted}
use Rattle.engine_stack.specs.FirstEmissions.{Emitted}
use Rattle.engine_world.specs.FirstPrograms.{rest_of}
use Rattle.engine_world.proofs.Counts.{dropped}
use Rattle.engine_world.proofs.FirstEmissions.{begins}
use Rattle.engine_stack.proofs.FirstEmissions.{emission_found}
use Rattle.engine_world.proofs.emissions.drop_emission.Goals as goal

pub let_go_values-requires : goal.let_go_values-requires
let_go_values-requires c = record {
  held = λ o.
      let e = c.args.engine.now in
      let own = ap (λ (x : Emitted). total (in_value o) (map value_view x.args)) (emission_found e.stack c.in-Some.emission.now (sym c.in-Some.ensures)) in
      let slice = ap (λ (vs : List Value). total (in_value o) (map value_view vs)) c.as_slice.ensures.value in
      omega (arith, c.requires.held o, own, slice);
}

pub returns-clause-agenda : goal.returns-clause-agenda
returns-clause-agenda c d = c.drop_emission.ensures.tasks d c.args.engine.now.world.handlers.handlers

pub returns-clause-counted : goal.returns-clause-counted
returns-clause-counted c d taken h =
    let e = c.args.engine.now in
    dropped d e c.let_go_values.new.table c.drop_emission.new.self taken _ (λ o. total (in_value o) (map value_view (first_emitted e).args)) (rest_of d e) c.let_go_values.ensures.only
    (λ o.
    let own = ap (λ (x : Emitted). total (in_value o) (map value_view x.args)) (emission_found e.stack c.in-Some.emission.now (sym c.in-Some.ensures)) in
    let slice = ap (λ (vs : List Value). total (in_value o) (map value_view vs)) c.as_slice.ensures.value in
    omega (arith, c.let_go_values.ensures.counts o, own, slice))
    (λ o. let before = ap (λ (ts : List config.Task). total (in_task o) ts) (begins d e c.requires.first) in omega (arith, before))
    (c.drop_emission.ensures.tasks d e.world.handlers.handlers) c.drop_emission.ensures.begun h
