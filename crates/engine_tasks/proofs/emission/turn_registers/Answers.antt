use Rattle.std.proofs.Common.{◌∙◌, List, Some, map, sym, ap}
use Rattle.g_values.specs.View.{value_view}
use Rattle.g_values.specs.declared.value.Value.{Value}
use Rattle.engine_stack.specs.FirstEmissions.{Emitted}
use Rattle.engine_stack.proofs.FirstEmissions.{emission_found}
use Rattle.engine_tasks.specs.TurnView.{given_around}
use Rattle.engine_tasks.proofs.emission.turn_registers.Goals as goal

pub returns-clause-given : goal.returns-clause-given
returns-clause-given c =
    let own = emission_found c.args.engine.now.stack c.in-Some.emission.now (sym c.in-Some.ensures) in
    c.in_ok-give.ensures.given
    ∙ ap (λ (vs : List Value). map (λ v. Some v) (given_around c.args.runs (map value_view vs))) (c.as_slice.ensures.value ∙ ap (λ (x : Emitted). x.args) (sym own))
