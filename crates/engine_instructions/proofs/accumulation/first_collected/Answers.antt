use Rattle.std.proofs.Common.{◌∙◌, ap, sym}
use Rattle.ui_machine.specs.State.References.{in_register}
use Rattle.engine_stack.specs.FirstEmissions.{Emitted}
use Rattle.engine_stack.proofs.FirstEmissions.{emission_found}
use Rattle.engine_instructions.proofs.accumulation.first_collected.Goals as goal

pub returns : goal.returns
returns c o =
    let own = emission_found c.args.engine.now.stack c.in-Some.emission.now (sym c.in-Some.ensures) in
    c.accumulated.ensures o ∙ ap (λ (x : Emitted). in_register o x.walk.value) (sym own)
