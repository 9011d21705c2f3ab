use Rattle.std.proofs.Common.{Option, option_map, ap, ◌∙◌}
use Rattle.ui_machine.specs.Instructions.Jumps.{given_by}
use Rattle.g_values.specs.View.{value_view}
use Rattle.bytecode.specs.View.{number_of}
use Rattle.bytecode.specs.declared.computations.Register.{Register}
use Rattle.engine_world.proofs.Ableness.{able_as}
use Rattle.engine_instructions.proofs.Returning.{gives_nothing, gives_register, register_able}
use Rattle.engine_world.specs.FirstPrograms.{first_frame}
use Rattle.engine_instructions.proofs.returns.given_by.Goals as goal

pub returns-in_default : goal.returns-in_default
returns-in_default c =
    let f = first_frame c.args.engine.now in
    ap (λ (from : Option Register). given_by f (option_map number_of from)) c.in_default.is ∙ gives_nothing f

pub value_in-requires : goal.value_in-requires
value_in-requires c =
    let f = first_frame c.args.engine.now in
    record { first = c.requires.first; able = register_able f c.in-Some.from.0 (able_as (ap (λ (from : Option Register). given_by f (option_map number_of from)) c.in-Some.is) c.requires.able) }

pub returns : goal.returns
returns c =
    let f = first_frame c.args.engine.now in
    ap (λ (from : Option Register). given_by f (option_map number_of from)) c.in-Some.is ∙ gives_register f c.in-Some.from.0 (value_view c.in_ok-value_in.field-0) c.in_ok-value_in.ensures
