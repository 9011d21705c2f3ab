use Rattle.std.proofs.Common.{List, ◌∷◌, [], map, option_map, sym, ap, ◌∙◌, subst, ◌+◌}
use Rattle.std.proofs.lemmas.List.{map-append}
use Rattle.ui_machine.specs.Rules.Events.{given_values}
use Rattle.g_values.specs.View.{value_view}
use Rattle.g_values.specs.declared.value.Value.{Value}
use Rattle.ui_machine.specs.Definition.Values as values
use Rattle.definition_format.specs.Meaning.{given_view}
use Rattle.engine_world.specs.View.{world_of}
use Rattle.engine_world.proofs.Ableness.{no_arm}
use Rattle.engine_world.proofs.Operands.{Onward, fails, goes_on, is_done}
use Rattle.engine_world.proofs.arguments.add_operands.Goals as goal

pub unreachable-requires : goal.unreachable-requires
unreachable-requires c =
    let w = world_of c.args.engine.now.world in
    let gs = c.args.given.now in
    no_arm _ _ c.requires.able (fails w gs c.loop-one.one-index (map value_view c.loop-one.values.items) (given_values w (map given_view gs)) c.one-item.result c.loop-one-test.true c.one-item.is
    (sym c.in_ok-value.ensures ∙ ap (option_map value_view) c.in_default.is) c.loop-one.invariant)

pub loop-one-preserved : goal.loop-one-preserved
loop-one-preserved c =
    let w = world_of c.args.engine.now.world in
    let gs = c.args.given.now in
    let i = c.loop-one.one-index in
    let vs = c.loop-one.values.items in
    let v = c.in-Some.value in
    let total = given_values w (map given_view gs) in
    let on = goes_on w gs i (map value_view vs) total c.one-item.result (value_view v) c.loop-one-test.true c.one-item.is
    (sym c.in_ok-value.ensures ∙ ap (option_map value_view) c.in-Some.is) c.loop-one.invariant in
    subst (λ (us : List values.Value). Onward w gs i (map value_view vs) total (i + 1) us)
    (sym (ap (λ (xs : List Value). map value_view xs) c.in_ok-push.ensures.items ∙ map-append value_view vs (v ∷ []))) on

pub returns : goal.returns
returns c =
    let w = world_of c.args.engine.now.world in
    let gs = c.args.given.now in
    is_done w gs c.loop-one.one-index (map value_view c.loop-one.values.items) (given_values w (map given_view gs)) c.loop-one-test.false c.loop-one.invariant
