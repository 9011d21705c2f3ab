use Rattle.std.proofs.Common.{◌≡◌, None, Some, Option, option_copied, option_map, nat_eq, not, ◌&&◌, sym, ap, subst, ◌∙◌}
use Rattle.std.specs.Prelude.{IfOk}
use Rattle.std.specs.List.{find}
use Rattle.ui_machine.specs.Definition.Values.{Value}
use Rattle.ui_machine.specs.Rules.Construction.{is_forward}
use Rattle.g_values.specs.View.{value_view}
use Rattle.definition_format.specs.declared.objects.GivenValue.{GivenValue}
use Rattle.definition_format.specs.Meaning.{given_view}
use Rattle.engine_world.specs.View.{world_of}
use Rattle.engine_world.proofs.MakingSteps.{value_of, found_first}
use Rattle.engine_world.proofs.construct_steps.value_given.Goals as goal

pub returns-in-Some : goal.returns-in-Some
returns-in-Some c =
    let given = c.args.given in
    let w = world_of given.world.now in
    let found : find (λ (g : GivenValue). not (is_forward given.place.0 (given_view g.given)) && nat_eq g.slot c.args.slot) given.entries.now ≡ Some c.in-Some.entry.now =
    sym c.entry_for.ensures ∙ ap option_copied c.in-Some.is in
    let is = found_first w given.place.0 c.args.slot given.entries.now ∙ ap (value_of w) found in
    subst (λ (x : Option Value). IfOk c.given.result (λ v. option_map value_view v ≡ x)) (sym is) c.given.ensures

pub returns-in-None : goal.returns-in-None
returns-in-None c =
    let given = c.args.given in
    let w = world_of given.world.now in
    let none : find (λ (g : GivenValue). not (is_forward given.place.0 (given_view g.given)) && nat_eq g.slot c.args.slot) given.entries.now ≡ None =
    sym c.entry_for.ensures ∙ ap option_copied c.in-None.is in
    sym (found_first w given.place.0 c.args.slot given.entries.now ∙ ap (value_of w) none)
