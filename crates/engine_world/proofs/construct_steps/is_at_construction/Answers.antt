use Rattle.std.proofs.Common.{◌≡◌, None, Some, Bor, option_map, slice_get, sym, ap, ◌∙◌}
use Rattle.ui_machine.specs.Definition.Lookups.{specs_of}
use Rattle.ui_machine.specs.Rules.Construction.{is_at_construction, no_spec}
use Rattle.param_specs.specs.declared.spec.Spec.{Spec}
use Rattle.param_specs.specs.View.{spec_view}
use Rattle.engine_world.proofs.MakingSteps.{read_there, read_nothing}
use Rattle.engine_world.proofs.construct_steps.is_at_construction.Goals as goal

pub returns-in-Some : goal.returns-in-Some
returns-in-Some c =
    let specs = specs_of c.args.definition.now c.args.class in
    let found : slice_get specs c.args.slot ≡ Some (spec_view c.in-Some.spec.now) =
    sym c.spec.ensures ∙ ap (option_map (λ (s : Bor Spec). spec_view s.now)) c.in-Some.is in
    c.is_at_construction.ensures ∙ ap is_at_construction (sym (read_there no_spec specs c.args.slot (spec_view c.in-Some.spec.now) found))

pub returns-in-None : goal.returns-in-None
returns-in-None c =
    let specs = specs_of c.args.definition.now c.args.class in
    let none : slice_get specs c.args.slot ≡ None = sym c.spec.ensures ∙ ap (option_map (λ (s : Bor Spec). spec_view s.now)) c.in-None.is in
    ap is_at_construction (sym (read_nothing no_spec specs c.args.slot none))
