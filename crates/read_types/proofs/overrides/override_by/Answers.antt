use Rattle.std.proofs.Common.{◌≡◌, ◌∙◌, sym, ap, Option, None, Some, option_map}
use Rattle.std.specs.Rc.{rc_str_bytes}
use Rattle.std.specs.BTreeMap.{get_by_text}
use Rattle.ui_machine.specs.Definition.Properties as properties
use Rattle.param_specs.specs.View.{spec_view}
use Rattle.definition_format.specs.Denoted.Overrides.{override_by}
use Rattle.read_types.proofs.OwnAhead.{own_is}
use Rattle.read_types.proofs.overrides.override_by.Goals as goal

pub returns-in-Some-Some : goal.returns-in-Some-Some
returns-in-Some-Some c =
    let same : c.as_str.result.now ≡ rc_str_bytes c.args.wanted.now.name = cc in
    let found : get_by_text c.args.own.now c.as_str.result.now ≡ Some (Some c.in-Some-Some.spec) = sym c.in-Some-Some.ensures.value ∙ ap Some c.in-Some-Some.field-0-is in
    c.compared.ensures ∙ ap (λ (o : Option (Option properties.Spec)). override_by o (option_map (λ s. spec_view s.now) c.args.inherited) (spec_view c.args.wanted.now))
    (sym (own_is c.as_str.result.now (rc_str_bytes c.args.wanted.now.name) c.args.own.now (Some (Some c.in-Some-Some.spec)) same found))

pub returns-in-Some-None : goal.returns-in-Some-None
returns-in-Some-None c =
    let same : c.as_str.result.now ≡ rc_str_bytes c.args.wanted.now.name = cc in
    let found : get_by_text c.args.own.now c.as_str.result.now ≡ Some None = sym c.in-Some-None.ensures.value ∙ ap Some c.in-Some-None.field-0-is in
    ap (λ (o : Option (Option properties.Spec)). override_by o (option_map (λ s. spec_view s.now) c.args.inherited) (spec_view c.args.wanted.now))
    (sym (own_is c.as_str.result.now (rc_str_bytes c.args.wanted.now.name) c.args.own.now (Some None) same found))

pub returns-in-None : goal.returns-in-None
returns-in-None c =
    let same : c.as_str.result.now ≡ rc_str_bytes c.args.wanted.now.name = cc in
    let found : get_by_text c.args.own.now c.as_str.result.now ≡ None = sym c.in-None.ensures.value in
    c.compared-in-None.ensures ∙ ap (λ (o : Option (Option properties.Spec)). override_by o (option_map (λ s. spec_view s.now) c.args.inherited) (spec_view c.args.wanted.now))
    (sym (own_is c.as_str.result.now (rc_str_bytes c.args.wanted.now.name) c.args.own.now None same found))
