use Rattle.std.proofs.Common.{◌≡◌, List, ℕ, Option, Some, None, Ok, Bor, is_some, option_map, sym, ap, ◌∙◌}
use Rattle.param_specs.specs.View.{spec_view}
use Rattle.param_specs.specs.declared.spec.Spec as code
use Rattle.ui_machine.specs.declared.arm.Arm.TheVariants as arms
use Rattle.ui_machine.specs.Definition.Names.{canonical}
use Rattle.ui_machine.specs.Definition.Properties.{Spec}
use Rattle.ui_machine.specs.Outcome.{only_if}
use Rattle.engine_world.proofs.Ableness.{no_arm}
use Rattle.engine_world.proofs.Details.{slot_named}
use Rattle.engine_world.proofs.arguments.property_named.Goals as goal

pub unreachable-requires : goal.unreachable-requires
unreachable-requires c =
    no_arm _ arms.Code c.requires.able (ap (λ (slot : Option ℕ). only_if (is_some slot) arms.Code (Ok (canonical c.args.name.now))) (sym c.slot.ensures ∙ c.in_default.is))

pub unreachable-requires-in_default-spec : goal.unreachable-requires-in_default-spec
unreachable-requires-in_default-spec c =
    let named = slot_named c.args.definition.now c.args.class c.args.name.now c.in-Some.slot (sym c.slot.ensures ∙ c.in-Some.is) in
    let never : ◌≡◌ {A = Option Spec} None (Some named.0) = ap (option_map (λ (s : Bor code.Spec). spec_view s.now)) (sym c.in_default-spec.is) ∙ c.spec.ensures ∙ named.1 in
    cc never

pub returns : goal.returns
returns c =
    let found = sym c.slot.ensures ∙ c.in-Some.is in
    let named = slot_named c.args.definition.now c.args.class c.args.name.now c.in-Some.slot found in
    let some : ◌≡◌ {A = Option Spec} (Some (spec_view c.in-Some-spec.spec.now)) (Some named.0) = ap (option_map (λ (s : Bor code.Spec). spec_view s.now)) (sym c.in-Some-spec.is) ∙ c.spec.ensures ∙ named.1 in
    let same : spec_view c.in-Some-spec.spec.now ≡ named.0 = cc some in
    let name = ap (λ (s : Spec). s.name) same ∙ named.2 in
    ap (λ (slot : Option ℕ). only_if (is_some slot) arms.Code (Ok (canonical c.args.name.now))) found ∙ ap (λ (xs : List ℕ). Ok xs) (sym name)
