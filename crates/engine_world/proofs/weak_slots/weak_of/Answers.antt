use Rattle.std.proofs.Common.{◌≡◌, ◌+◌, suc, Some, Bor, option_map, slice_get, sym, ap, ◌∙◌, arith}
use Rattle.std.proofs.lemmas.Grind.{common_steps}
use Rattle.ui_machine.specs.Definition.Lookups.{specs_of}
use Rattle.param_specs.specs.declared.spec.Spec.{Spec}
use Rattle.param_specs.specs.View.{spec_view}
use Rattle.engine_world.proofs.Marks.{one_mark_more}
use Rattle.engine_world.proofs.weak_slots.weak_of.Goals as goal

pub loop-spec-preserved : goal.loop-spec-preserved
loop-spec-preserved c =
    let specs = specs_of c.args.definition.now c.args.class in
    let found : slice_get specs c.loop-spec.slot ≡ Some (spec_view c.in-Some.spec.now) =
    sym c.spec.ensures ∙ ap (option_map (λ (s : Bor Spec). spec_view s.now)) c.in-Some.is in
    let more = one_mark_more specs c.loop-spec.slot (spec_view c.in-Some.spec.now) c.loop-spec.marks.items found c.loop-spec.invariant in
    let next : c.loop-spec.slot + 1 ≡ suc c.loop-spec.slot = grind (arith, common_steps) in
    rw (next, c.in_ok-push.ensures.items) more
