use Rattle.std.proofs.Common.{◌≡◌, ◌+◌, suc, arith}
use Rattle.std.proofs.lemmas.Grind.{common_steps}
use Rattle.param_specs.specs.Table.{specs_of}
use Rattle.param_specs.specs.View.{spec_view}
use Rattle.instances.proofs.Defaults.{one_default_more}
use Rattle.instances.proofs.classes.Classes.defaults.Goals as goal

pub loop-slot-preserved : goal.loop-slot-preserved
loop-slot-preserved c =
    let specs = specs_of c.args.self.now.types.now c.args.self.now.specs.now c.args.class in
    let more = one_default_more specs c.loop-slot.slot (spec_view c.spec-spec.result.now) c.loop-slot.values.items c.in_ok-copied.field-0 c.spec-spec.ensures c.in_ok-copied.ensures.value c.loop-slot.invariant in
    let next : c.loop-slot.slot + 1 ≡ suc c.loop-slot.slot = grind (arith, common_steps) in
    rw (next, c.in_ok-push.ensures.items) more
