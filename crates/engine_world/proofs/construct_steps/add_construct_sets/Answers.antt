use Rattle.std.proofs.Common.{◌-◌, arith}
use Rattle.ui_machine.specs.Definition.Lookups.{specs_of}
use Rattle.engine_world.specs.View.{world_of}
use Rattle.engine_world.specs.MakingView.{early}
use Rattle.engine_world.proofs.MakingSteps.{slot_before}
use Rattle.engine_world.proofs.construct_steps.add_construct_sets.Goals as goal

pub slots-preserved : goal.slots-preserved
slots-preserved c =
    let i = c.slots.invariant in
    let given = c.args.given in
    record {
      within = omega (arith, i.within);
      few = omega (arith, i.few);
      steps =
          slot_before (world_of given.world.now) (early given.place.0 given.entries.now) (specs_of c.args.definition.now c.args.class)
          c.slots.slot (c.slots.slot - 1) _ _ _
          (omega (arith, c.slots-test.true)) i.within i.steps (λ s at. c.in_ok-add_construct_set.ensures s at);
    }
