use Rattle.std.proofs.Common.{◌≡◌, ◌-◌, Some, slice_get, get_or, ap, ◌∙◌, arith}
use Rattle.ui_machine.specs.Definition.Lookups.{specs_of}
use Rattle.engine_world.specs.View.{world_of}
use Rattle.engine_world.proofs.MakingSteps.{entry_before, slice_got}
use Rattle.engine_world.proofs.construct_steps.add_later_sets.Goals as goal

pub entries-preserved : goal.entries-preserved
entries-preserved c =
    let i = c.entries.invariant in
    let given = c.args.given in
    let entries = given.entries.now in
    let entry = get_or entries (c.entries.left - 1) c.index-given-left.result in
    let at : slice_get entries (c.entries.left - 1) ≡ Some entry =
    slice_got entries (c.entries.left - 1) c.index-given-left.result (omega (arith, c.entries-test.true, i.within)) c.index-given-left.is ∙ ap Some c.index-given-left.is in
    record {
      within = omega (arith, i.within);
      steps =
          entry_before (world_of given.world.now) (specs_of c.args.definition.now c.args.class) given.place.0 entries
          c.entries.left (c.entries.left - 1) entry _ _ _
          (omega (arith, c.entries-test.true)) at i.steps c.in_ok-add_early_set.ensures;
    }
