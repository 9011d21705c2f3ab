use Rattle.std.proofs.Common.{◌≡◌, ◌-◌, Some, slice_get, arith}
use Rattle.engine_world.proofs.MakingSteps.{slice_got}
use Rattle.engine_world.proofs.Forwarded.{entry_less}
use Rattle.engine_tasks.proofs.forward_references.add_forwards.Goals as goal

pub entries-preserved : goal.entries-preserved
entries-preserved c =
    let i = c.entries.invariant in
    let given = c.args.given.now in
    let at : slice_get given (c.entries.left - 1) ≡ Some c.index-given-left.result =
    slice_got given (c.entries.left - 1) c.index-given-left.result (omega (arith, c.entries-test.true, i.within)) c.index-given-left.is in
    record {
      within = omega (arith, i.within);
      items = entry_less c.args.object.0 given c.entries.left (c.entries.left - 1) c.index-given-left.result _ _ _
          (omega (arith, c.entries-test.true)) at i.items c.in_ok-add_forward.ensures;
    }
