use Rattle.std.proofs.Common.{◌≡◌, ◌≤◌, ◌++◌, drop, length}
use Rattle.ui_machine.specs.Definition.Lookups.{specs_of}
use Rattle.ui_machine.specs.Rules.Construction.{given_sets}
use Rattle.engine_world.specs.View.{world_of}
use Rattle.engine_world.specs.MakingView.{early}
use Rattle.engine_stack.specs.MakingView.{making_steps}
use Rattle.engine_world.proofs.construct_steps.add_later_sets.Given as goal

abbrev pub invariant-entries : goal.invariant-entries
invariant-entries l = record {
  within : l.left ≤ length l.given.entries.now;
  steps : making_steps l.steps.items
      ≡ given_sets (world_of l.given.world.now) (specs_of l.definition l.class) (early l.given.place.0 (drop l.left l.given.entries.now)) ++ making_steps l.fn.steps.items;
}

abbrev pub decreases-entries : goal.decreases-entries
decreases-entries l = l.left
