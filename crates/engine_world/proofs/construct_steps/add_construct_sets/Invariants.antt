use Rattle.std.proofs.Common.{◌≡◌, ◌≤◌, ◌++◌, drop, length}
use Rattle.ui_machine.specs.Definition.Lookups.{specs_of}
use Rattle.ui_machine.specs.Rules.Construction.{construct_sets}
use Rattle.engine_world.specs.View.{world_of}
use Rattle.engine_world.specs.MakingView.{early}
use Rattle.engine_stack.specs.MakingView.{making_steps}
use Rattle.engine_world.proofs.construct_steps.add_construct_sets.Given as goal

abbrev pub invariant-slots : goal.invariant-slots
invariant-slots l = record {
  within : l.slot ≤ length (specs_of l.definition l.class);
  few : l.slot ≤ 16448;
  steps : making_steps l.steps.items
      ≡ construct_sets (world_of l.given.world.now) (early l.given.place.0 l.given.entries.now) l.slot (drop l.slot (specs_of l.definition l.class)) ++ making_steps l.fn.steps.items;
}

abbrev pub decreases-slots : goal.decreases-slots
decreases-slots l = l.slot
