use Rattle.std.proofs.Common.{◌<◌, ℕ}
use Rattle.ui_engine.specs.Widths.{HoldsSteps}
use Rattle.ui_engine.proofs.rooms.most_steps.Given as goal

abbrev pub invariant-places : goal.invariant-places
invariant-places l = (place : ℕ) → place < l.place → HoldsSteps l.definition place l.most
