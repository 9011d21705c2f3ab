use Rattle.std.proofs.Common.{◌<◌, ℕ}
use Rattle.ui_engine.specs.Widths.{HoldsParams}
use Rattle.ui_engine.proofs.rooms.most_params.Given as goal

abbrev pub invariant-classes : goal.invariant-classes
invariant-classes l = (class : ℕ) → class < l.class → HoldsParams l.definition class l.most
