-- A test that no arm stops is passed.
use Rattle.std.proofs.Common.{◌≡◌, refl, Bool, true, false}
use Rattle.ui_machine.specs.declared.arm.Arm.{Arm}
use Rattle.ui_machine.specs.Outcome.{Answer, only_if}
use Rattle.engine_world.specs.Able.{Able}

pub passes : {A : Type 0} (b : Bool) (arm : Arm) (a : Answer A) → Able (only_if b arm a) → only_if b arm a ≡ a
passes true arm a able = refl
passes false arm a able = absurd able
