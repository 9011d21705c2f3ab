use Rattle.std.proofs.Common.{◌≡◌, ℕ, ◌<◌, length, []}
use Rattle.ui_machine.specs.Seq.{read}
use Rattle.ui_machine.specs.Definition.Lookups.{specs_of}
use Rattle.engine_world.specs.WeakView.{weak_of}
use Rattle.engine_world.proofs.weak_slots.weak_slots.Given as goal

abbrev pub invariant-types : goal.invariant-types
invariant-types l = record {
  long : length l.weak ≡ l.class;
  known : (class : ℕ) → class < l.class → weak_of (specs_of l.definition class) ≡ read [] l.weak class;
}
