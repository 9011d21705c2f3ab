use Rattle.std.proofs.Common.{◌-◌, length}
use Rattle.ui_machine.specs.Definition.Lookups.{class_of}
use Rattle.ui_machine.specs.Definition.Signals.{Signal}
use Rattle.ui_engine.proofs.Widths.{AreAtMost}
use Rattle.ui_engine.proofs.rooms.most_params_of.Given as goal

abbrev pub invariant-loop-signal : goal.invariant-loop-signal
invariant-loop-signal l = AreAtMost (λ (s : Signal). length s.params) (class_of l.definition l.class).signals l.number l.most

abbrev pub decreases-loop-signal : goal.decreases-loop-signal
decreases-loop-signal l = length (class_of l.definition l.class).signals - l.number
