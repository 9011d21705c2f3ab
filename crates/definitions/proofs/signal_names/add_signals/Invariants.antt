use Rattle.std.proofs.Common.{◌-◌, take, length}
use Rattle.ui_machine.specs.Definition.Names.{place_named}
use Rattle.name_tables.specs.Names.{number_of}
use Rattle.name_tables.specs.Steps.{AddsAll}
use Rattle.signal_core.specs.Sources.{signals_of}
use Rattle.definitions.proofs.signal_names.add_signals.Given as goal

abbrev pub invariant-loop-signal : goal.invariant-loop-signal
invariant-loop-signal l = AddsAll (number_of l.initial.names) (number_of l.names) l.class (place_named (λ s. s.name) (take l.number (signals_of l.types l.signals.signals l.class)))

abbrev pub decreases-loop-signal : goal.decreases-loop-signal
decreases-loop-signal l = length (signals_of l.types l.signals.signals l.class) - l.number
