-- What an emission collects.
use Rattle.std.specs.Prelude.{Bool, cond, false, [], Option, None, Some}
use Rattle.ui_machine.specs.Definition.Signals.{Accumulator}
use Rattle.ui_machine.specs.Definition.Values.{Value}
use Rattle.ui_machine.specs.Rules.Accumulation.{is_last}
use Rattle.signal_core.specs.Emission.{Walk, collected}
use Rattle.engine_stack.specs.FirstEmissions.{Emitted}
use Rattle.engine_stack.specs.declared.task.Transfers.TheVariants as at

-- an emission after one of its programs gave a value, or none
abbrev pub collects : Option Accumulator → Option Value → Walk → Walk
collects accumulator None w = w
collects accumulator (Some v) w = collected v (is_last accumulator v) w

-- whether what a program gave, or gave not, is the last that the emission takes
abbrev pub stops_at : Option Accumulator → Option Value → Bool
stops_at accumulator None = false
stops_at accumulator (Some v) = is_last accumulator v

-- the same of what goes on: once it takes no more, no transfers are left
abbrev pub collected_by : Option Accumulator → Option Value → Emitted → Emitted
collected_by accumulator given e = record e { walk = collects accumulator given e.walk; transfers = cond (stops_at accumulator given) (at.Due []) e.transfers }
