-- What an `emit` of a program denotes in the machine.
use Rattle.std.specs.Prelude.{ℕ, false, map, option_map, Ok}
use Rattle.ui_machine.specs.Definition.{Definition}
use Rattle.ui_machine.specs.Instructions.Registers.{operand_in, values_in}
use Rattle.ui_machine.specs.Instructions.Signals as machine
use Rattle.ui_machine.specs.Instructions.Signals.{signal_to_emit}
use Rattle.ui_machine.specs.Outcome.{Answer, ◌>>=◌}
use Rattle.ui_machine.specs.Rules.Connections.{detail_in}
use Rattle.ui_machine.specs.Rules.EmissionPlan.{new_emission}
use Rattle.ui_machine.specs.State.Config.{World}
use Rattle.ui_machine.specs.State.Tasks.{Emission, Frame}
use Rattle.bytecode.specs.View.{number_of}
use Rattle.engine_world.specs.GivenView.{shared_detail_of}
use Rattle.engine_instructions.specs.declared.emits.Emit as code

abbrev pub emit_of : code.Emit → machine.Emit
emit_of e = record {
  into = option_map number_of e.into;
  signal = e.signal.now;
  detail = shared_detail_of e.detail.now;
  args = map number_of e.args.now;
}

-- the emission that is to begin
abbrev pub emission_by_code : Definition → World → Frame → ℕ → machine.Emit → Answer Emission
emission_by_code d w f object e =
    operand_in w f object >>= λ id. signal_to_emit d w id e.signal >>= λ signal. detail_in d w id signal e.detail >>= λ detail.
    values_in f e.args >>= λ given. Ok (new_emission id signal detail given false)
