use Rattle.verify_numbers.proofs.CycleChannels.{cycles_have_channels}
use Rattle.verify_numbers.proofs.laws.cycle_channels.Goals as goal

pub returns : goal.returns
returns c = record { present = cycles_have_channels }
