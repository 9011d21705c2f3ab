use Rattle.machine_laws.proofs.KeptSteps.{steps_keep_gone, whole_without_emissions}
use Rattle.machine_laws.proofs.gone_stay.Goals as goal

pub returns : goal.returns
returns c = record { steps = steps_keep_gone; whole = whole_without_emissions }
