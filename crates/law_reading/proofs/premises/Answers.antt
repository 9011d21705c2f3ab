use Rattle.law_reading.proofs.WorkedReadingProofs.{premises_met}
use Rattle.law_reading.proofs.premises.Goals as goal

pub returns : goal.returns
returns c = premises_met
