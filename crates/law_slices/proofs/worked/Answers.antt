use Rattle.law_slices.proofs.WorkedProofs.{hundred_counted, numbers, premises_met}
use Rattle.law_slices.proofs.worked.Goals as goal

pub returns : goal.returns
returns c = record { premises = premises_met; numbers = numbers; hundred = hundred_counted }
