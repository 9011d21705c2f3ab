use Rattle.law_short_lines.proofs.WorkedProofs.{premises_met_short, steps_met}
use Rattle.law_short_lines.proofs.worked_short_lines.Goals as goal

pub returns : goal.returns
returns c = record { met = premises_met_short; steps = steps_met }
