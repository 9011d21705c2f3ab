use Rattle.law_static.proofs.RisingProofs.{rising_are_found, rising_costs}
use Rattle.law_static.proofs.rising.Goals as goal

pub returns : goal.returns
returns c = record { found = rising_are_found; costs = rising_costs }
