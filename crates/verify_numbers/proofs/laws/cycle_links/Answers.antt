use Rattle.verify_numbers.proofs.CycleLinks.{cycles_are_told}
use Rattle.verify_numbers.proofs.laws.cycle_links.Goals as goal

pub returns : goal.returns
returns c = record { told = cycles_are_told }
