use Rattle.verify_numbers.proofs.CostNumbers.{costs_are_solved}
use Rattle.verify_numbers.proofs.laws.costs.Goals as goal

pub returns : goal.returns
returns c = record { solved = costs_are_solved }
