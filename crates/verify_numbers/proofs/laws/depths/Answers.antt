use Rattle.verify_numbers.proofs.DepthNumbers.{depths_are_solved}
use Rattle.verify_numbers.proofs.laws.depths.Goals as goal

pub returns : goal.returns
returns c = record { solved = depths_are_solved }
