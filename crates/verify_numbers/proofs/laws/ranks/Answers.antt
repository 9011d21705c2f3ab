use Rattle.verify_numbers.proofs.RankNumbers.{chains_are_ranks}
use Rattle.verify_numbers.proofs.laws.ranks.Goals as goal

pub returns : goal.returns
returns c = record { solved = chains_are_ranks }
