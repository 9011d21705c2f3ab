use Rattle.law_typing.proofs.CostProofs.{depths_solved, depths_cover}
use Rattle.law_typing.proofs.depths.Goals as goal

pub returns : goal.returns
returns c = record { solved = depths_solved; cover = depths_cover }
