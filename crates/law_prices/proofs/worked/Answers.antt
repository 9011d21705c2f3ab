use Rattle.law_prices.proofs.WorkedProofs.{knobs_holds, last_reference_holds, pair_holds}
use Rattle.law_prices.proofs.worked.Goals as goal

pub returns : goal.returns
returns c = record { knobs = knobs_holds; last_reference = last_reference_holds; pair = pair_holds }
