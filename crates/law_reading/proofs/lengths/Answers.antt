use Rattle.law_reading.proofs.LengthProofs.{denoted_are_short}
use Rattle.law_reading.proofs.lengths.Goals as goal

pub returns : goal.returns
returns c = denoted_are_short
