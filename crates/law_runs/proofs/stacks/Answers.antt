use Rattle.law_runs.proofs.FewProofs.{constructions_are_few}
use Rattle.law_runs.proofs.ShortProofs.{stacked_are_short}
use Rattle.law_runs.proofs.StepProofs.{stacks_last}
use Rattle.law_runs.proofs.stacks.Goals as goal

pub returns-clause-last : goal.returns-clause-last
returns-clause-last c = stacks_last

pub returns-clause-short : goal.returns-clause-short
returns-clause-short c = stacked_are_short

pub returns-clause-few : goal.returns-clause-few
returns-clause-few c = constructions_are_few
