use Rattle.worked.proofs.Links.GatheringMet.{met}
use Rattle.worked.proofs.link_examples.gathering.Goals as goal

pub returns : goal.returns
returns c = met
