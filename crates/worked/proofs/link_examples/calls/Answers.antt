use Rattle.worked.proofs.Links.CallsMet.{met}
use Rattle.worked.proofs.link_examples.calls.Goals as goal

pub returns : goal.returns
returns c = met
