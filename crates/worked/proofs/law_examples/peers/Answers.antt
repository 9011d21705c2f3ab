use Rattle.worked.proofs.Laws.PeerReads.{peers_met}
use Rattle.worked.proofs.law_examples.peers.Goals as goal

pub returns : goal.returns
returns c = peers_met
