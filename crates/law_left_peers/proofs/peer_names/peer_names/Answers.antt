use Rattle.law_left_peers.proofs.Names.PlainPlaces.{names_peers_plainly}
use Rattle.law_left_peers.proofs.peer_names.peer_names.Goals as goal

pub returns : goal.returns
returns c = names_peers_plainly
