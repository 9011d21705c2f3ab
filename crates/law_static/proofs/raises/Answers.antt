use Rattle.law_static.proofs.RaisesProofs.{channels_known, connections_known, sources_known}
use Rattle.law_static.proofs.raises.Goals as goal

pub returns : goal.returns
returns c = record { channels = channels_known; connections = connections_known; sources = sources_known }
