use Rattle.law_peers.proofs.PoolProofs.{matched_is_ready, ready_matches}
use Rattle.law_peers.proofs.ApartProofs.{matched_is_apart}
use Rattle.law_peers.proofs.PoolWorkedProofs.{worked_pools}
use Rattle.law_peers.proofs.pools.Goals as goal

pub returns : goal.returns
returns c = record { ready = matched_is_ready; matched = ready_matches; apart = matched_is_apart; worked = worked_pools }
