use Rattle.law_left_peers.proofs.Sessions.FinishedProofs.{pools_hold_none, sessions_finish}
use Rattle.law_left_peers.proofs.session_peers.finished.Goals as goal

pub returns : goal.returns
returns c = record { none = pools_hold_none; sessions = sessions_finish }
