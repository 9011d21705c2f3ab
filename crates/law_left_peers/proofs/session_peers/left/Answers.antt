use Rattle.law_left_peers.proofs.Sessions.LeftProofs.{build_leaves, event_leaves, run_leaves, worked_left}
use Rattle.law_left_peers.proofs.session_peers.left.Goals as goal

pub returns : goal.returns
returns c = record { run = run_leaves; build = build_leaves; event = event_leaves; worked = worked_left }
