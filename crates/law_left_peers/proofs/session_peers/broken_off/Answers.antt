use Rattle.law_left_peers.proofs.Sessions.BrokenProofs.{build_breaks_off, cut_leaves, run_breaks_off}
use Rattle.law_left_peers.proofs.session_peers.broken_off.Goals as goal

pub returns : goal.returns
returns g c = record { cut = cut_leaves _; run = run_breaks_off _; build = build_breaks_off _ }
