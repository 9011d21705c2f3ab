use Rattle.law_held_peers.proofs.HeldProofs.{builds_hold_well, requests_hold_well, runs_hold_well, sources_hold_well}
use Rattle.law_held_peers.proofs.HolderProofs.{holding}
use Rattle.law_held_peers.proofs.TaskProofs.{step_keeps}
use Rattle.law_held_peers.proofs.held.Goals as goal

pub returns : goal.returns
returns c = record { steps = λ d reply before e number s holds. step_keeps (holding number) d reply before e s holds; builds = builds_hold_well; requests = requests_hold_well; sources = sources_hold_well; runs = runs_hold_well }
