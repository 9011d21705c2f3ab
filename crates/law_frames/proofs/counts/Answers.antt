use Rattle.law_frames.proofs.CountProofs.{builds_run_few, requests_run_few, sources_run_few}
use Rattle.law_frames.proofs.counts.Goals as goal

pub returns : goal.returns
returns c = record { build = builds_run_few; request = requests_run_few; source = sources_run_few }
