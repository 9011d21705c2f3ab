use Rattle.law_frames.proofs.Steps.{builds_are_once, requests_are_once, sources_are_once}
use Rattle.law_frames.proofs.frames.Goals as goal

pub returns : goal.returns
returns c = record { build = builds_are_once; request = requests_are_once; source = sources_are_once }
