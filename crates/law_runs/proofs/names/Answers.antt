use Rattle.law_runs.proofs.LivingProofs.{builds_name_living, requests_name_living, rests_name_living, sources_name_living}
use Rattle.law_runs.proofs.names.Goals as goal

pub returns : goal.returns
returns c = record { build = builds_name_living; request = requests_name_living; source = sources_name_living; rest = rests_name_living }
