use Rattle.law_runs.proofs.MeaningProofs.{builds_keep_meanings, requests_keep_meanings, rests_keep_meanings, sources_keep_meanings}
use Rattle.law_runs.proofs.meanings.Goals as goal

pub returns : goal.returns
returns c = record { build = builds_keep_meanings; request = requests_keep_meanings; source = sources_keep_meanings; rest = rests_keep_meanings }
