use Rattle.machine_rows.proofs.PlayLaw.{played_is_run}
use Rattle.machine_rows.proofs.played_is_run.Goals as goal

pub returns : goal.returns
returns c = played_is_run
