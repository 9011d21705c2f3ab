use Rattle.machine_laws.proofs.JoinProofs.{build_is_run, runs_go_on}
use Rattle.machine_laws.proofs.runs.Goals as goal

pub returns : goal.returns
returns c = record { build = build_is_run; goes_on = runs_go_on }
