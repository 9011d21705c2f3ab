use Rattle.machine_laws.proofs.PlanProofs.{handlers_run_once, in_order, stages_in_order, notify_stages}
use Rattle.machine_laws.proofs.plans.Goals as goal

pub returns : goal.returns
returns c = record { once = handlers_run_once; ordered = in_order; stages = stages_in_order; notify = notify_stages }
