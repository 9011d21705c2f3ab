use Rattle.law_static.proofs.PlanCostProofs.{plan_costs}
use Rattle.law_static.proofs.NotifyCostProofs.{notify_costs}
use Rattle.law_static.proofs.plan.Goals as goal

pub returns : goal.returns
returns c = record { costs = plan_costs; notifications = notify_costs }
