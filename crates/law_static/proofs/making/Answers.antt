use Rattle.law_static.proofs.AbsentProofs.{absent_costs_nothing}
use Rattle.law_static.proofs.MakingCostProofs.{construction_costs}
use Rattle.law_static.proofs.making.Goals as goal

pub returns : goal.returns
returns c = record { absent = absent_costs_nothing; cheap = construction_costs }
