use Rattle.signal_core.proofs.GoingOn.{turns_go_on}
use Rattle.signal_core.proofs.PlanProofs.{plan_is_walked}
use Rattle.signal_core.proofs.Telling.{turns_tell}
use Rattle.signal_core.proofs.laws.turns.Goals as goal

pub returns : goal.returns
returns c = record { planned = plan_is_walked; goes_on = turns_go_on; tells = turns_tell }
