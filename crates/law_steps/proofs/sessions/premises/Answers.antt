use Rattle.law_steps.proofs.Served.ReplyProofs.{questions_are_answered}
use Rattle.law_steps.proofs.Served.WorkedProofs.{premises_met}
use Rattle.law_steps.proofs.sessions.premises.Goals as goal

pub returns : goal.returns
returns c = record { replies = questions_are_answered; met = premises_met }
