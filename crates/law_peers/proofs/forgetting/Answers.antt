use Rattle.law_peers.proofs.ForgettingProofs.{question_forgets, step_forgets}
use Rattle.law_peers.proofs.WorkedForgettingProofs.{worked_forgetting}
use Rattle.law_peers.proofs.forgetting.Goals as goal

pub returns : goal.returns
returns c = record { step = step_forgets; question = question_forgets; worked = worked_forgetting }
