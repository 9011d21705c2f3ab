use Rattle.law_peers.proofs.BlindProofs.{step_is_blind, task_is_blind, instruction_is_blind, asks_nothing}
use Rattle.law_peers.proofs.RunLives.{leaves_peers}
use Rattle.law_peers.proofs.WorkedProofs.{worked_blind}
use Rattle.law_peers.proofs.blind.Goals as goal

pub returns : goal.returns
returns c = record { step = step_is_blind; task = task_is_blind; instruction = instruction_is_blind; leaves = leaves_peers; asks = asks_nothing; worked = worked_blind }
