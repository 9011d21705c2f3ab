use Rattle.law_steps.proofs.Tasked.TransferringProofs.{due_transfers_are_fine}
use Rattle.law_steps.proofs.tasks.transferring.Goals as goal

pub returns : goal.returns
returns c = record { fine = due_transfers_are_fine }
