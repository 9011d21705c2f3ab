use Rattle.law_steps.proofs.Tasked.TransferProofs.{transfers_are_fine}
use Rattle.law_steps.proofs.Tasked.TurnProofs.{class_handlers_are_fine, handlers_are_fine}
use Rattle.law_steps.proofs.tasks.turns.Goals as goal

pub returns : goal.returns
returns c = record { class_handlers = class_handlers_are_fine; handlers = handlers_are_fine; transfers = transfers_are_fine }
