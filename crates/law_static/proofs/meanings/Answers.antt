use Rattle.law_static.proofs.AttachedProofs.{attached_fit, attached_are_paid}
use Rattle.law_static.proofs.ItemsProofs.{signals_come_last}
use Rattle.law_static.proofs.MeansProofs.{handlers_mean, raised_known}
use Rattle.law_static.proofs.meanings.Goals as goal

pub returns : goal.returns
returns c = record { handlers = handlers_mean; raised = raised_known; attached = attached_fit; paid = attached_are_paid; last = signals_come_last }
