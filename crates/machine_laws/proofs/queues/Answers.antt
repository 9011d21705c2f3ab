use Rattle.machine_laws.proofs.QueueProofs.{thaws_in_reverse, queues_once}
use Rattle.machine_laws.proofs.queues.Goals as goal

pub returns : goal.returns
returns c = record { reverses = thaws_in_reverse; once = queues_once }
