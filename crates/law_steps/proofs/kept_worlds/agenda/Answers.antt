use Rattle.law_steps.proofs.Kept.AgendaProofs.{agenda_served}
use Rattle.law_steps.proofs.kept_worlds.agenda.Goals as goal

pub returns : goal.returns
returns c = record { served = agenda_served }
