use Rattle.law_steps.proofs.Kept.FinaliseProofs.{finalisation_is_fine}
use Rattle.law_steps.proofs.kept_worlds.finalisation.Goals as goal

pub returns : goal.returns
returns c = record { fine = finalisation_is_fine }
