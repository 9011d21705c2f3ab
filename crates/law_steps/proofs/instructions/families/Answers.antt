use Rattle.law_steps.proofs.Instructed.FamilyProofs.{families_are_fine}
use Rattle.law_steps.proofs.instructions.families.Goals as goal

pub returns : goal.returns
returns c = record { fine = families_are_fine }
