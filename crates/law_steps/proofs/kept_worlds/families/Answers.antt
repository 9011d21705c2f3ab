use Rattle.law_steps.proofs.Kept.FamilyProofs.{families_keep}
use Rattle.law_steps.proofs.kept_worlds.families.Goals as goal

pub returns : goal.returns
returns c = record { keep = families_keep }
