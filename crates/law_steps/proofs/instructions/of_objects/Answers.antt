use Rattle.law_steps.proofs.Instructed.ReadProofs.{reads_are_fine}
use Rattle.law_steps.proofs.Instructed.ReleaseProofs.{releases_are_fine}
use Rattle.law_steps.proofs.instructions.of_objects.Goals as goal

pub returns : goal.returns
returns c = record { reads = reads_are_fine; releases = releases_are_fine }
