use Rattle.law_steps.proofs.Kept.DisposedProofs.{dispose_keeps}
use Rattle.law_steps.proofs.kept_worlds.disposal.Goals as goal

pub returns : goal.returns
returns c = record { keeps = dispose_keeps }
