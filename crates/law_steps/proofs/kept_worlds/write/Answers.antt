use Rattle.law_steps.proofs.Kept.WriteProofs.{write_keeps}
use Rattle.law_steps.proofs.kept_worlds.write.Goals as goal

pub returns : goal.returns
returns c = record { keeps = write_keeps }
