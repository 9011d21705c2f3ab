use Rattle.law_steps.proofs.Kept.SourcesProofs.{source_stays, sources_left, sources_answered, sources_attached}
use Rattle.law_steps.proofs.kept_worlds.sources.Goals as goal

pub returns : goal.returns
returns c = record { stays = source_stays; left = sources_left; answered = sources_answered; attached = sources_attached }
