use Rattle.law_steps.proofs.Kept.AlikeProofs.{whole_stays, build_stays}
use Rattle.law_steps.proofs.kept_worlds.alike.Goals as goal

pub returns : goal.returns
returns c = record { stays = whole_stays; build = build_stays }
