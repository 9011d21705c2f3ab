use Rattle.law_steps.proofs.Kept.ChangesProofs.{value_is_like, queue_is_like, freeze_is_like, thaw_is_like}
use Rattle.law_steps.proofs.kept_worlds.changes.Goals as goal

pub returns : goal.returns
returns c = record { value = value_is_like; queue = queue_is_like; freeze = freeze_is_like; thaw = thaw_is_like }
