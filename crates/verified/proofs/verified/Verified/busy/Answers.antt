use Rattle.std.proofs.Common.{◌∙◌, ap}
use Rattle.law_idle.specs.Idle.{busy_channels}
use Rattle.verified.proofs.verified.Verified.busy.Goals as goal

pub returns : goal.returns
returns c = c.self.invariant.busy_channels ∙ ap busy_channels c.self.view_is
